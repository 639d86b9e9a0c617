-- After the tests the event comes to what the log answers.
use Rattle.std.proofs.Common.{length, sym, ap, ◌∙◌, option_map}
use Rattle.mw_heap.specs.Variants.{refusal_of}
use Rattle.std.specs.Prelude.{Some}
use Rattle.mw_commands.specs.Commands.Log.{entry_of}
use Rattle.mw_heap.specs.Objects.{object_at}
use Rattle.mw_theory.specs.Worlds.{theory_in}
use Rattle.mw_theory.proofs.CallerLemmas.{before-later}
use Rattle.mw_flat.proofs.Goings.{unnamed}
use Rattle.mw_flat.proofs.Answered.{no-form, wordless, absent, no-step}
use Rattle.mw_flat.proofs.Settled.{answer_by_fate, fate-answered}
use Rattle.mw_flat.proofs.GoodSteps.{logged-settles, settles-sound, settles-built_in}
use Rattle.mw_flat.proofs.flat.answer.Goals as goal

pub returns-in_default-clause-answer : goal.returns-in_default-clause-answer
returns-in_default-clause-answer c = λ steps h.
    let os = c.args.world.now.heap.objects in
    ap (λ r. Some r.0) (sym (no-form (theory_in c.args.world.now) steps (object_at os c.args.x) (wordless (object_at os c.args.x) c.in_default.ensures.event)))

pub returns-in_default-clause-theory : goal.returns-in_default-clause-theory
returns-in_default-clause-theory c = λ steps h.
    let os = c.args.world.now.heap.objects in
    ap (λ r. r.1) (sym (no-form (theory_in c.args.world.now) steps (object_at os c.args.x) (wordless (object_at os c.args.x) c.in_default.ensures.event)))

pub returns-then-not-branch-clause-answer : goal.returns-then-not-branch-clause-answer
returns-then-not-branch-clause-answer c = λ steps h.
    let os = c.args.world.now.heap.objects in
    ap (λ r. Some r.0) (sym (no-form (theory_in c.args.world.now) steps (object_at os c.args.x) (absent (entry_of (object_at os c.args.x)) (sym c.in_ok-is_entry.ensures ∙ c.if-not-branch.true))))

pub returns-then-not-branch-clause-theory : goal.returns-then-not-branch-clause-theory
returns-then-not-branch-clause-theory c = λ steps h.
    let os = c.args.world.now.heap.objects in
    ap (λ r. r.1) (sym (no-form (theory_in c.args.world.now) steps (object_at os c.args.x) (absent (entry_of (object_at os c.args.x)) (sym c.in_ok-is_entry.ensures ∙ c.if-not-branch.true))))

pub returns-then-not-collected-clause-answer : goal.returns-then-not-collected-clause-answer
returns-then-not-collected-clause-answer c = λ steps h.
    let w = c.args.world.now in
    let there = sym c.in_ok-is_entry.ensures ∙ c.if-not-branch.false in
    ap (λ r. Some r.0) (sym (no-step (theory_in w) steps (object_at w.heap.objects c.args.x) w.heap.objects c.args.collected.now.good c.args.collected.now.conclusions.items c.if-not-collected.true there h.conclusions))

pub returns-then-not-collected-clause-theory : goal.returns-then-not-collected-clause-theory
returns-then-not-collected-clause-theory c = λ steps h.
    let w = c.args.world.now in
    let there = sym c.in_ok-is_entry.ensures ∙ c.if-not-branch.false in
    ap (λ r. r.1) (sym (no-step (theory_in w) steps (object_at w.heap.objects c.args.x) w.heap.objects c.args.collected.now.good c.args.collected.now.conclusions.items c.if-not-collected.true there h.conclusions))

pub settle-requires-clause-within : goal.settle-requires-clause-within
settle-requires-clause-within c = let os = c.args.world.now.heap.objects in before-later c.args.x (length os) c.requires.within c.in-Some.event c.in-Some.ensures.event.1

pub settle-requires-clause-sound : goal.settle-requires-clause-sound
settle-requires-clause-sound c =
    let i = c.requires.going in
    settles-sound c.args.world.now c.args.collected.now i c.if-not-collected.false c.args.x c.in-Some.event c.in-Some.ensures.event (sym c.in_ok-is_entry.ensures ∙ c.if-not-branch.false) c.logs_keep.ensures.event

pub returns-clause-built_in : goal.returns-clause-built_in
returns-clause-built_in c =
    let i = c.requires.going in
    unnamed c.settle.new.self.heap.objects c.settle.new.self.theory.checker (ap (λ t. t.checker) c.in_ok-refused.ensures.settled.theory ∙ settles-built_in c.args.world.now c.args.collected.now i c.if-not-collected.false c.args.x c.in-Some.event c.in-Some.ensures.event (sym c.in_ok-is_entry.ensures ∙ c.if-not-branch.false) c.logs_keep.ensures.event)

pub returns-clause-answer : goal.returns-clause-answer
returns-clause-answer c = λ steps h.
    let i = c.requires.going in
    let same = logged-settles c.args.world.now c.args.collected.now i c.if-not-collected.false c.args.x c.in-Some.event c.in-Some.ensures.event (sym c.in_ok-is_entry.ensures ∙ c.if-not-branch.false) steps h in
    c.verdict_of.ensures ∙ ap Some (sym (fate-answered (option_map refusal_of c.in_ok-refused.refused)) ∙ (ap answer_by_fate c.in_ok-refused.ensures.settled.fate ∙ ap (λ a. a.0) (sym same)))

pub returns-clause-theory : goal.returns-clause-theory
returns-clause-theory c = λ steps h.
    let i = c.requires.going in
    let same = logged-settles c.args.world.now c.args.collected.now i c.if-not-collected.false c.args.x c.in-Some.event c.in-Some.ensures.event (sym c.in_ok-is_entry.ensures ∙ c.if-not-branch.false) steps h in
    c.in_ok-refused.ensures.settled.theory ∙ ap (λ a. a.1) (sym same)
