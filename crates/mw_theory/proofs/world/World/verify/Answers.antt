-- Refused, or a theorem more.
use Rattle.std.proofs.Common.{refl, sym, ap, ap₂, ◌∙◌, subst}
use Rattle.mw_model.specs.Events.Theory.{IsSound}
use Rattle.mw_heap.specs.Objects.{object_at}
use Rattle.mw_heap.proofs.Objects.{object_at-Grows, Grows-refl, IsIn-Grows}
use Rattle.mw_theory.specs.Knowledge.{with_theorem}
use Rattle.mw_theory.specs.Worlds.{theory_in}
use Rattle.mw_theory.specs.Settling.{by_refusal, verified}
use Rattle.mw_theory.proofs.Held.{held, grown-marked}
use Rattle.mw_theory.proofs.Defined.{theory-same}
use Rattle.mw_theory.proofs.Refusing.{fate_refused, none_of}
use Rattle.mw_theory.proofs.Settlings.{settles-stays, settles-failed, settles-accepted}
use Rattle.mw_theory.proofs.world.World.verify.Goals as goal

pub refusal-requires-clause-may : goal.refusal-requires-clause-may
refusal-requires-clause-may g c =
    let os = c.args.self.now.heap.objects in
    record { held = held _ _ _ _ c.requires.world; ready = (os, Grows-refl os, c.requires.ready); marked = c.requires.world.marked }

pub returns-in_err-refused-clause-settled : goal.returns-in_err-refused-clause-settled
returns-in_err-refused-clause-settled g c =
    let old = c.args.self.now in
    settles-failed old _ (verified (g.J.Judge.judges c.args.judge.now old.heap.objects) (theory_in old) (object_at old.heap.objects c.args.name) (object_at old.heap.objects c.args.formula) (object_at old.heap.objects c.args.proof)) (grown-marked _ _ _ _ c.requires.world c.refusal.new.heap.objects c.refusal.ensures.grows c.refusal.new.marks c.refusal.ensures.marked) c.from_residual.result c.from_residual.ensures.0 (theory-same _ _ _ _ c.requires.world c.refusal.new.heap.objects c.refusal.ensures.grows)

pub returns-then-is_some-clause-settled : goal.returns-then-is_some-clause-settled
returns-then-is_some-clause-settled g c =
    let old = c.args.self.now in
    let formula = object_at old.heap.objects c.args.formula in
    let refused = fate_refused (theory_in old) formula c.in_ok-refused.refused (sym c.is_some.ensures ∙ c.if-is_some.true) in
    let told = ap (by_refusal (theory_in old) formula) (c.in_ok-refused.ensures.refusal old.heap.objects (Grows-refl old.heap.objects) c.requires.ready) in
    settles-stays old _ (verified (g.J.Judge.judges c.args.judge.now old.heap.objects) (theory_in old) (object_at old.heap.objects c.args.name) (object_at old.heap.objects c.args.formula) (object_at old.heap.objects c.args.proof)) (grown-marked _ _ _ _ c.requires.world c.refusal.new.heap.objects c.refusal.ensures.grows c.refusal.new.marks c.refusal.ensures.marked) c.in_ok-refused.refused refl c.refusal.ensures.grows (theory-same _ _ _ _ c.requires.world c.refusal.new.heap.objects c.refusal.ensures.grows) (refused.0 ∙ ap (λ r. r.0) told) (refused.1 ∙ ap (λ r. r.1) told)

pub add_theorem-requires-clause-world : goal.add_theorem-requires-clause-world
add_theorem-requires-clause-world g c = grown-marked _ _ _ _ c.requires.world c.refusal.new.heap.objects c.refusal.ensures.grows c.refusal.new.marks c.refusal.ensures.marked

pub add_theorem-requires-clause-sound : goal.add_theorem-requires-clause-sound
add_theorem-requires-clause-sound g c =
    let old = c.args.self.now in
    let b = object_at old.heap.objects c.args.formula in
    let told = sym (c.in_ok-refused.ensures.refusal old.heap.objects (Grows-refl old.heap.objects) c.requires.ready) ∙ none_of c.in_ok-refused.refused (sym c.is_some.ensures ∙ c.if-is_some.false) in
    let same = theory-same _ _ _ _ c.requires.world c.refusal.new.heap.objects c.refusal.ensures.grows in
    let formula = object_at-Grows old.heap.objects c.refusal.new.heap.objects c.refusal.ensures.grows c.args.formula c.requires.formula in
    subst IsSound (sym (ap₂ with_theorem same formula)) (subst (λ r. IsSound (by_refusal (theory_in old) b r).1) told c.requires.sound)

pub returns-in_err-add_theorem-clause-settled : goal.returns-in_err-add_theorem-clause-settled
returns-in_err-add_theorem-clause-settled g c =
    let old = c.args.self.now in
    settles-failed old _ (verified (g.J.Judge.judges c.args.judge.now old.heap.objects) (theory_in old) (object_at old.heap.objects c.args.name) (object_at old.heap.objects c.args.formula) (object_at old.heap.objects c.args.proof)) c.in_err-add_theorem.ensures.world c.from_residual-in_err-add_theorem.result c.from_residual-in_err-add_theorem.ensures.0 (c.in_err-add_theorem.ensures.err ∙ theory-same _ _ _ _ c.requires.world c.refusal.new.heap.objects c.refusal.ensures.grows)

pub returns-clause-settled : goal.returns-clause-settled
returns-clause-settled g c =
    let old = c.args.self.now in
    let b = object_at old.heap.objects c.args.formula in
    let told = sym (c.in_ok-refused.ensures.refusal old.heap.objects (Grows-refl old.heap.objects) c.requires.ready) ∙ none_of c.in_ok-refused.refused (sym c.is_some.ensures ∙ c.if-is_some.false) in
    let comes = sym (ap (by_refusal (theory_in old) b) told) in
    let same = theory-same _ _ _ _ c.requires.world c.refusal.new.heap.objects c.refusal.ensures.grows in
    let formula = object_at-Grows old.heap.objects c.refusal.new.heap.objects c.refusal.ensures.grows c.args.formula c.requires.formula in
    settles-accepted old _ (verified (g.J.Judge.judges c.args.judge.now old.heap.objects) (theory_in old) (object_at old.heap.objects c.args.name) (object_at old.heap.objects c.args.formula) (object_at old.heap.objects c.args.proof)) c.in_ok-add_theorem.ensures.world (ap (λ r. r.0) comes) (c.in_ok-add_theorem.ensures.theory ∙ (ap₂ with_theorem same formula ∙ ap (λ r. r.1) comes))

pub add_theorem-requires-clause-within : goal.add_theorem-requires-clause-within
add_theorem-requires-clause-within g c = IsIn-Grows _ _ c.refusal.ensures.grows _ c.requires.formula
