-- The tests of the functions and of their proofs; what is accepted is then added.
use Rattle.std.proofs.Common.{refl, sym, ap, ◌∙◌, subst}
use Rattle.mw_model.specs.Terms.Object.{NIL}
use Rattle.mw_model.specs.Events.Theory.{IsSound}
use Rattle.mw_model.proofs.Names.{same_object-eq}
use Rattle.mw_heap.specs.Objects.{object_at}
use Rattle.mw_heap.proofs.Objects.{Grows-refl}
use Rattle.mw_theory.specs.Worlds.{theory_in}
use Rattle.mw_theory.specs.Settling.{defined, IsDefined}
use Rattle.mw_theory.specs.Settled.{Settles}
use Rattle.mw_theory.specs.Admitting.{drafts_given}
use Rattle.mw_theory.proofs.Held.{held, grown-marked}
use Rattle.mw_theory.proofs.Refusing.{none_of}
use Rattle.mw_theory.proofs.Settlings.{settles-stays, settles-failed, settles-from}
use Rattle.mw_theory.proofs.Defined.{theory-same, defined-refused, kept-theory, kept-defined, kept-accepted}
use Rattle.mw_theory.proofs.Drafting.{within-grows}
use Rattle.mw_theory.proofs.world.World.define.Goals as goal

pub define_alone-requires-clause-sound : goal.define_alone-requires-clause-sound
define_alone-requires-clause-sound g c =
    let old = c.args.self.now in
    let J = g.J.Judge.judges c.args.judge.now old.heap.objects in
    let none = same_object-eq (object_at old.heap.objects c.args.proofs) NIL (sym c.is_nil.ensures ∙ c.if-is_nil.true) in
    (J, subst (λ P. IsSound (defined J (theory_in old) (drafts_given old.heap.objects c.args.drafts) P).1) none c.requires.sound)

pub returns-then-is_nil-clause-settled : goal.returns-then-is_nil-clause-settled
returns-then-is_nil-clause-settled g c =
    let old = c.args.self.now in
    let J = g.J.Judge.judges c.args.judge.now old.heap.objects in
    let none = same_object-eq (object_at old.heap.objects c.args.proofs) NIL (sym c.is_nil.ensures ∙ c.if-is_nil.true) in
    subst (λ P. Settles c.define_alone.result old c.define_alone.new.self (defined J (theory_in old) (drafts_given old.heap.objects c.args.drafts) P)) (sym none) (c.define_alone.ensures J)

pub refusal_of_definitions-requires-clause-may : goal.refusal_of_definitions-requires-clause-may
refusal_of_definitions-requires-clause-may g c =
    let os = c.args.self.now.heap.objects in
    record { held = held _ _ _ _ c.requires.world; ready = (os, Grows-refl os, c.requires.ready); marked = c.requires.world.marked }

pub returns-in_err-refused-clause-settled : goal.returns-in_err-refused-clause-settled
returns-in_err-refused-clause-settled g c =
    let old = c.args.self.now in
    settles-failed old _ (defined (g.J.Judge.judges c.args.judge.now old.heap.objects) (theory_in old) (drafts_given old.heap.objects c.args.drafts) (object_at old.heap.objects c.args.proofs)) (grown-marked _ _ _ _ c.requires.world c.refusal_of_definitions.new.heap.objects c.refusal_of_definitions.ensures.grows c.refusal_of_definitions.new.marks c.refusal_of_definitions.ensures.marked) c.from_residual.result c.from_residual.ensures.0 (theory-same _ _ _ _ c.requires.world c.refusal_of_definitions.new.heap.objects c.refusal_of_definitions.ensures.grows)

pub returns-then-is_some-clause-settled : goal.returns-then-is_some-clause-settled
returns-then-is_some-clause-settled g c =
    let old = c.args.self.now in
    let refused = defined-refused (g.J.Judge.judges c.args.judge.now old.heap.objects) (theory_in old) (drafts_given old.heap.objects c.args.drafts) (object_at old.heap.objects c.args.proofs) c.in_ok-refused.refused (sym c.is_some.ensures ∙ c.if-is_some.true) (c.in_ok-refused.ensures.defined old.heap.objects (Grows-refl old.heap.objects) c.requires.ready) in
    settles-stays old _ (defined (g.J.Judge.judges c.args.judge.now old.heap.objects) (theory_in old) (drafts_given old.heap.objects c.args.drafts) (object_at old.heap.objects c.args.proofs)) (grown-marked _ _ _ _ c.requires.world c.refusal_of_definitions.new.heap.objects c.refusal_of_definitions.ensures.grows c.refusal_of_definitions.new.marks c.refusal_of_definitions.ensures.marked) c.in_ok-refused.refused refl c.refusal_of_definitions.ensures.grows (theory-same _ _ _ _ c.requires.world c.refusal_of_definitions.new.heap.objects c.refusal_of_definitions.ensures.grows) refused.0 refused.1

pub cut_after-requires-clause-world : goal.cut_after-requires-clause-world
cut_after-requires-clause-world g c = grown-marked _ _ _ _ c.requires.world c.refusal_of_definitions.new.heap.objects c.refusal_of_definitions.ensures.grows c.refusal_of_definitions.new.marks c.refusal_of_definitions.ensures.marked

pub cut_after-requires-clause-drafts : goal.cut_after-requires-clause-drafts
cut_after-requires-clause-drafts g c = within-grows c.args.self.now.heap.objects c.refusal_of_definitions.new.heap.objects c.refusal_of_definitions.ensures.grows c.args.drafts c.requires.drafts

pub add_functions-requires-clause-accepted : goal.add_functions-requires-clause-accepted
add_functions-requires-clause-accepted g c =
    let old = c.args.self.now in
    let J = g.J.Judge.judges c.args.judge.now old.heap.objects in
    let P = object_at old.heap.objects c.args.proofs in
    let told = subst (IsDefined J (theory_in old) (drafts_given old.heap.objects c.args.drafts) P) (none_of c.in_ok-refused.refused (sym c.is_some.ensures ∙ c.if-is_some.false)) (c.in_ok-refused.ensures.defined old.heap.objects (Grows-refl old.heap.objects) c.requires.ready) in
    (J, P, kept-accepted _ _ _ _ c.requires.world c.refusal_of_definitions.new.heap.objects c.refusal_of_definitions.ensures.grows c.args.drafts c.cut_after.new.self c.cut_after.ensures.theory c.cut_after.ensures.drafts.1 c.requires.drafts J P told c.requires.sound)

pub returns-clause-settled : goal.returns-clause-settled
returns-clause-settled g c =
    let old = c.args.self.now in
    let J = g.J.Judge.judges c.args.judge.now old.heap.objects in
    let P = object_at old.heap.objects c.args.proofs in
    let told = subst (IsDefined J (theory_in old) (drafts_given old.heap.objects c.args.drafts) P) (none_of c.in_ok-refused.refused (sym c.is_some.ensures ∙ c.if-is_some.false)) (c.in_ok-refused.ensures.defined old.heap.objects (Grows-refl old.heap.objects) c.requires.ready) in
    let same = kept-defined _ _ _ _ c.requires.world c.refusal_of_definitions.new.heap.objects c.refusal_of_definitions.ensures.grows c.args.drafts c.cut_after.new.self c.cut_after.ensures.theory c.cut_after.ensures.drafts.1 c.requires.drafts J P in
    let accepted = kept-accepted _ _ _ _ c.requires.world c.refusal_of_definitions.new.heap.objects c.refusal_of_definitions.ensures.grows c.args.drafts c.cut_after.new.self c.cut_after.ensures.theory c.cut_after.ensures.drafts.1 c.requires.drafts J P told c.requires.sound in
    let stays = kept-theory _ _ _ _ c.requires.world c.refusal_of_definitions.new.heap.objects c.refusal_of_definitions.ensures.grows c.args.drafts c.cut_after.new.self c.cut_after.ensures.theory c.cut_after.ensures.drafts.1 c.requires.drafts in
    settles-from c.add_functions.result old c.cut_after.new.self c.add_functions.new.self (defined (g.J.Judge.judges c.args.judge.now old.heap.objects) (theory_in old) (drafts_given old.heap.objects c.args.drafts) (object_at old.heap.objects c.args.proofs)) stays (ap (λ r. r.0) told.1)
    (subst (Settles c.add_functions.result c.cut_after.new.self c.add_functions.new.self) same (c.add_functions.ensures J P accepted))
