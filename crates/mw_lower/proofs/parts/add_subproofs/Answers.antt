-- By the members of the step, and by whether its subproofs are few and have conclusions.
use Rattle.std.proofs.Common.{◌≡◌, false, ◌⊎◌, inl, inr, IfSome, sym, subst, arith}
use Rattle.mw_model.specs.Laws.RulesInduction.{length_object}
use Rattle.mw_heap.specs.Objects.{object_at}
use Rattle.mw_proof.specs.Gathered.{AddsMembers}
use Rattle.mw_proof.specs.Judging.{have_conclusions, IsOver, IsAnswer}
use Rattle.mw_proof.proofs.Gathering.{adds}
use Rattle.mw_lower.proofs.DerivationSteps.{no_shape_derived, no_subproofs}
use Rattle.mw_lower.proofs.NoDerivations.{no_conclusions, too_many}
use Rattle.mw_lower.proofs.parts.add_subproofs.Goals as goal

pub returns-in_default-clause-none : goal.returns-in_default-clause-none
returns-in_default-clause-none c = λ e b k. no_shape_derived b (object_at c.args.heap.now.objects c.args.p) (sym c.in_default.ensures.shape)

pub returns-in_default-2-clause-none : goal.returns-in_default-2-clause-none
returns-in_default-2-clause-none c = λ e b k.
    let os = c.args.heap.now.objects in
    let m = c.in-Some.step in
    let am = c.in-Some.ensures.members in
    let most = c.most_premises-most.result in
    let answer : (have_conclusions b.table (object_at os m.subproofs) ≡ false) ⊎ IsOver most (length_object (object_at os m.subproofs)) = subst (IsAnswer b.table os m.subproofs most) c.in_default-2.is (c.in_ok-conclusions.ensures.answer b.table k) in
    elim answer [
      | inl bad ↦ no_subproofs b os c.args.p m c.in-Some.ensures.shape am (no_conclusions b (object_at os m.subproofs) bad)
      | inr over ↦ too_many b os c.args.p m c.in-Some.ensures.shape am (subst (λ n. IsOver n (length_object (object_at os m.subproofs))) c.most_premises-most.ensures over)
    ]

pub returns-clause-found : goal.returns-clause-found
returns-clause-found c = λ e.
    let os = c.args.heap.now.objects in
    let m = c.in-Some.step in
    let am = c.in-Some.ensures.members in
    let members = subst (λ o. IfSome o (λ cs. AddsMembers os m.subproofs c.args.found.now.keys c.conclusions_of.new.found.keys)) c.in-Some-2.is c.in_ok-conclusions.ensures.found in
    adds os c.args.p m.subproofs c.args.found.now.keys c.conclusions_of.new.found.keys members (omega (arith, am.subproofs_before)) am.subproofs_are (sym c.in-Some.ensures.shape)
