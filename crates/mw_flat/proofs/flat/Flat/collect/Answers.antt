-- A step that is not good, one that is good, and memory that is refused.
use Rattle.std.proofs.Common.{◌≡◌, true, Some, None, IfSome, refl, ap, ◌∙◌, subst}
use Rattle.mw_model.specs.Laws.Rules.{is_formula_object}
use Rattle.mw_heap.specs.Objects.{object_at, IsIn}
use Rattle.mw_flat.specs.Going.{theory_of, going_of}
use Rattle.mw_flat.proofs.Noting.{Notes, same_theory, notes-after-bad, judged-by, goes-on, goes-on-bad, notes-bad, notes-good, goes-on-good}
use Rattle.mw_flat.proofs.flat.Flat.collect.Goals as goal

pub returns-then-not-self-clause-noted : goal.returns-then-not-self-clause-noted
returns-then-not-self-clause-noted c =
    let w = c.self.inside.world in
    let old = c.self.inside.collected in
    let new = c.add_bad.new.self in
    subst (λ g. Notes g (going_of w new) (object_at g.objects c.args.x)) c.self.view_is
    (notes-after-bad w old c.self.invariant new (object_at w.heap.objects c.args.x) c.if-not-self.true c.add_bad.ensures.good c.add_bad.ensures.count)

pub invariant_of-self-in_err-conclusion : goal.invariant_of-self-in_err-conclusion
invariant_of-self-in_err-conclusion c =
    let e = c.in_err-conclusion.ensures in
    goes-on c.self.inside.world c.self.inside.collected c.self.invariant c.conclude.new.world e.world e.objects e.theory_kept _ refl refl refl

pub invariant_of-self-in_default : goal.invariant_of-self-in_default
invariant_of-self-in_default c =
    let e = c.conclude.ensures in
    let b = c.add_bad-in_default.ensures in
    goes-on-bad c.self.inside.world c.self.inside.collected c.self.invariant c.conclude.new.world e.world e.objects e.theory_kept c.add_bad-in_default.new.self (ap (λ v. v.items) b.conclusions) b.good

pub returns-in_default-clause-noted : goal.returns-in_default-clause-noted
returns-in_default-clause-noted c =
    let w = c.self.inside.world in
    let old = c.self.inside.collected in
    let new = c.add_bad-in_default.new.self in
    let x = object_at w.heap.objects c.args.x in
    let e = c.conclude.ensures in
    let b = c.add_bad-in_default.ensures in
    let judged = judged-by w old c.self.invariant c.deref.result.now x c.in_ok-conclusion.field-0 None c.deref.ensures.value c.in_default.is c.in_ok-conclusion.ensures.conclusion in
    subst (λ g. Notes g (going_of c.conclude.new.world new) (object_at g.objects c.args.x)) c.self.view_is
    (notes-bad w old c.self.invariant c.conclude.new.world e.world e.objects e.theory_kept new x judged b.good b.count)

pub invariant_of-self-in_err-add : goal.invariant_of-self-in_err-add
invariant_of-self-in_err-add c =
    let e = c.conclude.ensures in
    let a = c.in_err-add.ensures in
    goes-on c.self.inside.world c.self.inside.collected c.self.invariant c.conclude.new.world e.world e.objects e.theory_kept c.add.new.self a.err a.good a.err_count

pub invariant_of-self-2 : goal.invariant_of-self-2
invariant_of-self-2 c =
    let w = c.self.inside.world in
    let old = c.self.inside.collected in
    let new = c.add.new.self in
    let x = object_at w.heap.objects c.args.x in
    let r = c.in-Some.conclusion in
    let e = c.conclude.ensures in
    let a = c.in_ok-add.ensures in
    let judged = judged-by w old c.self.invariant c.deref.result.now x c.in_ok-conclusion.field-0 (Some r) c.deref.ensures.value c.in-Some.is c.in_ok-conclusion.ensures.conclusion in
    let formula = subst (λ o. IfSome o (λ q. IsIn w.heap.objects q × (is_formula_object w.theory.arity (object_at w.heap.objects q) ≡ true))) c.in-Some.is c.in_ok-conclusion.ensures.formula in
    goes-on-good w old c.self.invariant c.conclude.new.world e.world e.objects e.theory_kept new x r judged a.conclusions a.good a.count formula c.if-not-self.false

pub returns-clause-noted : goal.returns-clause-noted
returns-clause-noted c =
    let w = c.self.inside.world in
    let old = c.self.inside.collected in
    let new = c.add.new.self in
    let x = object_at w.heap.objects c.args.x in
    let r = c.in-Some.conclusion in
    let e = c.conclude.ensures in
    let a = c.in_ok-add.ensures in
    let judged = judged-by w old c.self.invariant c.deref.result.now x c.in_ok-conclusion.field-0 (Some r) c.deref.ensures.value c.in-Some.is c.in_ok-conclusion.ensures.conclusion in
    subst (λ g. Notes g (going_of c.conclude.new.world new) (object_at g.objects c.args.x)) c.self.view_is
    (notes-good w old c.self.invariant c.conclude.new.world e.world e.objects e.theory_kept new x r judged a.conclusions a.good a.count)

pub returns-in_err-conclusion-clause-theory : goal.returns-in_err-conclusion-clause-theory
returns-in_err-conclusion-clause-theory c = let e = c.in_err-conclusion.ensures in same_theory c.self.inside.world c.self.inside.collected c.self.invariant c.conclude.new.world e.world e.objects e.theory_kept c.self.inside.collected ∙ ap theory_of c.self.view_is

pub returns-in_default-clause-theory : goal.returns-in_default-clause-theory
returns-in_default-clause-theory c = let e = c.conclude.ensures in same_theory c.self.inside.world c.self.inside.collected c.self.invariant c.conclude.new.world e.world e.objects e.theory_kept c.add_bad-in_default.new.self ∙ ap theory_of c.self.view_is

pub returns-in_err-add-clause-theory : goal.returns-in_err-add-clause-theory
returns-in_err-add-clause-theory c = let e = c.conclude.ensures in same_theory c.self.inside.world c.self.inside.collected c.self.invariant c.conclude.new.world e.world e.objects e.theory_kept c.add.new.self ∙ ap theory_of c.self.view_is

pub returns-clause-theory : goal.returns-clause-theory
returns-clause-theory c = let e = c.conclude.ensures in same_theory c.self.inside.world c.self.inside.collected c.self.invariant c.conclude.new.world e.world e.objects e.theory_kept c.add.new.self ∙ ap theory_of c.self.view_is
