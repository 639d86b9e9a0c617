-- The rule of the method on the conclusions of the proofs.
use Rattle.std.proofs.Common.{sym}
use Rattle.std.proofs.lemmas.Result.{IfOk-weaker}
use Rattle.mw_heap.specs.Lists.{list_object}
use Rattle.mw_proof.specs.Judging.{basis_over}
use Rattle.mw_lower.proofs.MethodSteps.{follows_by, no_method_follows, conclusions_formed}
use Rattle.mw_lower.proofs.method.follows_from.Goals as goal

pub follows-requires-clause-formulas : goal.follows-requires-clause-formulas
follows-requires-clause-formulas c =
    let os = c.args.heap.now.objects in
    let A = c.requires.marks.0 in
    let b = basis_over os A c.args.basis.now in
    let h = c.requires.proofs A c.requires.marks.1 in
    conclusions_formed b os c.args.proofs.now c.as_slice.result.now c.in_ok-conclusions.conclusions.items h c.as_slice.ensures.value (c.in_ok-conclusions.ensures.conclusions b h)

pub returns-in_default-clause-answer : goal.returns-in_default-clause-answer
returns-in_default-clause-answer c = λ A k.
    let os = c.args.heap.now.objects in
    let b = basis_over os A c.args.basis.now in
    no_method_follows b os c.args.step (list_object os c.args.proofs.now) (sym c.in_default.ensures)

pub returns-clause-answer : goal.returns-clause-answer
returns-clause-answer c = IfOk-weaker c.follows.result _ _ (λ t h A k.
    let os = c.args.heap.now.objects in
    let b = basis_over os A c.args.basis.now in
    let is = c.in_ok-conclusions.ensures.conclusions b (c.requires.proofs A k) in
    follows_by b os c.args.step (list_object os c.args.proofs.now) c.as_slice.result.now c.in_ok-conclusions.conclusions.items _ t c.as_slice.ensures.value is c.in-Some.ensures (h A k)) c.follows.ensures.answer
