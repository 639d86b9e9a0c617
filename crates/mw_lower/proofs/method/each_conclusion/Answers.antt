-- One conclusion more.
use Rattle.std.proofs.Common.{◌+◌, [], sym, ap, ◌∙◌, subst, append-nil}
use Rattle.mw_model.specs.Terms.Object.{second_of}
use Rattle.mw_heap.specs.Objects.{object_at}
use Rattle.mw_proof.specs.Step.{conclusions_object}
use Rattle.mw_heap.specs.Lists.{list_object}
use Rattle.mw_lower.proofs.Premises.{Concludes, Concludes-more, Concludes-skip, nothing_left}
use Rattle.mw_lower.proofs.method.each_conclusion.Goals as goal
use Rattle.mw_lower.proofs.method.each_conclusion.Goals.{in-Some+in_ok-push, in_default}

pub loop-p-preserved : goal.loop-p-preserved
loop-p-preserved c =
    let os = c.args.heap.now.objects in
    let ps = c.args.proofs.now in
    let i = c.loop-p.p-index in
    let p = c.p-item.result in
    let value = ap (λ z. second_of (object_at os z)) c.p-item.is in
    elim c.match-second_of.branch [
      | in-Some+in_ok-push w ↦
          subst (λ v. Concludes os ps (i + 1) v.items) (sym w.conclusions-is) (subst (Concludes os ps (i + 1)) (sym w.in_ok-push.ensures.items)
          (Concludes-more os ps c.loop-p.conclusions.items i p c.loop-p-test.true c.loop-p.invariant w.in-Some.conclusion w.in-Some.ensures.within (w.in-Some.ensures.value ∙ value)))
      | in_default w ↦
          subst (λ v. Concludes os ps (i + 1) v.items) (sym w.conclusions-is)
          (Concludes-skip os ps c.loop-p.conclusions.items i p c.loop-p-test.true c.loop-p.invariant (w.in_default.ensures.value ∙ value))
    ]

pub returns-clause-conclusions : goal.returns-clause-conclusions
returns-clause-conclusions c = λ b h.
    let os = c.args.heap.now.objects in
    let cs = c.loop-p.conclusions.items in
    ap (list_object os) (sym (append-nil cs)) ∙ c.loop-p.invariant.whole b h [] (sym (ap conclusions_object (nothing_left os c.args.proofs.now c.loop-p.p-index c.loop-p-test.false)))
