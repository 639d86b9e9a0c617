-- By the second member, and then by the theory's checker.
use Rattle.std.proofs.Common.{sym, ap, ◌∙◌}
use Rattle.std.proofs.lemmas.Result.{IfOk-weaker}
use Rattle.mw_model.specs.Terms.Object.{same_object}
use Rattle.mw_model.specs.Events.Checking.{judged_by}
use Rattle.mw_heap.specs.Objects.{object_at}
use Rattle.mw_term.proofs.CallerLemmas.{AreMarks-grows}
use Rattle.mw_theory.specs.Knowledge.{parts_of, name_read, meant}
use Rattle.mw_kernel.proofs.Judged.{judged-other, judged-concluded}
use Rattle.mw_kernel.proofs.judging.refusal_of_proof.Goals as goal

pub returns-then-not-is_same-clause-refusal : goal.returns-then-not-is_same-clause-refusal
returns-then-not-is_same-clause-refusal c =
    let os = c.args.heap.now.objects in
    judged-other (meant os (parts_of c.args.theory.now)) c.args.steps (object_at os c.args.formula) (object_at os c.args.proof)
    (ap (λ x. same_object x (object_at os c.args.formula)) (sym c.second_of.ensures.value) ∙ (sym c.is_same.ensures ∙ c.if-not-is_same.true))

pub returns-in-None-clause-refusal : goal.returns-in-None-clause-refusal
returns-in-None-clause-refusal c =
    let os = c.args.heap.now.objects in
    let t = meant os (parts_of c.args.theory.now) in
    let p = object_at os c.args.proof in
    IfOk-weaker c.refusal_by_rules.result _ _ (λ r is. is ∙ (ap (λ o. judged_by (name_read os o) t p c.args.steps) (sym c.in-None.is)
    ∙ judged-concluded t c.args.steps (object_at os c.args.formula) p (ap (λ x. same_object x (object_at os c.args.formula)) (sym c.second_of.ensures.value) ∙ (sym c.is_same.ensures ∙ c.if-not-is_same.false))))
    (c.refusal_by_rules.ensures.refusal c.args.steps)

pub returns-in-Some-clause-refusal : goal.returns-in-Some-clause-refusal
returns-in-Some-clause-refusal c =
    let os = c.args.heap.now.objects in
    let t = meant os (parts_of c.args.theory.now) in
    let p = object_at os c.args.proof in
    IfOk-weaker c.refusal_by_run.result _ _ (λ r is. is ∙ (ap (λ o. judged_by (name_read os o) t p c.args.steps) (sym c.in-Some.is)
    ∙ judged-concluded t c.args.steps (object_at os c.args.formula) p (ap (λ x. same_object x (object_at os c.args.formula)) (sym c.second_of.ensures.value) ∙ (sym c.is_same.ensures ∙ c.if-not-is_same.false))))
    c.refusal_by_run.ensures.refusal

pub returns-in-Some-clause-marked : goal.returns-in-Some-clause-marked
returns-in-Some-clause-marked c = AreMarks-grows _ _ _ _ c.refusal_by_run.ensures.grows c.requires.marked
