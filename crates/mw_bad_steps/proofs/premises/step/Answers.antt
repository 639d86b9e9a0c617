-- The formula, the negated condition and the hypotheses, as a disjunction.
use Rattle.std.proofs.Common.{ap, ap₂, ◌∙◌}
use Rattle.std.proofs.lemmas.Result.{IfOk-weaker}
use Rattle.mw_model.specs.Terms.Object.{Pair}
use Rattle.mw_model.specs.Laws.RulesInduction.{disjunction_object, hypotheses_object}
use Rattle.mw_heap.specs.Objects.{object_at}
use Rattle.mw_heap.specs.Lists.{list_object}
use Rattle.mw_heap.proofs.Objects.{object_at-Grows}
use Rattle.mw_bad_steps.specs.Members.{members_in}
use Rattle.mw_bad_steps.proofs.PremisesPut.{step_listed, hypotheses_listed}
use Rattle.mw_bad_steps.proofs.premises.step.Goals as goal

pub returns-clause-made : goal.returns-clause-made
returns-clause-made c =
    let os = c.args.heap.now.objects in
    let mid = c.not.new.heap.objects in
    let new = c.put_hypotheses.new.heap.objects in
    let g = c.in_ok-negation.ensures.grows in
    let a = object_at-Grows os mid g c.args.a c.requires.within in
    let ss = object_at-Grows os mid g c.args.substitutions c.requires.substitutions in
    let xs = members_in (hypotheses_object (object_at mid c.args.a) (object_at mid c.args.substitutions)) in
    let listed = step_listed mid new _ c.push.new.self.items c.push-2.new.self.items c.put_hypotheses.new.members.items c.args.a c.in_ok-negation.negation xs c.new-members.ensures.items c.in_ok-push.ensures.items c.in_ok-push-2.ensures.items c.in_ok-put_hypotheses.ensures.put in
    let parts = ap₂ Pair a (ap₂ Pair c.in_ok-negation.ensures.made (hypotheses_listed (object_at mid c.args.a) (object_at mid c.args.substitutions) ∙ ap₂ hypotheses_object a ss)) in
    IfOk-weaker c.disjunction.result _ _ (λ r e. e ∙ (ap (λ l. disjunction_object (list_object new l)) c.deref.ensures.value ∙ ap disjunction_object (listed ∙ parts))) c.disjunction.ensures.made
