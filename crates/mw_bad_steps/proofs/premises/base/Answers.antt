-- The formula and the conditions, as a disjunction.
use Rattle.std.proofs.Common.{ap, ◌∙◌}
use Rattle.std.proofs.lemmas.Result.{IfOk-weaker}
use Rattle.mw_model.specs.Laws.RulesInduction.{disjunction_object}
use Rattle.mw_heap.specs.Objects.{object_at}
use Rattle.mw_heap.specs.Lists.{list_object}
use Rattle.mw_bad_steps.specs.Members.{members_in}
use Rattle.mw_bad_steps.proofs.PremisesPut.{base_listed, disjunction_listed}
use Rattle.mw_bad_steps.proofs.premises.base.Goals as goal

pub returns-clause-made : goal.returns-clause-made
returns-clause-made c =
    let os = c.args.heap.now.objects in
    let qs = object_at os c.args.conditions in
    let listed = base_listed os _ c.push.new.self.items c.put_members.new.members.items c.args.a (members_in qs) c.new-members.ensures.items c.in_ok-push.ensures.items c.in_ok-put_members.ensures in
    IfOk-weaker c.disjunction.result _ _ (λ r e. e ∙ (ap (λ l. disjunction_object (list_object os l)) c.deref.ensures.value ∙ (ap disjunction_object listed ∙ disjunction_listed (object_at os c.args.a) qs))) c.disjunction.ensures.made
