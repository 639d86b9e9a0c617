-- The inequalities and then the end, as a disjunction.
use Rattle.std.proofs.Common.{[], ◌∷◌, ◌++◌, map, ap, ap₂, ◌∙◌}
use Rattle.std.proofs.lemmas.List.{map-append}
use Rattle.std.proofs.lemmas.Result.{IfOk-weaker}
use Rattle.mw_model.specs.Laws.RulesInduction.{disjunction_object}
use Rattle.mw_heap.specs.Objects.{object_at}
use Rattle.mw_heap.specs.Lists.{list_object}
use Rattle.mw_heap.proofs.Objects.{object_at-Grows}
use Rattle.mw_bad_steps.specs.Candidates.{inequalities_in}
use Rattle.mw_bad_steps.proofs.ShownMore.{list_object-listed}
use Rattle.mw_bad_steps.proofs.EqualCalls.{unless_listed}
use Rattle.mw_bad_steps.proofs.equal_calls.unless_equal.Goals as goal

pub returns-clause-made : goal.returns-clause-made
returns-clause-made c =
    let os = c.args.heap.now.objects in
    let mid = c.put_inequalities.new.heap.objects in
    let has = c.put_inequalities.new.members.items in
    let end = c.args.end in
    let x = object_at os c.args.firsts in
    let y = object_at os c.args.seconds in
    let put = c.in_ok-put_inequalities.ensures.put.1 ∙ ap (λ l. map (object_at os) l ++ inequalities_in x y) c.new-members.ensures.items in
    let here = object_at-Grows os mid c.put_inequalities.ensures.grows end c.requires.end in
    let items = ap (map (object_at mid)) c.in_ok-push.ensures.items ∙ (map-append (object_at mid) has (end ∷ []) ∙ ap₂ (λ l z. l ++ z ∷ []) put here) in
    let listed = list_object-listed mid c.push.new.self.items (inequalities_in x y ++ object_at os end ∷ []) items in
    IfOk-weaker c.disjunction.result _ _ (λ r e. e ∙ (ap (λ l. disjunction_object (list_object mid l)) c.deref.ensures.value ∙ (ap disjunction_object listed ∙ unless_listed x y (object_at os end)))) c.disjunction.ensures.made
