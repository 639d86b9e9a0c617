-- One name and one value.
use Rattle.std.proofs.Common.{[], ◌∷◌, ap, ◌∙◌}
use Rattle.mw_model.specs.Terms.Object.{list1}
use Rattle.mw_model.specs.Terms.Term.{NoTerms, More}
use Rattle.mw_heap.proofs.Objects.{IsIn-Grows, object_at-Grows, Grows-trans}
use Rattle.mw_translate.proofs.let_forms.let_one.Goals as goal

pub list_of_one-requires-2 : goal.list_of_one-requires-2
list_of_one-requires-2 c = IsIn-Grows _ _ c.list_of_one.ensures.grows _ c.requires.value_in

pub returns-in_err-values-clause-grows : goal.returns-in_err-values-clause-grows
returns-in_err-values-clause-grows c = Grows-trans _ _ _ c.list_of_one.ensures.grows c.list_of_one-2.ensures.grows

pub let_call-requires-clause-names_in : goal.let_call-requires-clause-names_in
let_call-requires-clause-names_in c = IsIn-Grows _ _ c.list_of_one-2.ensures.grows _ c.in_ok-names.ensures.made.0

pub let_call-requires-clause-body_in : goal.let_call-requires-clause-body_in
let_call-requires-clause-body_in c = IsIn-Grows _ _ c.list_of_one-2.ensures.grows _ (IsIn-Grows _ _ c.list_of_one.ensures.grows _ c.requires.body_in)

pub returns-clause-grows : goal.returns-clause-grows
returns-clause-grows c = Grows-trans _ _ _ (Grows-trans _ _ _ c.list_of_one.ensures.grows c.list_of_one-2.ensures.grows) c.let_call.ensures.grows

pub returns-clause-made : goal.returns-clause-made
returns-clause-made c = λ A x t b n v e h.
    let h0 = c.args.heap.now.objects in
    let h1 = c.list_of_one.new.heap.objects in
    let h2 = c.list_of_one-2.new.heap.objects in
    let g1 = c.in_ok-names.ensures.grows in
    let g2 = c.in_ok-values.ensures.grows in
    c.let_call.ensures.made A (x ∷ []) (More t NoTerms) b
    (object_at-Grows h1 h2 g2 c.in_ok-names.names c.in_ok-names.ensures.made.0 ∙ (c.in_ok-names.ensures.made.1 ∙ ap list1 n))
    (c.in_ok-values.ensures.made.1 ∙ ap list1 (object_at-Grows h0 h1 g1 c.args.binding.second c.requires.value_in ∙ v))
    (object_at-Grows h0 h2 (Grows-trans h0 h1 h2 g1 g2) c.args.body c.requires.body_in ∙ e)
    h
