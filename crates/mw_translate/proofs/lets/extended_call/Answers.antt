-- The others as a list.
use Rattle.std.proofs.Common.{◌≡◌, ap, ap₂, ◌∙◌}
use Rattle.std.proofs.lemmas.Result.{IfOk-weaker}
use Rattle.mw_model.specs.Terms.Object.{NIL}
use Rattle.mw_heap.specs.Objects.{object_at}
use Rattle.mw_heap.proofs.Objects.{IsIn-Grows, object_at-Grows, Grows-trans}
use Rattle.mw_translate.specs.Lets.{prepend, extended_object}
use Rattle.mw_translate.proofs.Appended.{all_in-Grows, prepend-Grows}
use Rattle.mw_translate.proofs.lets.extended_call.Goals as goal

pub put_before-requires-clause-front_in : goal.put_before-requires-clause-front_in
put_before-requires-clause-front_in c = all_in-Grows c.args.heap.now.objects c.nil.new.self.objects c.args.others.items c.in_ok-nil.ensures.grows c.requires.others_in

pub returns-in_err-list-clause-grows : goal.returns-in_err-list-clause-grows
returns-in_err-list-clause-grows c = Grows-trans _ _ _ c.nil.ensures.grows c.put_before.ensures.grows

pub joined_call-requires-clause-names_in : goal.joined_call-requires-clause-names_in
joined_call-requires-clause-names_in c = IsIn-Grows _ _ (Grows-trans _ _ _ c.nil.ensures.grows c.put_before.ensures.grows) _ c.requires.names_in

pub joined_call-requires-clause-values_in : goal.joined_call-requires-clause-values_in
joined_call-requires-clause-values_in c = IsIn-Grows _ _ (Grows-trans _ _ _ c.nil.ensures.grows c.put_before.ensures.grows) _ c.requires.values_in

pub joined_call-requires-clause-body_in : goal.joined_call-requires-clause-body_in
joined_call-requires-clause-body_in c = IsIn-Grows _ _ (Grows-trans _ _ _ c.nil.ensures.grows c.put_before.ensures.grows) _ c.requires.body_in

pub returns-clause-grows : goal.returns-clause-grows
returns-clause-grows c = Grows-trans _ _ _ (Grows-trans _ _ _ c.nil.ensures.grows c.put_before.ensures.grows) c.joined_call.ensures.grows

pub returns-clause-made : goal.returns-clause-made
returns-clause-made c =
    let h0 = c.args.heap.now.objects in
    let h1 = c.nil.new.self.objects in
    let h2 = c.put_before.new.heap.objects in
    let g = Grows-trans h0 h1 h2 c.in_ok-nil.ensures.grows c.in_ok-list.ensures.grows in
    let list : object_at h2 c.in_ok-list.list ≡ prepend h0 c.args.others.items NIL =
    c.in_ok-list.ensures.made.1 ∙ (ap (prepend h1 c.args.others.items) c.in_ok-nil.ensures.made.1 ∙ prepend-Grows h0 h1 c.args.others.items NIL c.in_ok-nil.ensures.grows c.requires.others_in) in
    let same =
    ap₂ (λ n v. extended_object n v (object_at h2 c.in_ok-list.list) (object_at h2 c.args.body)) (object_at-Grows h0 h2 g c.args.names c.requires.names_in) (object_at-Grows h0 h2 g c.args.values c.requires.values_in)
    ∙ ap₂ (extended_object (object_at h0 c.args.names) (object_at h0 c.args.values)) list (object_at-Grows h0 h2 g c.args.body c.requires.body_in) in
    IfOk-weaker c.joined_call.result _ _ (λ r made. (made.0, made.1 ∙ same)) c.joined_call.ensures.made
