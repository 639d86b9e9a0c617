-- The place, and then what is shown of the step.
use Rattle.std.proofs.Common.{◌++◌, ◌∷◌, [], map, IfSome, sym, ap, ◌∙◌, subst}
use Rattle.std.proofs.lemmas.Result.{IfOk-weaker}
use Rattle.mw_model.specs.Terms.Object.{Natural}
use Rattle.mw_heap.specs.Objects.{object_at, IsIn}
use Rattle.mw_heap.specs.Lists.{list_object}
use Rattle.mw_heap.specs.Variants.{profile_of}
use Rattle.mw_heap.proofs.Objects.{object_at-Grows}
use Rattle.mw_proof.proofs.Holding.{list_object-grows}
use Rattle.mw_commands.specs.Commands.ExplanationSteps.{placed, wrong_step}
use Rattle.mw_explain.specs.Condition.{HasProofs}
use Rattle.mw_bad_steps.specs.Shown.{Shows}
use Rattle.mw_commands.specs.Commands.ExplanationSteps.{listed}
use Rattle.mw_bad_steps.proofs.ShownMore.{Shows-grows, Shows-none}
use Rattle.mw_explain.proofs.ShownSteps.{one_shown, more_shown, shows_same}
use Rattle.mw_explain.proofs.FirstShown.{nothing_shown, one_found, step_follows_place}
use Rattle.mw_explain.proofs.wrong_shown.bad_step_shown.Goals as goal

pub returns-in_default-clause-shown : goal.returns-in_default-clause-shown
returns-in_default-clause-shown c = λ t e f g h.
    let os = c.args.heap.now.objects in
    shows_same c.first_bad_step.new.heap.objects _ [] _
    (nothing_shown t os (object_at os c.args.proof) _ (list_object os c.args.axioms.now) (list_object os c.args.theorems.now) c.args.arity.now (profile_of c.args.profile) e f g h c.in_ok-bad.ensures.bad c.in_default.is)
    (subst (λ l. Shows c.first_bad_step.new.heap.objects l []) (sym c.new.ensures.items) (Shows-none c.first_bad_step.new.heap.objects))

pub returns-clause-shown : goal.returns-clause-shown
returns-clause-shown c = IfOk-weaker c.joined.result _ _ (λ v is t e f g h.
    let os = c.args.heap.now.objects in
    let h1 = c.first_bad_step.new.heap.objects in
    let h2 = c.wrong_shown.new.heap.objects in
    let h3 = c.place_shown.new.heap.objects in
    let b = c.in-Some.bad in
    let g1 = c.first_bad_step.ensures.grows in
    let ax = c.args.axioms.now in
    let th = c.args.theorems.now in
    let here = object_at-Grows os h1 g1 b.step (subst (λ o. IfSome o (λ d. IsIn os d.step)) c.in-Some.is c.in_ok-bad.ensures.within) in
    let found = one_found t os (object_at os c.args.proof) _ (list_object os ax) (list_object os th) c.args.arity.now (profile_of c.args.profile) e f g h c.in_ok-bad.ensures.bad b c.in-Some.is in
    let good = c.bad_steps.ensures.subproofs t (object_at os c.args.proof) (placed b.place.items (object_at os b.step)) found in
    let same_ax = list_object-grows os h1 g1 ax c.requires.axioms in
    let same_th = list_object-grows os h1 g1 th c.requires.theorems in
    let wrong = c.in_ok-shown.ensures.shown t (e ∙ sym same_ax) (f ∙ sym same_th) g h (subst (λ y. HasProofs t y) (sym here) good) in
    let whole = step_follows_place t os (object_at os c.args.proof) _ (list_object os ax) (list_object os th) c.args.arity.now (profile_of c.args.profile) e f g h c.in_ok-bad.ensures.bad b c.in-Some.is in
    let rest = Shows-grows h2 h3 c.in_ok-shown.shown.items (wrong_step t (object_at h1 b.step)) c.in_ok-place.ensures.grows wrong in
    let first = one_shown h3 _ c.push.new.self.items c.in_ok-place.place _ c.new-all.ensures.items c.in_ok-push.ensures.items c.in_ok-place.ensures.within c.in_ok-place.ensures.made in
    let all = more_shown h3 c.push.new.self.items v.items c.in_ok-shown.shown.items _ (wrong_step t (object_at h1 b.step)) (is ∙ ap (λ l. c.push.new.self.items ++ l) c.deref-2.ensures.value) first rest in
    shows_same h3 v.items _ _ (whole ∙ (ap (λ y. listed (map Natural b.place.items) ∷ wrong_step t y) (sym here) ∙ ap (λ l. listed (map Natural l) ∷ wrong_step t (object_at h1 b.step)) (sym c.deref.ensures.value))) all) c.joined.ensures
