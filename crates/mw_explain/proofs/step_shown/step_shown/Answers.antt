-- The members, one after another, and the conclusions as a list.
use Rattle.std.proofs.Common.{[], ◌∷◌, length, sym, ap, ap₂, ◌∙◌}
use Rattle.std.proofs.lemmas.Result.{IfOk-weaker}
use Rattle.mw_model.specs.Terms.Object.{Pair, NIL, car, cdr, third_of}
use Rattle.std.proofs.lemmas.List.Elements.{All-cons, All-nil}
use Rattle.mw_heap.specs.Objects.{object_at, IsIn}
use Rattle.mw_heap.specs.Lists.{list_object}
use Rattle.mw_heap.proofs.Objects.{IsIn-Grows, object_at-Grows}
use Rattle.mw_commands.specs.Commands.ExplanationSteps.{listed}
use Rattle.mw_bad_steps.specs.Members.{conclusions_in}
use Rattle.mw_bad_steps.proofs.ShownMore.{list_object-listed}
use Rattle.mw_explain.proofs.ShownSteps.{conclusions_listed}
use Rattle.mw_explain.proofs.step_shown.step_shown.Goals as goal
use Rattle.mw_explain.proofs.step_shown.step_shown.Goals.{After-first_and_rest-method, After-first_and_rest-conclusion, After-first_and_rest-subproofs}

-- the method and the members after it; the conclusion and those after it; the subproofs and those after them
method_in : (c : After-first_and_rest-method) → IsIn c.nil.new.self.objects c.first_and_rest-method.result.0 × IsIn c.nil.new.self.objects c.first_and_rest-method.result.1
method_in c = c.first_and_rest-method.ensures.below _ (IsIn-Grows _ _ c.in_ok-nil.ensures.grows _ c.requires) c.in_ok-nil.ensures.made.0

conclusion_in : (c : After-first_and_rest-conclusion) → IsIn c.nil.new.self.objects c.first_and_rest-method.result.1 → IsIn c.nil.new.self.objects c.first_and_rest-conclusion.result.0 × IsIn c.nil.new.self.objects c.first_and_rest-conclusion.result.1
conclusion_in c rest = c.first_and_rest-conclusion.ensures.below _ rest c.in_ok-nil.ensures.made.0

subproofs_in : (c : After-first_and_rest-subproofs) → IsIn c.nil.new.self.objects c.first_and_rest-conclusion.result.1 → IsIn c.nil.new.self.objects c.first_and_rest-subproofs.result.0 × IsIn c.nil.new.self.objects c.first_and_rest-subproofs.result.1
subproofs_in c rest = c.first_and_rest-subproofs.ensures.below _ rest c.in_ok-nil.ensures.made.0

pub first_and_rest-subproofs-requires-clause-within : goal.first_and_rest-subproofs-requires-clause-within
first_and_rest-subproofs-requires-clause-within c =
    let p = goal.at.first_and_rest-subproofs-requires-clause-within c in
    (conclusion_in p.After-first_and_rest-conclusion (method_in p.After-first_and_rest-method).1).1

pub first_and_rest-extras-requires-clause-within : goal.first_and_rest-extras-requires-clause-within
first_and_rest-extras-requires-clause-within c =
    let p = goal.at.first_and_rest-extras-requires-clause-within c in
    (subproofs_in p.After-first_and_rest-subproofs (conclusion_in p.After-first_and_rest-conclusion (method_in p.After-first_and_rest-method).1).1).1

pub seconds_of-requires-clause-within : goal.seconds_of-requires-clause-within
seconds_of-requires-clause-within c =
    let p = goal.at.seconds_of-requires-clause-within c in
    (subproofs_in p.After-first_and_rest-subproofs (conclusion_in p.After-first_and_rest-conclusion (method_in p.After-first_and_rest-method).1).1).0

pub list_of-requires-2 : goal.list_of-requires-2
list_of-requires-2 c =
    let h0 = c.args.heap.now.objects in
    let h1 = c.nil.new.self.objects in
    let nil = c.in_ok-nil.ensures.made.0 in
    let p = goal.at.list_of-requires-2 c in
    let i1 = method_in p.After-first_and_rest-method in
    let i2 = conclusion_in p.After-first_and_rest-conclusion i1.1 in
    let i3 = subproofs_in p.After-first_and_rest-subproofs i2.1 in
    let i4 = c.first_and_rest-extras.ensures.below (length h1) i3.1 nil in
    let h2 = c.list_of.new.heap.objects in
    let g2 = c.in_ok-conclusions.ensures.grows in
    let P = IsIn h2 in
    let method = c.first_and_rest-method.result.0 in
    let conclusion = c.first_and_rest-conclusion.result.0 in
    let conclusions = c.in_ok-conclusions.conclusions in
    let extras = c.first_and_rest-extras.result.0 in
    All-cons P method (conclusion ∷ conclusions ∷ extras ∷ []) (IsIn-Grows h1 h2 g2 method i1.0)
    (All-cons P conclusion (conclusions ∷ extras ∷ []) (IsIn-Grows h1 h2 g2 conclusion i2.0)
    (All-cons P conclusions (extras ∷ []) c.in_ok-conclusions.ensures.made.0 (All-cons P extras [] (IsIn-Grows h1 h2 g2 extras i4.0) (All-nil P))))

pub returns-clause-made : goal.returns-clause-made
returns-clause-made c =
    let h0 = c.args.heap.now.objects in
    let h1 = c.nil.new.self.objects in
    let h2 = c.list_of.new.heap.objects in
    let g1 = c.in_ok-nil.ensures.grows in
    let g2 = c.in_ok-conclusions.ensures.grows in
    let x = object_at h0 c.args.step in
    let nil = c.in_ok-nil.ensures.made.0 in
    let e0 = object_at-Grows h0 h1 g1 c.args.step c.requires in
    let p = goal.at.returns-clause-made c in
    let i1 = method_in p.After-first_and_rest-method in
    let i2 = conclusion_in p.After-first_and_rest-conclusion i1.1 in
    let i3 = subproofs_in p.After-first_and_rest-subproofs i2.1 in
    let i4 = c.first_and_rest-extras.ensures.below (length h1) i3.1 nil in
    let e1 = c.first_and_rest-method.ensures.rest ∙ ap cdr e0 in
    let e2 = c.first_and_rest-conclusion.ensures.rest ∙ ap cdr e1 in
    let e3 = c.first_and_rest-subproofs.ensures.rest ∙ ap cdr e2 in
    let method = object_at-Grows h1 h2 g2 _ i1.0 ∙ (c.first_and_rest-method.ensures.first ∙ ap car e0) in
    let conclusion = object_at-Grows h1 h2 g2 _ i2.0 ∙ (c.first_and_rest-conclusion.ensures.first ∙ ap car e1) in
    let subproofs = c.first_and_rest-subproofs.ensures.first ∙ ap car e2 in
    let extras = object_at-Grows h1 h2 g2 _ i4.0 ∙ (c.first_and_rest-extras.ensures.first ∙ ap car e3) in
    let shown = c.in_ok-seconds.ensures in
    let conclusions = c.in_ok-conclusions.ensures.made.1 ∙ (ap (list_object h1) c.deref.ensures.value ∙ (list_object-listed h1 _ _ shown.1 ∙ (ap (λ y. listed (conclusions_in y)) subproofs ∙ sym (conclusions_listed (third_of x))))) in
    IfOk-weaker c.list_of-2.result _ _ (λ r made. made.1 ∙ ap₂ Pair method (ap₂ Pair conclusion (ap₂ Pair conclusions (ap (λ y. Pair y NIL) extras)))) c.list_of-2.ensures.made
