-- The step and the word, and then the part of the conclusion.
use Rattle.std.proofs.Common.{◌++◌, ◌∷◌, [], Some, ap, ap₂, sym, ◌∙◌}
use Rattle.std.proofs.lemmas.Result.{IfOk-weaker}
use Rattle.mw_model.specs.Terms.Object.{symbol}
use Rattle.mw_heap.specs.Objects.{object_at}
use Rattle.mw_heap.proofs.Objects.{object_at-Grows}
use Rattle.mw_commands.specs.Commands.ExplanationTerms.{part_shown}
use Rattle.mw_commands.specs.Commands.ExplanationSteps.{step_shown}
use Rattle.mw_bad_steps.proofs.ShownMore.{Shows-grows}
use Rattle.mw_explain.proofs.ShownSteps.{more_shown, shows_same}
use Rattle.mw_explain.proofs.wrong_shown.formula_shown.Goals as goal

pub returns-clause-shown : goal.returns-clause-shown
returns-clause-shown c = IfOk-weaker c.joined.result _ _ (λ v is t a e.
    let os = c.args.heap.now.objects in
    let mid = c.condition_shown.new.heap.objects in
    let new = c.part_shown.new.heap.objects in
    let here = object_at-Grows os mid c.in_ok-shown.ensures.grows c.args.part c.requires.part in
    let xs = step_shown (object_at os c.args.step) ∷ symbol "FORMULA" ∷ [] in
    let first = Shows-grows mid new c.in_ok-shown.shown.items xs c.in_ok-parts.ensures.grows c.in_ok-shown.ensures.shown in
    let parts = c.in_ok-parts.ensures.shown in
    let all = more_shown new c.in_ok-shown.shown.items v.items c.in_ok-parts.parts.items xs (part_shown c.args.arity.now (Some (object_at mid c.args.part))) (is ∙ ap (λ l. c.in_ok-shown.shown.items ++ l) c.deref.ensures.value) first parts in
    shows_same new v.items _ _ (e ∙ ap (λ l. xs ++ l) (ap₂ (λ A x. part_shown A (Some x)) a (sym here))) all) c.joined.ensures
