-- The number is what is wanted.
use Rattle.std.proofs.Common.{ap₂, sym, ◌∙◌, ◌∷◌, []}
use Rattle.std.proofs.lemmas.Result.{IfOk-weaker}
use Rattle.mw_model.specs.Terms.Object.{symbol}
use Rattle.mw_heap.proofs.Objects.{object_at-Grows}
use Rattle.mw_commands.specs.Commands.ExplanationSteps.{step_shown}
use Rattle.mw_explain.proofs.ShownSteps.{shows_same}
use Rattle.mw_explain.proofs.wrong_shown.count_shown.Goals as goal

pub returns-clause-shown : goal.returns-clause-shown
returns-clause-shown c = IfOk-weaker c.condition_shown.result _ _ (λ v s t e.
    let os = c.args.heap.now.objects in
    let mid = c.nat.new.self.objects in
    let here = object_at-Grows os mid c.in_ok-number.ensures.grows c.args.step c.requires in
    shows_same c.condition_shown.new.heap.objects v.items _ _ (e ∙ sym (ap₂ (λ x y. step_shown x ∷ symbol "PREMISES" ∷ y ∷ []) here c.in_ok-number.ensures.made.1)) s) c.condition_shown.ensures.shown
