-- What is wanted comes behind the word, where something is.
use Rattle.std.proofs.Common.{◌∷◌, sym, subst, option_map}
use Rattle.std.specs.Prelude.{option_to_list}
use Rattle.mw_model.specs.Terms.Object.{Symbol, name_of_bytes}
use Rattle.mw_heap.specs.Objects.{object_at}
use Rattle.mw_commands.specs.Commands.ExplanationSteps.{step_shown}
use Rattle.mw_bad_steps.specs.Shown.{Shows}
use Rattle.mw_explain.proofs.step_shown.condition_shown.Goals as goal

pub returns-in-None-clause-shown : goal.returns-in-None-clause-shown
returns-in-None-clause-shown c =
    let os = c.args.heap.now.objects in
    let new = c.begin.new.heap.objects in
    let x = step_shown (object_at os c.args.step) in
    let y = Symbol (name_of_bytes c.args.word.now) in
    subst (λ o. Shows new c.in_ok-shown.shown.items (x ∷ y ∷ option_to_list (option_map (object_at os) o))) (sym c.in-None.is) c.in_ok-shown.ensures.shown
