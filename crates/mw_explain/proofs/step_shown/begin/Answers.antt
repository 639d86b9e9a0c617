-- The step, and then the word.
use Rattle.std.proofs.Common.{◌∙◌}
use Rattle.mw_model.specs.Terms.Object.{Symbol, name_of_bytes}
use Rattle.mw_heap.specs.Objects.{object_at}
use Rattle.mw_heap.proofs.Objects.{IsIn-Grows, object_at-Grows}
use Rattle.mw_commands.specs.Commands.ExplanationSteps.{step_shown}
use Rattle.mw_explain.proofs.ShownSteps.{two_shown}
use Rattle.mw_explain.proofs.step_shown.begin.Goals as goal

pub returns-clause-shown : goal.returns-clause-shown
returns-clause-shown c =
    let h1 = c.step_shown.new.heap.objects in
    let h2 = c.symbol.new.self.objects in
    let g = c.in_ok-word.ensures.grows in
    let whole = c.in_ok-whole.ensures in
    two_shown h2 _ c.push.new.self.items c.push-2.new.self.items c.in_ok-whole.whole c.in_ok-word.word (step_shown (object_at c.args.heap.now.objects c.args.step)) (Symbol (name_of_bytes c.args.word.now)) c.new-shown.ensures.items c.in_ok-push.ensures.items c.in_ok-push-2.ensures.items
    (IsIn-Grows h1 h2 g c.in_ok-whole.whole whole.within) c.in_ok-word.ensures.made.0 (object_at-Grows h1 h2 g c.in_ok-whole.whole whole.within ∙ whole.made) c.in_ok-word.ensures.made.1
