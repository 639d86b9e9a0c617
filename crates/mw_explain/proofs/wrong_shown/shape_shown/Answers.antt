-- The object, and then the word.
use Rattle.mw_model.specs.Terms.Object.{symbol}
use Rattle.mw_heap.specs.Objects.{object_at}
use Rattle.mw_heap.proofs.Objects.{IsIn-Grows, object_at-Grows}
use Rattle.mw_explain.proofs.ShownSteps.{two_shown, shows_same}
use Rattle.mw_explain.proofs.wrong_shown.shape_shown.Goals as goal

pub returns-clause-shown : goal.returns-clause-shown
returns-clause-shown c = λ t e.
    let os = c.args.heap.now.objects in
    let new = c.symbol.new.self.objects in
    let g = c.in_ok-word.ensures.grows in
    shows_same new c.push-2.new.self.items _ _ e
    (two_shown new _ c.push.new.self.items c.push-2.new.self.items c.args.step c.in_ok-word.word (object_at os c.args.step) (symbol "SHAPE") c.new-shown.ensures.items c.in_ok-push.ensures.items c.in_ok-push-2.ensures.items
    (IsIn-Grows os new g c.args.step c.requires) c.in_ok-word.ensures.made.0 (object_at-Grows os new g c.args.step c.requires) c.in_ok-word.ensures.made.1)
