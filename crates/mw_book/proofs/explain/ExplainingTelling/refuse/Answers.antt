-- The event is refused.
use Rattle.std.proofs.Common.{ap, ◌∙◌}
use Rattle.std.proofs.lemmas.Result.{on_ok_weaker}
use Rattle.mw_model.specs.Events.Refusal.{RANGE, Refused}
use Rattle.mw_kernel.specs.Knowledge.{theory_of}
use Rattle.mw_book.specs.Pieces.{explained_piece}
use Rattle.mw_book.proofs.ExplainedOne.{explained_large}
use Rattle.mw_book.proofs.explain.ExplainingTelling.refuse.Goals as goal

pub returns : goal.returns
returns c =
    let k = c.args.kernel.now in
    let range = c.in_ok-explained_range.ensures in
    on_ok_weaker c.write_piece.result
    (λ line x large begun. explained_large k _ c.args.number x _ _ _ _ large range.theory range.steps begun c.clear.ensures.items (range.why (theory_of k) k.steps x) (line ∙ ap (explained_piece (Refused RANGE) c.args.begun.now) c.deref.ensures.value))
    c.write_piece.ensures
