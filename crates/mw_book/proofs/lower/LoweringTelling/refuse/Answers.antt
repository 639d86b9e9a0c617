-- The event is refused.
use Rattle.std.proofs.lemmas.Result.{on_ok_weaker}
use Rattle.mw_book.proofs.LoweredOne.{lowered_large}
use Rattle.mw_book.proofs.OneMore.{after_nothing}
use Rattle.mw_book.proofs.lower.LoweringTelling.refuse.Goals as goal

pub returns : goal.returns
returns c = on_ok_weaker c.write_line.result (λ line x large begun. lowered_large c.args._kernel.now c.args._number x _ _ large begun (after_nothing c.requires.empty line)) c.write_line.ensures
