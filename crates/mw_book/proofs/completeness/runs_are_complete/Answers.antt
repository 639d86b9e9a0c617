-- By the ending.
use Rattle.mw_request.specs.Commands.{asked}
use Rattle.mw_book.proofs.ExpectedOutputs.{all_expected}
use Rattle.mw_book.proofs.completeness.runs_are_complete.Goals as goal

pub returns : goal.returns
returns c words e book before after left a b m n k l f reads writes = all_expected (asked words) e book before after left a b m n k l f reads writes
