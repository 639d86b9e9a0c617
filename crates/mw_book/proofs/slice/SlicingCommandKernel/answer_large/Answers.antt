-- The event is refused.
use Rattle.mw_book.proofs.SlicedOne.{sliced_large}
use Rattle.mw_book.proofs.slice.SlicingCommandKernel.answer_large.Goals as goal

pub returns-clause-puts : goal.returns-clause-puts
returns-clause-puts c y large shows given = sliced_large c.args.self.now c.args._kernel.now y _ large c.requires.empty given
