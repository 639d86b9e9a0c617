-- The event is refused.
use Rattle.mw_book.proofs.FlattenedOne.{large_flat}
use Rattle.mw_book.proofs.flat.FlatteningCommandKernel.answer_large.Goals as goal

pub returns-clause-puts : goal.returns-clause-puts
returns-clause-puts c y large shows given = large_flat c.args.self.now c.args._kernel.now y _ large c.requires.empty given
