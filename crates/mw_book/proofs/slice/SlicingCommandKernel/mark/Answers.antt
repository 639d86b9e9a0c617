-- The last line of a book with a fault.
use Rattle.mw_book.proofs.SlicedPlaces.{sliced_fault}
use Rattle.mw_book.proofs.slice.SlicingCommandKernel.mark.Goals as goal

pub returns : goal.returns
returns c k q given h kind offset = sliced_fault c.args.self.now k q given h kind offset
