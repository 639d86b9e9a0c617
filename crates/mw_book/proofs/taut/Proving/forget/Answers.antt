-- What is kept of the heap keeps its marks.
use Rattle.std.proofs.Common.{refl}
use Rattle.mw_book.proofs.Proved.{proving_cut}
use Rattle.mw_book.proofs.taut.Proving.forget.Goals as goal

pub returns-clause-proving : goal.returns-clause-proving
returns-clause-proving c =
    let old = c.args.self.now in
    proving_cut old (record old { marks = c.cut.new.self }) c.args.heap.now c.cut_back.new.self c.requires refl refl c.cut_back.ensures.kept c.cut.ensures c.requires.few
