-- The last line of a book with a fault.
use Rattle.std.proofs.Common.{◌++◌, Some, sym, subst}
use Rattle.mw_read.specs.Kinds.{kind_of}
use Rattle.mw_answers.specs.Answering.{fault_of}
use Rattle.mw_answers.specs.LastTexts.{IsLastText}
use Rattle.mw_book.specs.Lines.{fault_line}
use Rattle.mw_book.proofs.JudgedOne.{judged_fault}
use Rattle.mw_book.proofs.judging.JudgingCommandKernel.mark.Goals as goal

pub returns : goal.returns
returns g c k q given h kind offset =
    subst (λ m. IsLastText q given (fault_of (Some (kind, offset))) (m ++ fault_line (kind_of kind) offset)) (sym c.mark.ensures.text)
    (judged_fault g.T.Telling.request g.T.Telling.effect c.args.self.now.tally k q given h g.T.Telling.mark kind offset (λ N all. c.mark.ensures.fault N all kind offset))
