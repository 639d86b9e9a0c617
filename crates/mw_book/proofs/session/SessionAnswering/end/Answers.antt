-- The last line of a book with a fault, or the last text.
use Rattle.std.proofs.Common.{sym, ap, ◌∙◌, ◌++◌, subst, append_assoc}
use Rattle.mw_read.specs.Kinds.{kind_of}
use Rattle.mw_book.specs.Lines.{fault_line}
use Rattle.mw_answers.specs.Answering.{fault_of}
use Rattle.mw_answers.specs.LastTexts.{IsLastText}
use Rattle.mw_book.proofs.session.SessionAnswering.end.Goals as goal

pub returns-in_ok-write_fault-in-Some-clause-last : goal.returns-in_ok-write_fault-in-Some-clause-last
returns-in_ok-write_fault-in-Some-clause-last g c q given h =
    let s = c.args.self.now in
    let mark = c.mark.result.now in
    let line = fault_line (kind_of c.in-Some.kind) c.in-Some.offset in (
      mark ++ line,
      subst (λ f. IsLastText q given (fault_of f) (mark ++ line)) (sym c.in-Some.is) (c.mark.ensures s.store q given h c.in-Some.kind c.in-Some.offset),
      c.in_ok-write_fault-in-Some.ensures ∙ ap (λ l. l ++ line) c.in_ok-extend_from_slice-in-Some.ensures.items ∙ append_assoc s.lines.items mark line,
    )
