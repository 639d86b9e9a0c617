-- The last line of the report.
use Rattle.std.proofs.Common.{◌+◌, nat_lt, ◌++◌, ap, ◌∙◌, arith}
use Rattle.mw_book.specs.Lines.{answers_line}
use Rattle.mw_book.proofs.LastLines.{rechecked_refused, rechecked_summary}
use Rattle.mw_book.proofs.RecheckedOne.{rechecked_few}
use Rattle.mw_book.proofs.recheck.RecheckingCommandFlat.end.Goals as goal

pub overflow_add-result : goal.overflow_add-result
overflow_add-result c = let few = rechecked_few c.args.self.now c.args.flat.now c.requires.known in omega (arith, few.0, few.1, c.left-left.ensures)

pub write_answers-requires : goal.write_answers-requires
write_answers-requires c = (rechecked_few c.args.self.now c.args.flat.now c.requires.known).0

pub returns-clause-refused : goal.returns-clause-refused
returns-clause-refused c q given h = ap (nat_lt 0) (ap (λ n. c.args.self.now.denied + n) c.left-left.ensures ∙ rechecked_refused c.args.self.now c.args.flat.now q given h)

pub returns-clause-last : goal.returns-clause-last
returns-clause-last c q given h =
    let r = c.args.self.now in
    let g = c.args.flat.now in
    (answers_line r.events r.denied g.count, rechecked_summary r g q given h, c.in_ok-write_answers.ensures ∙ ap (λ n. c.args.lines.now.items ++ answers_line r.events r.denied n) c.left-left.ensures)
