-- A label is given to a pair that is written.
use Rattle.std.proofs.Common.{sym, subst}
use Rattle.mw_print.specs.declared.piece.Piece.{Piece}
use Rattle.mw_print.specs.Waiting.{is_one_of, IsPiece, Advances}
use Rattle.mw_print.proofs.Writing.{OnOk-both}
use Rattle.mw_print.proofs.Waiting.{label_advances}
use Rattle.mw_print.proofs.labelled.write_piece.Goals as goal

pub returns-in-Given : goal.returns-in-Given
returns-in-Given c =
    let os = c.args.heap.now.objects in
    let s = is_one_of os c.args.again.now.keys in
    let g = c.give_label in
    let ps = c.args.pieces.now.items in
    let given = c.args.numbers.now.given.entries in
    let next = c.args.numbers.now.next in
    let out = c.args.out.now.items in
    OnOk-both g.result g.ensures.given g.ensures.given (λ e f.
    subst (λ (p : Piece). Advances s os p ps ps given g.new.numbers.given.entries next g.new.numbers.next out out) (sym c.in-Given.is)
    (label_advances s os c.order.ensures.distinct c.in-Given.x c.in-Given.n (subst (IsPiece os) c.in-Given.is c.requires.piece) ps given g.new.numbers.given.entries next g.new.numbers.next out c.requires.pieces e g.ensures.next))
