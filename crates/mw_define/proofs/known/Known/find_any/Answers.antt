-- One piece after another.
use Rattle.std.proofs.Common.{Some, sym, ap, ◌∙◌, true≢false}
use Rattle.mw_define.proofs.Knowing.{free-next, free-end, one-mentions}
use Rattle.mw_define.proofs.known.Known.find_any.Goals.{in-Some-false, in-None}
use Rattle.mw_define.proofs.known.Known.find_any.Goals as goal

pub returns-in-Some-true : goal.returns-in-Some-true
returns-in-Some-true c =
    let p = c.piece-item.result in
    one-mentions c.args.self.now c.args.pieces.now c.loop-piece.piece-index p c.loop-piece-test.true c.piece-item.is (sym c.find.ensures ∙ (c.in-Some-true.is ∙ ap Some c.in-Some-true.field-0-test))

pub loop-piece-preserved : goal.loop-piece-preserved
loop-piece-preserved c = elim c.match-find.branch [
  | in-Some-false w ↦ λ t. free-next c.args.self.now c.args.pieces.now c.loop-piece.piece-index c.piece-item.result c.loop-piece-test.true c.piece-item.is c.loop-piece.are_free c.loop-piece.invariant (sym c.find.ensures ∙ (w.in-Some-false.is ∙ ap Some w.in-Some-false.field-0-test)) (sym w.are_free-is ∙ t)
  | in-None w ↦ λ t. absurd (true≢false (sym t ∙ w.are_free-is))
]

pub returns-then-are_free : goal.returns-then-are_free
returns-then-are_free c = free-end c.args.self.now c.args.pieces.now c.loop-piece.piece-index c.loop-piece.are_free c.loop-piece-test.false c.if-are_free.true c.loop-piece.invariant
