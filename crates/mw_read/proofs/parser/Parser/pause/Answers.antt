use Rattle.std.proofs.Common.{refl}
use Rattle.mw_read.specs.declared.parser.Parser.{Parser}
use Rattle.mw_read.proofs.Pausing.{pause_moves, pause_advances}
use Rattle.mw_read.proofs.parser.Parser.pause.Goals as goal

pub returns-clause-moves : goal.returns-clause-moves
returns-clause-moves c =
    let a = c.args.self.now in
    let p : Parser = record a { token = c.extend_from_slice.new.self } in
    pause_moves a p c.args.bytes.now c.requires refl refl c.in_ok-extend_from_slice.ensures.items

pub returns-clause-advances : goal.returns-clause-advances
returns-clause-advances c os k t h =
    let a = c.args.self.now in
    let p : Parser = record a { token = c.extend_from_slice.new.self } in
    pause_advances a p c.args.bytes.now c.requires refl refl c.in_ok-extend_from_slice.ensures.items os t k refl h
