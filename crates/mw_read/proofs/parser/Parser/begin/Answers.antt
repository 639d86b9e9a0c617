-- A text begins, unless none may.
use Rattle.std.proofs.Common.{◌∙◌, ◌++◌, length, sym, ap, refl, subst, arith}
use Rattle.std.proofs.lemmas.List.{length-drop}
use Rattle.mw_read.specs.Resume.{resume}
use Rattle.mw_read.specs.Parsing.{ahead}
use Rattle.mw_read.specs.declared.parser.Begun.TheVariants as begun
use Rattle.mw_read.specs.declared.parser.Parser.{Parser}
use Rattle.mw_read.specs.declared.step.SyntaxKind.TheVariants as kinds
use Rattle.mw_read.proofs.Holding.{holds_full}
use Rattle.mw_read.proofs.Advancing.{fault_advances}
use Rattle.mw_read.proofs.Beginning.{rest_is, begun_full, if_ok_more, if_ok_both}
use Rattle.mw_read.proofs.FirstByte.{IsMarked, parser_begins, first_advances, token_begin, token_offset, moves_on, is_token}
use Rattle.mw_read.proofs.parser.Parser.begin.Goals as goal

pub in_bars-requires-clause-parser : goal.in_bars-requires-clause-parser
in_bars-requires-clause-parser c = parser_begins c.args.heap.now.objects (record c.args.self.now { begun = c.args.begun; token = c.clear.new.self }) begun.Bars c.in-Bars.is c.clear.ensures.items refl c.requires.parser.stack (sym (c.is_full.ensures c.args.heap.now.objects c.requires.parser.stack) ∙ c.if-is_full.false)

pub in_bars-requires-clause-room : goal.in_bars-requires-clause-room
in_bars-requires-clause-room c = omega (arith, ap length c.clear.ensures.items, ap length (rest_is 1 c.args.rest.now), length-drop 1 c.args.rest.now, c.requires.room)

pub in_hash-requires-clause-parser : goal.in_hash-requires-clause-parser
in_hash-requires-clause-parser c = parser_begins c.args.heap.now.objects (record c.args.self.now { begun = c.args.begun; token = c.clear.new.self }) begun.Hash c.in-Hash.is c.clear.ensures.items (refl, omega arith) c.requires.parser.stack (sym (c.is_full.ensures c.args.heap.now.objects c.requires.parser.stack) ∙ c.if-is_full.false)

pub in_hash-requires-clause-room : goal.in_hash-requires-clause-room
in_hash-requires-clause-room c = omega (arith, ap length c.clear.ensures.items, ap length (rest_is 1 c.args.rest.now), length-drop 1 c.args.rest.now, c.requires.room)

pub in_token-requires-clause-parser : goal.in_token-requires-clause-parser
in_token-requires-clause-parser c =
    let k = is_token c.args.begun c.args.rest.now c.requires.begins c.in_default.not-Bars c.in_default.not-Hash in
    parser_begins c.args.heap.now.objects (record c.args.self.now { begun = c.args.begun; token = c.clear.new.self }) begun.Token k.0 c.clear.ensures.items refl c.requires.parser.stack (sym (c.is_full.ensures c.args.heap.now.objects c.requires.parser.stack) ∙ c.if-is_full.false)

pub returns-then-is_full-clause-advances : goal.returns-then-is_full-clause-advances
returns-then-is_full-clause-advances c t h =
    let a = c.args.self.now in
    let os = c.args.heap.now.objects in
    let full = sym (holds_full os a.stack t h) ∙ sym (c.is_full.ensures os c.requires.parser.stack) ∙ c.if-is_full.true in
    fault_advances os t a a c.args.rest.now c.fault.result 0 (record { kind = kinds.Dot; offset = a.start }) c.fault.ensures
    (λ e z. ap (λ m. resume t (ahead e m a.token.items a.start (c.args.rest.now ++ z))) c.requires.begun ∙ begun_full c.args.begun e t a.start c.args.rest.now z c.requires.begins full)

pub returns-in_ok-outcome-in-Bars : goal.returns-in_ok-outcome-in-Bars
returns-in_ok-outcome-in-Bars c =
    let v = c.in_ok-outcome-in-Bars.ensures in
    let k =
    first_advances c.args.heap.now.objects c.in_bars.new.heap.objects c.args.self.now (record c.args.self.now { begun = c.args.begun; token = c.clear.new.self }) c.in_bars.new.self c.args.rest.now c.in_ok-outcome-in-Bars.outcome c.in_ok-outcome-in-Bars.n
    c.requires.begun c.clear.ensures.items refl (subst IsMarked (sym c.in-Bars.is) tt) c.requires.begins v.taken v.moves v.advances in
    record { grows = v.grows; taken = k.0; moves = k.1; advances = k.2 }

pub returns-in_ok-outcome-in-Hash : goal.returns-in_ok-outcome-in-Hash
returns-in_ok-outcome-in-Hash c =
    let v = c.in_ok-outcome-in-Hash.ensures in
    let k =
    first_advances c.args.heap.now.objects c.in_hash.new.heap.objects c.args.self.now (record c.args.self.now { begun = c.args.begun; token = c.clear.new.self }) c.in_hash.new.self c.args.rest.now c.in_ok-outcome-in-Hash.outcome c.in_ok-outcome-in-Hash.n
    c.requires.begun c.clear.ensures.items refl (subst IsMarked (sym c.in-Hash.is) tt) c.requires.begins v.taken v.moves v.advances in
    record { grows = v.grows; taken = k.0; moves = k.1; advances = k.2 }

pub returns-in_default : goal.returns-in_default
returns-in_default c =
    let a = c.args.self.now in
    let os = c.args.heap.now.objects in
    let mid : Parser = record a { begun = c.args.begun; token = c.clear.new.self } in
    let k = is_token c.args.begun c.args.rest.now c.requires.begins c.in_default.not-Bars c.in_default.not-Hash in
    let o = token_offset a mid c.requires.begun c.clear.ensures.items refl k.0 in
    record {
      grows = c.in_token.ensures.grows;
      taken = c.in_token.ensures.taken;
      moves = if_ok_both _ _ _ c.in_token.result (λ r s m. moves_on r.0 a mid c.in_token.new.self c.args.rest.now r.1 o (s k.1) m) c.in_token.ensures.starts c.in_token.ensures.moves;
      advances = if_ok_more _ _ c.in_token.result (λ r f t h. token_begin c.in_token.new.heap.objects t a mid c.in_token.new.self c.args.rest.now r.0 r.1 c.requires.begun k.0 c.clear.ensures.items refl (f t h)) c.in_token.ensures.advances;
    }
