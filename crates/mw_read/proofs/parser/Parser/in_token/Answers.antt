use Rattle.std.proofs.Common.{◌≡◌, ◌++◌, sym, subst, suc, take, drop, get_or, arith, true, refl}
use Rattle.mw_model.specs.Texts.Lexemes.{is_constituent}
use Rattle.mw_read.specs.Parsing.{IsBetween}
use Rattle.std.specs.List.{list_all}
use Rattle.mw_read.specs.Pausing.{GoesOn}
use Rattle.mw_read.proofs.Holding.{sound_clamp}
use Rattle.mw_read.proofs.Bare.{split_at, all_append, some_length}
use Rattle.mw_read.proofs.Beginning.{if_ok_more}
use Rattle.mw_read.proofs.White.{token_shows}
use Rattle.mw_read.proofs.Pausing.{whole_taken, starts_some, some_taken, some_begun}
use Rattle.mw_read.proofs.Reading.{begun_text, begun_free, IsReadTo, read_to}
use Rattle.mw_read.proofs.Moving.{moves_all, token_moved}
use Rattle.mw_read.proofs.Advancing.{token_advances}
use Rattle.mw_read.proofs.parser.Parser.in_token.Goals as goal
use Rattle.mw_read.proofs.parser.Parser.in_token.Goals.{Else-n-rest}

-- the token, up to the byte that ends it
token : (g : _) (c : goal.Else-n-rest g) → IsReadTo is_constituent c.args.self.now.token.items c.args.rest.now c.constituents-n.result
token g c = read_to (begun_text c.requires.parser c.requires.begun) c.constituents-n.ensures c.if-n-rest.false

pub pause-requires : goal.pause-requires
pause-requires g c =
    let a = c.args.self.now in
    let rest = c.args.rest.now in
    let run = subst (λ u. list_all is_constituent u ≡ true) (whole_taken rest c.constituents-n.result c.if-n-rest.true) c.constituents-n.ensures.all in
    subst (λ m. GoesOn m (a.token.items ++ rest)) (sym c.requires.begun) (all_append is_constituent a.token.items rest (begun_text c.requires.parser c.requires.begun) run, some_begun is_constituent a.token.items rest c.requires.some)

pub returns-then-n-rest-clause-taken : goal.returns-then-n-rest-clause-taken
returns-then-n-rest-clause-taken g c = if_ok_more _ _ c.pause.result (λ r e. omega (arith, e)) c.pause.ensures.all

pub returns-then-n-rest-clause-starts : goal.returns-then-n-rest-clause-starts
returns-then-n-rest-clause-starts g c = if_ok_more _ _ c.pause.result (λ r e h. omega (arith, e, starts_some is_constituent c.args.rest.now h)) c.pause.ensures.all

pub returns-clause-starts : goal.returns-clause-starts
returns-clause-starts g c h =
    some_taken is_constituent c.args.rest.now c.constituents-n.result h c.constituents-n.ensures.ends (token g (goal.at.returns-clause-starts g c).Else-n-rest).more

pub end_token-requires-clause-token : goal.end_token-requires-clause-token
end_token-requires-clause-token g c = (token g (goal.at.end_token-requires-clause-token g c).Else-n-rest).all

pub returns-clause-moves : goal.returns-clause-moves
returns-clause-moves g c =
    let a = c.args.self.now in
    let rest = c.args.rest.now in
    let n = c.constituents-n.result in
    let s = token g (goal.at.returns-clause-moves g c).Else-n-rest in
    moves_all c.in_ok-outcome.outcome a rest n c.end_token.new.self (token_moved a c.end_token.new.self rest n c.requires.begun c.end_token.ensures.begun c.end_token.ensures.start s.more s.ends)
    (record { between = subst IsBetween (sym c.end_token.ensures.begun) tt; last = λ k e. token_shows rest k (subst (λ m. list_all is_constituent (take m rest) ≡ true) e c.constituents-n.ensures.all) })

pub returns-clause-advances : goal.returns-clause-advances
returns-clause-advances g c t h =
    let a = c.args.self.now in
    let rest = c.args.rest.now in
    let n = c.constituents-n.result in
    let s = token g (goal.at.returns-clause-advances g c).Else-n-rest in
    let free = begun_free c.requires.parser c.requires.begun refl h in
    token_advances c.end_token.new.heap.objects t a c.end_token.new.self rest n (get_or rest n 0) c.glued_to_token.result (drop (suc n) rest)
    c.requires.begun free (sound_clamp c.args.heap.now.objects a.stack t h.means) (some_length is_constituent a.token.items rest n c.requires.some c.constituents-n.ensures.ends s.more)
    s.all c.end_token.ensures.begun c.end_token.ensures.start
    c.in_ok-outcome.outcome (split_at rest n s.more) s.ends (sym c.glued_to_token.ensures) (c.in_ok-outcome.ensures.took t h free)
