use Rattle.std.proofs.Common.{◌∙◌, ◌<◌, ◌≤◌, ◌+◌, ◌++◌, ◌∷◌, sym, ap, subst, length, take, drop, get_or, arith, [], ◌≡◌, true, length-append, refl}
use Rattle.mw_model.specs.Texts.Lexemes.{is_digit, lexemes_from}
use Rattle.std.specs.List.{list_all}
use Rattle.mw_read.specs.Resume.{resume}
use Rattle.mw_read.specs.Parsing.{ahead}
use Rattle.mw_read.specs.Pausing.{GoesOn}
use Rattle.mw_read.specs.declared.step.SyntaxKind.TheVariants as kinds
use Rattle.mw_read.proofs.Holding.{sound_clamp}
use Rattle.mw_read.proofs.Bare.{all_append, go_on_past, both_length, take_cut}
use Rattle.mw_read.proofs.Hashes.{hash_long, hash_advance}
use Rattle.mw_read.proofs.Pausing.{whole_taken}
use Rattle.mw_read.proofs.Reading.{begun_text, begun_free, IsReadTo, read_to}
use Rattle.mw_read.proofs.Moving.{hash_moves}
use Rattle.mw_read.proofs.Advancing.{fault_advances}
use Rattle.mw_read.proofs.parser.Parser.in_hash.Goals as goal
use Rattle.mw_read.proofs.parser.Parser.in_hash.Goals.{Else-n-rest}

-- the digits, up to the byte that ends them
digits : (c : goal.Else-n-rest) → IsReadTo is_digit c.args.self.now.token.items c.args.rest.now c.digits-n.result
digits c = read_to (begun_text c.requires.parser c.requires.begun).0 c.digits-n.ensures c.if-n-rest.false

few : (c : goal.Else-n-rest) → length (c.args.self.now.token.items ++ take c.digits-n.result c.args.rest.now) ≤ 9
few c = omega (arith, (digits c).size, c.len.ensures, c.args.self.now.token.ok.0, c.if-len-n-gt9.false)

pub returns-then-len-n-gt9-clause-advances : goal.returns-then-len-n-gt9-clause-advances
returns-then-len-n-gt9-clause-advances c t h =
    let a = c.args.self.now in
    let rest = c.args.rest.now in
    let n = c.digits-n.result in
    let run = c.digits-n.ensures in
    let text = begun_text c.requires.parser c.requires.begun in
    let whole = a.token.items ++ take n rest in
    let l = both_length a.token.items rest n run.within in
    let long : 9 < length whole = omega (arith, l, c.len.ensures, a.token.ok.0, c.if-len-n-gt9.true) in
    fault_advances c.args.heap.now.objects t a a rest c.fault.result 0 (record { kind = kinds.Label; offset = a.start }) c.fault.ensures
    (λ e z.
    ap (λ m. resume t (ahead e m a.token.items a.start (rest ++ z))) c.requires.begun
    ∙ ap (λ y. resume t (lexemes_from e a.start 0 (35 ∷ y))) (take_cut a.token.items rest n z)
    ∙ hash_long e t a.start whole (drop n rest ++ z) (all_append is_digit a.token.items (take n rest) text.0 run.all) long (begun_free c.requires.parser c.requires.begun refl h) (sound_clamp c.args.heap.now.objects a.stack t h.means))

pub pause-requires : goal.pause-requires
pause-requires c =
    let a = c.args.self.now in
    let rest = c.args.rest.now in
    let n = c.digits-n.result in
    let text = begun_text c.requires.parser c.requires.begun in
    let run = subst (λ u. list_all is_digit u ≡ true) (whole_taken rest n c.if-n-rest.true) c.digits-n.ensures.all in
    let few : length (a.token.items ++ rest) ≤ 9 = omega (arith, length-append a.token.items rest, c.if-n-rest.true, c.len.ensures, a.token.ok.0, c.if-len-n-gt9.false) in
    subst (λ m. GoesOn m (a.token.items ++ rest)) (sym c.requires.begun) (all_append is_digit a.token.items rest text.0 run, few)

pub end_hash-requires-clause-digits : goal.end_hash-requires-clause-digits
end_hash-requires-clause-digits c = (digits (goal.at.end_hash-requires-clause-digits c).Else-n-rest).all

pub end_hash-requires-clause-few : goal.end_hash-requires-clause-few
end_hash-requires-clause-few c = few (goal.at.end_hash-requires-clause-few c).Else-n-rest

pub returns-clause-moves : goal.returns-clause-moves
returns-clause-moves c =
    let s = digits (goal.at.returns-clause-moves c).Else-n-rest in hash_moves c.args.self.now c.end_hash.new.self c.args.rest.now c.digits-n.result c.in_ok-outcome.outcome c.requires.begun s.more c.in_ok-outcome.ensures.ended

pub returns-clause-advances : goal.returns-clause-advances
returns-clause-advances c t h =
    let a = c.args.self.now in
    let rest = c.args.rest.now in
    let n = c.digits-n.result in
    let k = goal.at.returns-clause-advances c in
    let s = digits k.Else-n-rest in
    hash_advance c.end_hash.new.heap.objects t a c.end_hash.new.self rest (n + 1) (a.token.items ++ take n rest) (drop (n + 1) rest) (get_or rest n 0) c.in_ok-outcome.outcome
    (λ z. take_cut [] rest (n + 1) z) s.all s.ends (few k.Else-n-rest)
    (λ e z.
    ap (λ m. resume t (ahead e m a.token.items a.start (take (n + 1) rest ++ z))) c.requires.begun
    ∙ ap (λ y. resume t (lexemes_from e a.start 0 (35 ∷ y))) (go_on_past a.token.items rest n z s.more))
    (c.in_ok-outcome.ensures.took t h (begun_free c.requires.parser c.requires.begun refl h))
    c.in_ok-outcome.ensures.ended
