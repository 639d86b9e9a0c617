-- How far a parser is where a text has begun or ended.
use Rattle.std.proofs.Common.{◌≡◌, ℕ, zero, suc, ◌+◌, ◌<◌, ◌++◌, ◌∷◌, [], List, length, take, drop, get_or, Result, Ok, Err, IfOk, true, false, true≢false, refl, sym, ap, ◌∙◌, subst, arith}
use Rattle.mw_model.specs.Terms.Object.{Object, is_name_byte}
use Rattle.mw_model.specs.Texts.Lexemes.{Goes, is_constituent, is_white, lexemes_from}
use Rattle.std.specs.List.{list_all}
use Rattle.mw_read.specs.Machine.{State}
use Rattle.mw_read.specs.Resume.{resume}
use Rattle.mw_read.specs.Piles.{pile_of, is_ready}
use Rattle.mw_read.specs.Stacks.{IsStack}
use Rattle.mw_read.specs.Held.{Holds}
use Rattle.mw_read.specs.Parsing.{ahead, Fits, IsText, IsStarted, is_inside, IsParser, Advances, EndsHash, EndsAt, IsBetween, Moved, Moves, offset_of, weight}
use Rattle.mw_read.specs.declared.stack.Stack.{Stack}
use Rattle.mw_read.specs.declared.parser.Begun.{Begun}
use Rattle.mw_read.specs.declared.parser.Begun.TheVariants.{Nothing, Comment, Token, Bars, Barred, Hash, AfterToken, AfterBar}
use Rattle.mw_read.specs.declared.parser.Parser.{Parser}
use Rattle.mw_read.specs.declared.step.Outcome.{Outcome}
use Rattle.mw_read.specs.declared.step.Outcome.TheVariants as outcomes
use Rattle.mw_read.proofs.Bare.{both_length, go_on_past}
use Rattle.mw_read.proofs.Beginning.{offset_is}

drop_at : (xs : List ℕ) (n : ℕ) → n < length xs → drop n xs ≡ get_or xs n 0 ∷ drop (suc n) xs
drop_at [] n h = absurd (omega arith)
drop_at (x ∷ xs) zero h = refl
drop_at (x ∷ xs) (suc n) h = drop_at xs n (omega arith)

pub moves_all : (r : Outcome) (old : Parser) (rest : List ℕ) (n : ℕ) (new : Parser) → Moved old rest n new → EndsAt new.begun rest n → Moves r old rest n new
moves_all outcomes.Pending old rest n new m e = m
moves_all (outcomes.Datum x) old rest n new m e = (m, e)
moves_all (outcomes.Fault f) old rest n new m e = tt

-- what was taken ends with a byte that is no white space
pub ends_with : (m k : Begun) (rest : List ℕ) (n : ℕ) → m ≡ k → IsBetween k → is_white (get_or rest n 0) ≡ false → EndsAt m rest (n + 1)
ends_with m k rest n e i w = record {
  between = subst IsBetween (sym e) i;
  last = λ j h. ap (λ q. is_white (get_or rest q 0)) (let l : j ≡ n = omega (arith, h) in l) ∙ w;
}

-- a text that does not go on
outside : (m k : Begun) (n l : ℕ) → m ≡ k → is_inside k ≡ false → is_inside m ≡ true → n ≡ l
outside m k n l e i h = absurd (true≢false (sym h ∙ (ap is_inside e ∙ i)))

-- white space, or a lexeme of one byte
pub byte_moved : (old new : Parser) (rest : List ℕ) → old.begun ≡ Nothing → new.begun ≡ Nothing → new.start ≡ old.start + 1 → Moved old rest 1 new
byte_moved old new rest h i s =
    let o = offset_is old Nothing (length old.token.items) old.start h refl refl in
    let p = offset_is new Nothing (length new.token.items) (old.start + 1) i refl s in
    record {
      offset = (let e : offset_of new ≡ offset_of old + 1 = omega (arith, o, p) in e);
      left = subst (λ m. Fits m Goes (drop 1 rest)) (sym i) tt;
      started = subst (λ m. IsStarted m new.token.items) (sym i) tt;
      less = λ q. omega (arith, ap weight i);
      stops = outside new.begun Nothing 1 (length rest) i refl;
    }

pub byte_moves : (r : Outcome) (old new : Parser) (rest : List ℕ) → old.begun ≡ Nothing → new.begun ≡ Nothing → new.start ≡ old.start + 1 → is_white (get_or rest 0 0) ≡ false → Moves r old rest 1 new
byte_moves r old new rest h i s w =
    let ends = subst (λ n. EndsAt new.begun rest n) (let e : 0 + 1 ≡ 1 = omega arith in e) (ends_with new.begun Nothing rest 0 i tt w) in
    moves_all r old rest 1 new (byte_moved old new rest h i s) ends

-- a comment begins
pub comment_moved : (old new : Parser) (rest : List ℕ) → old.begun ≡ Nothing → new.begun ≡ Comment → new.start ≡ old.start → Moved old rest 1 new
comment_moved old new rest h i s =
    let o = offset_is old Nothing (length old.token.items) old.start h refl refl in
    let p = offset_is new Comment (length new.token.items) old.start i refl s in
    record {
      offset = (let e : offset_of new ≡ offset_of old + 1 = omega (arith, o, p) in e);
      left = subst (λ m. Fits m Goes (drop 1 rest)) (sym i) tt;
      started = subst (λ m. IsStarted m new.token.items) (sym i) tt;
      less = λ q. omega (arith, ap weight i);
      stops = outside new.begun Comment 1 (length rest) i refl;
    }

-- a label
pub hash_ended : {E : Type 0} (r : Result Outcome E) (n b : ℕ) (old new : Parser) → new.begun ≡ Nothing → new.start ≡ old.start + 2 + n → is_white b ≡ false → IfOk r (λ o. EndsHash o n b old new)
hash_ended (Ok outcomes.Pending) n b old new i s w = (i, s, w)
hash_ended (Ok (outcomes.Datum x)) n b old new i s w = (i, s, w)
hash_ended (Ok (outcomes.Fault f)) n b old new i s w = tt
hash_ended (Err e) n b old new i s w = tt

-- its bytes are its digits and two more
pub hash_length : {x d : List ℕ} (o : ℕ) → x ≡ d → o + (length x + 2) ≡ o + 2 + length d
hash_length {x} {d} o w = omega (arith, ap length w)

module _ (old new : Parser) (rest : List ℕ) (n : ℕ) where
  abbrev whole : List ℕ
  whole = old.token.items ++ take n rest

  -- a token
  pub token_moved : old.begun ≡ Token → new.begun ≡ AfterToken → new.start ≡ old.start + length whole → n < length rest → is_constituent (get_or rest n 0) ≡ false → Moved old rest n new
  token_moved h i s l c =
      let k = both_length old.token.items rest n (omega (arith, l)) in
      let o = offset_is old Token (length old.token.items) old.start h refl refl in
      let p = offset_is new AfterToken (length new.token.items) (old.start + length whole) i refl s in
      record {
        offset = (let e : offset_of new ≡ offset_of old + n = omega (arith, k, o, p) in e);
        left = subst (λ m. Fits m Goes (drop n rest)) (sym i) (subst (λ x. Fits AfterToken Goes x) (sym (drop_at rest n l)) c);
        started = subst (λ m. IsStarted m new.token.items) (sym i) tt;
        less = λ q. omega (arith, ap weight h, ap weight i);
        stops = outside new.begun AfterToken n (length rest) i refl;
      }

  -- a name between bars, and a byte after it
  pub bars_moved : old.begun ≡ Bars → new.begun ≡ AfterBar → new.start ≡ old.start + 2 + length whole → n + 1 < length rest → Moved old rest (n + 1) new
  bars_moved h i s l =
      let k = both_length old.token.items rest n (omega (arith, l)) in
      let o = offset_is old Bars (length old.token.items) old.start h refl refl in
      let p = offset_is new AfterBar (length new.token.items) (old.start + 2 + length whole) i refl s in
      record {
        offset = (let e : offset_of new ≡ offset_of old + (n + 1) = omega (arith, k, o, p) in e);
        left = subst (λ m. Fits m Goes (drop (n + 1) rest)) (sym i) (subst (λ x. Fits AfterBar Goes x) (sym (drop_at rest (n + 1) l)) tt);
        started = subst (λ m. IsStarted m new.token.items) (sym i) tt;
        less = λ q. omega (arith, ap weight i);
        stops = outside new.begun AfterBar (n + 1) (length rest) i refl;
      }

  -- a label
  pub hash_moved : old.begun ≡ Hash → new.begun ≡ Nothing → new.start ≡ old.start + 2 + length whole → n < length rest → Moved old rest (n + 1) new
  hash_moved h i s l =
      let k = both_length old.token.items rest n (omega (arith, l)) in
      let o = offset_is old Hash (length old.token.items) old.start h refl refl in
      let p = offset_is new Nothing (length new.token.items) (old.start + 2 + length whole) i refl s in
      record {
        offset = (let e : offset_of new ≡ offset_of old + (n + 1) = omega (arith, k, o, p) in e);
        left = subst (λ m. Fits m Goes (drop (n + 1) rest)) (sym i) tt;
        started = subst (λ m. IsStarted m new.token.items) (sym i) tt;
        less = λ q. omega (arith, ap weight i);
        stops = outside new.begun Nothing (n + 1) (length rest) i refl;
      }

  pub hash_moves : (r : Outcome) → old.begun ≡ Hash → n < length rest → EndsHash r (length whole) (get_or rest n 0) old new → Moves r old rest (n + 1) new
  hash_moves outcomes.Pending h l e = hash_moved h e.0 e.1 l
  hash_moves (outcomes.Datum x) h l e = (hash_moved h e.0 e.1 l, ends_with new.begun Nothing rest n e.0 tt e.2)
  hash_moves (outcomes.Fault f) h l e = tt

  -- a name between bars, where the closing bar is the last byte
  module _ (h : old.begun ≡ Bars) (i : new.begun ≡ Barred) (s : new.start ≡ old.start) (j : new.token.items ≡ whole) (l : n < length rest) where
    pub barred_moved : n + 1 ≡ length rest → Moved old rest (n + 1) new
    barred_moved all =
        let k = both_length old.token.items rest n (omega (arith, l)) in
        let o = offset_is old Bars (length old.token.items) old.start h refl refl in
        let p = offset_is new Barred (length whole) old.start i (ap length j) s in
        record {
          offset = (let e : offset_of new ≡ offset_of old + (n + 1) = omega (arith, k, o, p) in e);
          left = subst (λ m. Fits m Goes (drop (n + 1) rest)) (sym i) tt;
          started = subst (λ m. IsStarted m new.token.items) (sym i) tt;
          less = λ q. omega (arith, ap weight i);
          stops = λ q. all;
        }

    pub barred_advances : (os : List Object) (t : State) → IsParser os old → new.stack ≡ old.stack → Holds os old.stack t → get_or rest n 0 ≡ 124 → list_all is_name_byte whole ≡ true → 0 < length whole →
        Advances os t old rest outcomes.Pending (n + 1) new
    barred_advances os t p c q b a some = (
      t,
      subst (λ u. Holds os u t) (sym c) q,
      record {
        stack = subst (λ u. IsStack os u) (sym c) p.stack;
        text = subst (λ m. IsText m new.token.items) (sym i) (subst (λ x. IsText Barred x) (sym j) (a, some));
        ready = λ r. subst (λ (u : Stack). is_ready (pile_of os u.layers.items) ≡ false) (sym c) (p.ready (ap is_inside h));
      },
      λ e z f.
          ap (λ m. resume t (ahead e m old.token.items old.start (take (n + 1) rest ++ z))) h
          ∙ ap (λ y. resume t (lexemes_from e old.start 0 (124 ∷ y))) (go_on_past old.token.items rest n z l ∙ ap (λ v. whole ++ v ∷ z) b)
          ∙ sym (ap (λ m. resume t (ahead e m new.token.items new.start z)) i
          ∙ ap (λ o. resume t (ahead e Barred new.token.items o z)) s
          ∙ ap (λ x. resume t (ahead e Barred x old.start z)) j),
    )
