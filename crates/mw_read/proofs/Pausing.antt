-- A text that goes on in the next piece.
use Rattle.std.proofs.Common.{◌≡◌, ℕ, ◌+◌, ◌<◌, ◌⊎◌, inl, inr, Bool, false, List, [], ◌∷◌, ◌++◌, length, take, drop, refl, sym, ap, ◌∙◌, subst, arith, append_assoc, length-append, zero, suc, get_or, true≢false}
use Rattle.std.proofs.lemmas.List.{take_all}
use Rattle.mw_model.specs.Terms.Object.{Object}
use Rattle.mw_model.specs.Texts.Lexemes.{Ending, Goes, lexemes_from}
use Rattle.mw_lex.specs.Runs.{StartsWith}
use Rattle.mw_read.specs.Machine.{State}
use Rattle.mw_read.specs.Resume.{resume}
use Rattle.mw_read.specs.Piles.{pile_of, is_ready}
use Rattle.mw_read.specs.Stacks.{IsStack}
use Rattle.mw_read.specs.Held.{Holds}
use Rattle.mw_read.specs.Parsing.{ahead, meaning_of, Fits, IsText, IsStarted, is_inside, IsParser, Advances, Moved, offset_at, weight}
use Rattle.mw_read.specs.Pausing.{GoesOn}
use Rattle.mw_read.specs.declared.stack.Stack.{Stack}
use Rattle.mw_read.specs.declared.parser.Begun.{Begun}
use Rattle.mw_read.specs.declared.parser.Begun.TheVariants.{Token, Bars, Hash}
use Rattle.mw_read.specs.declared.parser.Parser.{Parser}
use Rattle.mw_read.specs.declared.step.Outcome.TheVariants as outcomes
use Rattle.mw_read.proofs.Beginning.{offset_is}

goes_at : (m : Begun) (x : List ℕ) → GoesOn m x → (n k o : ℕ) → offset_at m (n + k) o ≡ offset_at m n o + k
goes_at Token x g n k o = omega arith
goes_at Bars x g n k o = omega arith
goes_at Hash x g n k o = omega arith
goes_at m x g n k o = absurd g

goes_fits : (m : Begun) (x : List ℕ) → GoesOn m x → (e : Ending) (z : List ℕ) → Fits m e z
goes_fits Token x g e z = tt
goes_fits Bars x g e z = tt
goes_fits Hash x g e z = tt
goes_fits m x g e z = absurd g

goes_started : (m : Begun) (x : List ℕ) → GoesOn m x → IsStarted m x
goes_started Token x g = g.1
goes_started Bars x g = tt
goes_started Hash x g = tt
goes_started m x g = absurd g

goes_text : (m : Begun) (x : List ℕ) → GoesOn m x → IsText m x
goes_text Token x g = g.0
goes_text Bars x g = g
goes_text Hash x g = g
goes_text m x g = absurd g

goes_ahead : (m : Begun) (x : List ℕ) → GoesOn m x → (e : Ending) (t bytes : List ℕ) (o : ℕ) (z : List ℕ) → ahead e m t o (bytes ++ z) ≡ ahead e m (t ++ bytes) o z
goes_ahead Token x g e t bytes o z = ap (λ y. lexemes_from e o 0 y) (sym (append_assoc t bytes z))
goes_ahead Bars x g e t bytes o z = ap (λ y. lexemes_from e o 0 (124 ∷ y)) (sym (append_assoc t bytes z))
goes_ahead Hash x g e t bytes o z = ap (λ y. lexemes_from e o 0 (35 ∷ y)) (sym (append_assoc t bytes z))
goes_ahead m x g e t bytes o z = absurd g

module _ (old new : Parser) (bytes : List ℕ) (g : GoesOn old.begun (old.token.items ++ bytes)) (b : new.begun ≡ old.begun) (s : new.start ≡ old.start) (i : new.token.items ≡ old.token.items ++ bytes) where
  abbrev whole : List ℕ
  whole = old.token.items ++ bytes

  pub pause_moves : Moved old bytes (length bytes) new
  pause_moves = record {
    offset =
        offset_is new old.begun (length old.token.items + length bytes) old.start b (ap length i ∙ length-append old.token.items bytes) s
        ∙ goes_at old.begun whole g (length old.token.items) (length bytes) old.start;
    left = subst (λ m. Fits m Goes (drop (length bytes) bytes)) (sym b) (goes_fits old.begun whole g Goes (drop (length bytes) bytes));
    started = subst (λ m. IsStarted m new.token.items) (sym b) (subst (λ x. IsStarted old.begun x) (sym i) (goes_started old.begun whole g));
    less = λ l. omega (arith, ap weight b, l);
    stops = λ q. refl;
  }

  pub pause_advances : (os : List Object) (t : State) → IsParser os old → new.stack ≡ old.stack → Holds os old.stack t → Advances os t old bytes outcomes.Pending (length bytes) new
  pause_advances os t p c h = (
    t,
    subst (λ u. Holds os u t) (sym c) h,
    record {
      stack = subst (λ u. IsStack os u) (sym c) p.stack;
      text = subst (λ m. IsText m new.token.items) (sym b) (subst (λ x. IsText old.begun x) (sym i) (goes_text old.begun whole g));
      ready = λ r. subst (λ (u : Stack). is_ready (pile_of os u.layers.items) ≡ false) (sym c) (p.ready (sym (ap is_inside b) ∙ r));
    },
    λ e z f.
        ap (λ u. meaning_of e t old (u ++ z)) (take_all (length bytes) bytes (omega arith))
        ∙ ap (resume t) (goes_ahead old.begun whole g e old.token.items bytes old.start z)
        ∙ sym (ap (λ m. resume t (ahead e m new.token.items new.start z)) b
        ∙ ap (λ o. resume t (ahead e old.begun new.token.items o z)) s
        ∙ ap (λ x. resume t (ahead e old.begun x old.start z)) i),
  )

-- the first n bytes are all of them
pub whole_taken : (rest : List ℕ) (n : ℕ) → n ≡ length rest → take n rest ≡ rest
whole_taken rest n h = take_all n rest (omega (arith, h))

pub starts_some : (p : ℕ → Bool) (rest : List ℕ) → StartsWith p rest → 0 < length rest
starts_some p [] h = absurd h
starts_some p (b ∷ rest) h = omega arith

-- a byte was taken of a run that has one
pub some_taken : (p : ℕ → Bool) (rest : List ℕ) (n : ℕ) → StartsWith p rest → (n < length rest → p (get_or rest n 0) ≡ false) → n < length rest → 0 < n
some_taken p [] n h e l = absurd h
some_taken p (b ∷ rest) zero h e l = absurd (true≢false (sym h ∙ e l))
some_taken p (b ∷ rest) (suc n) h e l = omega arith

-- a token that has begun, or begins here, has a byte
pub some_begun : (p : ℕ → Bool) (xs rest : List ℕ) → (0 < length xs) ⊎ StartsWith p rest → 0 < length (xs ++ rest)
some_begun p (x ∷ xs) rest h = omega arith
some_begun p [] rest (inl h) = absurd (omega arith)
some_begun p [] rest (inr h) = starts_some p rest h
