-- White space directly after what was read.
use Rattle.std.proofs.Common.{◌≡◌, ℕ, suc, eqb-true, true≢false, ◌+◌, ◌*◌, ◌<◌, Bool, true, false, ◌||◌, eqb, List, [], ◌∷◌, length, drop, inl, inr, refl, sym, ap, ◌∙◌, subst, arith}
use Rattle.std.proofs.lemmas.List.{length-drop}
use Rattle.mw_model.specs.Terms.Object.{Object}
use Rattle.mw_model.specs.Texts.Lexemes.{Ending, Goes, glued, glued_bar, is_constituent, class, lexemes_from}
use Rattle.mw_model.specs.Texts.Lexemes as lex
use Rattle.mw_read.specs.Machine.{State}
use Rattle.mw_read.specs.Resume.{resume}
use Rattle.mw_read.specs.Held.{Holds}
use Rattle.mw_read.specs.Parsing.{meaning_of, IsAfter, IsBetween, IsFirst, Advances, Moved, PassesWhite, offset_of, offset_at, weight}
use Rattle.mw_read.specs.declared.parser.Begun.{Begun}
use Rattle.mw_read.specs.declared.parser.Begun.TheVariants.{Nothing, AfterToken, AfterBar}
use Rattle.mw_read.specs.declared.parser.Parser.{Parser}
use Rattle.mw_read.specs.declared.step.Outcome.TheVariants as outcomes
use Rattle.mw_heap.proofs.Objects.{Grows-refl}
use Rattle.mw_lex.proofs.Lexemes.{piece_lexemes}
use Rattle.mw_lex.proofs.Classes.{other_class}
use Rattle.mw_read.proofs.Hashes.{free_parser}
use Rattle.mw_read.proofs.Beginning.{same_after}
use Rattle.mw_read.proofs.Scanning.{Scans, scan_next}

white_bar : (b : ℕ) → class b ≡ lex.White → eqb b 124 ≡ true → ⊥
white_bar b h e = no_bar (sym (ap class (eqb-true b 124 e)) ∙ h)
  where
    no_bar : lex.Bar ≡ lex.White → ⊥
    no_bar k = cc

white_hash : (b : ℕ) → class b ≡ lex.White → eqb b 35 ≡ true → ⊥
white_hash b h e = no_hash (sym (ap class (eqb-true b 35 e)) ∙ h)
  where
    no_hash : lex.Hash ≡ lex.White → ⊥
    no_hash k = cc

no_or : (u v : Bool) → (u ≡ true → ⊥) → (v ≡ true → ⊥) → (u || v) ≡ false
no_or true v f g = absurd (f refl)
no_or false true f g = absurd (g refl)
no_or false false f g = refl

-- white space may stand after what is complete
white_glued : (b : ℕ) → class b ≡ lex.White → glued b ≡ false
white_glued b h = no_or (eqb b 124) (eqb b 35) (white_bar b h) (white_hash b h)

white_glued_bar : (b : ℕ) → class b ≡ lex.White → glued_bar b ≡ false
white_glued_bar b h = no_or (glued b) (is_constituent b) (λ e. true≢false (sym e ∙ white_glued b h)) (λ e. true≢false (sym e ∙ other_class b (λ k. no_constituent (sym h ∙ k))))
  where
    no_constituent : lex.White ≡ lex.Constituent → ⊥
    no_constituent k = cc

white_after : (m : Begun) (b : ℕ) → IsBetween m → class b ≡ lex.White → IsAfter m false b
white_after Nothing b i h = refl
white_after AfterToken b i h = sym (white_glued b h)
white_after AfterBar b i h = sym (white_glued_bar b h)
white_after m b i h = absurd i

some_first : (k : lex.Class) (x : List ℕ) → IsFirst k x → 0 < length x
some_first k [] h = absurd h
some_first k (b ∷ x) h = omega arith

offset_between : (m : Begun) (n o : ℕ) → IsBetween m → offset_at m n o ≡ o
offset_between Nothing n o h = refl
offset_between AfterToken n o h = refl
offset_between AfterBar n o h = refl
offset_between m n o h = absurd h

module _ (os : List Object) (old : Parser) (i : IsBetween old.begun) where
  abbrev passed : Parser
  passed = record old { begun = Nothing; start = old.start + 1 }

  white_passes : (t : State) (b : ℕ) → class b ≡ lex.White → (e : Ending) (z : List ℕ) → meaning_of e t old (b ∷ z) ≡ meaning_of e t passed z
  white_passes t b h e z =
      same_after os t old (record old { begun = Nothing }) passed refl refl b (white_after old.begun b i h) e z
      ∙ ap (resume t) (piece_lexemes e old.start b z lex.White h)
      ∙ ap (λ o. resume t (lexemes_from e o 0 z)) (let o : suc old.start ≡ old.start + 1 = omega arith in o)

  white_moves : (rest : List ℕ) → IsFirst lex.White rest → Moved old rest 1 passed
  white_moves rest f = record {
    offset = (let o : old.start + 1 ≡ offset_of old + 1 = omega (arith, offset_between old.begun (length old.token.items) old.start i) in o);
    left = tt;
    started = tt;
    less = λ l. let w : 0 < weight old.begun + 2 * 1 = omega arith in w;
    stops = λ q. absurd (true≢false (sym q));
  }

  white_advances : (rest : List ℕ) → IsFirst lex.White rest → (t : State) → Holds os old.stack t → Advances os t old rest outcomes.Pending 1 passed
  white_advances [] f t h = absurd f
  white_advances (b ∷ rest) f t h = (t, holds_again, free_parser os passed refl h.stack, λ e z fit. white_passes t b f e z)
    where
      holds_again : Holds os passed.stack t
      holds_again = h

-- what a loop over the piece keeps, past white space
pub blank_scans : (first : List Object) (old : Parser) (piece : List ℕ) (os : List Object) (p : Parser) (at n : ℕ) (new : Parser) → Scans first old piece os p at → PassesWhite p (drop at piece) n new → Scans first old piece os new (at + n)
blank_scans first old piece os p at n new s (inl h) =
    subst (λ k. Scans first old piece os new (at + k)) (sym h.0)
    (subst (λ k. Scans first old piece os new k) (let e : at ≡ at + 0 = omega arith in e) (subst (λ q. Scans first old piece os q at) (sym h.1) s))
blank_scans first old piece os p at n new s (inr h) =
    let some = some_first lex.White (drop at piece) h.3 in
    subst (λ k. Scans first old piece os new (at + k)) (sym h.0)
    (subst (λ q. Scans first old piece os q (at + 1)) (sym h.1)
    (scan_next first old piece os p at s os (record p { begun = Nothing; start = p.start + 1 }) (Grows-refl os) (omega (arith, some, length-drop at piece)) 1 (omega (arith, some))
    (white_moves os p h.2 (drop at piece) h.3) (white_advances os p h.2 (drop at piece) h.3)))
