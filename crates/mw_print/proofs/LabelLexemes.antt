-- A label is one lexeme.
use Rattle.std.proofs.Common.{◌≡◌, ℕ, zero, suc, ◌+◌, ◌*◌, ◌/◌, ◌%◌, ◌≤◌, ◌<◌, Bool, true, false, List, [], ◌∷◌, ◌++◌, length, refl, sym, ap, ap₂, ◌∙◌, if◌then◌else◌, ltb, arith, append_assoc, length-append, ltb-false, Some}
use Rattle.std.proofs.lemmas.Bool.{le-ltb}
use Rattle.mw_model.specs.Texts.Lexemes.{Lexeme, Mark, Ref, Wrong, fault, LABEL, Ending, lexemes_from, hashed, label, run_of, after_run, is_digit}
use Rattle.mw_model.specs.Texts.Printing.{numeral, numeral_from}
use Rattle.mw_model.proofs.Lexing.{run_of-append, after_run-append, lexemes_from-taken}
use Rattle.mw_model.proofs.Numerals.{IsNumeral, numeral_is}
use Rattle.mw_print.specs.Labelling.{label_text, again_text, most_label}

-- ---- a number of at most nine digits

abbrev tens : ℕ → ℕ
tens zero = 1
tens (suc k) = 10 * tens k

digits_few : (k j n : ℕ) → n < k → n < 10 * tens j → length (numeral_from k n) ≤ suc j
digits_few zero j n h l = absurd (omega arith)
digits_few (suc k) j n h l = go j (ltb n 10) refl l (λ i small big. digits_few k i (n / 10) (omega (arith, big, h)) (omega (arith, small)))
  where
    go : (j : ℕ) (v : Bool) → ltb n 10 ≡ v → n < 10 * tens j → ((i : ℕ) → n < 10 * (10 * tens i) → 10 ≤ n → length (numeral_from k (n / 10)) ≤ suc i) → length (if v then (48 + n) ∷ [] else numeral_from k (n / 10) ++ (48 + n % 10) ∷ []) ≤ suc j
    go j true q m shorter = omega arith
    go zero false q m shorter = absurd (omega (arith, m, ltb-false n 10 q))
    go (suc j) false q m shorter =
        let less = shorter j m (ltb-false n 10 q) in
        omega (arith, length-append (numeral_from k (n / 10)) ((48 + n % 10) ∷ []), less)

pub nine_digits : (n : ℕ) → n ≤ most_label → length (numeral n) ≤ 9
nine_digits n h = digits_few (suc n) 8 n (omega arith) (omega arith)

-- ---- a hash, digits and a byte after them

length-more : (n : List ℕ) (b : ℕ) → suc (length n) ≡ length (n ++ b ∷ [])
length-more n b = omega (arith, length-append n (b ∷ []))

module _ (b : ℕ) (of : ℕ → ℕ → Lexeme) (ends : is_digit b ≡ false) (is : (e : Ending) (o c : ℕ) (d z : List ℕ) (m : ℕ) → IsNumeral m (c ∷ d) → label e o (c ∷ d) (b ∷ z) ≡ of o m ∷ []) where
  hash_lexed : (e : Ending) (o m : ℕ) (ds z : List ℕ) → IsNumeral m ds → length ds ≤ 9 → lexemes_from e o 0 ((35 ∷ (ds ++ b ∷ [])) ++ z) ≡ of o m ∷ lexemes_from e (o + length (35 ∷ (ds ++ b ∷ []))) 0 z
  hash_lexed e o m [] z h l = absurd (omega (arith, h.2))
  hash_lexed e o m (c ∷ d) z h l =
      let ds = c ∷ d in
      let y = (ds ++ b ∷ []) ++ z in
      let assoc : y ≡ ds ++ b ∷ z = append_assoc ds (b ∷ []) z in
      ap (λ y. hashed e o (run_of is_digit y) (after_run is_digit y) ++ lexemes_from e (suc o) (suc (length (run_of is_digit y))) y) assoc
      ∙ ap₂ (λ u v. hashed e o u v ++ lexemes_from e (suc o) (suc (length u)) (ds ++ b ∷ z)) (run_of-append is_digit ds (b ∷ z) h.0 ends) (after_run-append is_digit ds (b ∷ z) h.0 ends)
      ∙ ap₂ (λ u v. u ++ v)
      (ap (λ v. if v then Wrong o (Some (fault LABEL o)) ∷ [] else label e o ds (b ∷ z)) (le-ltb 9 (length ds) l) ∙ is e o c d z m h)
      (ap₂ (λ k y. lexemes_from e (suc o) k y) (length-more ds b) (sym assoc)
      ∙ lexemes_from-taken e (ds ++ b ∷ []) z (suc o)
      ∙ ap (λ k. lexemes_from e k 0 z) (omega arith))

pub mark_lexed : (e : Ending) (o n : ℕ) (z : List ℕ) → n ≤ most_label → lexemes_from e o 0 (label_text n ++ z) ≡ Mark o n ∷ lexemes_from e (o + length (label_text n)) 0 z
mark_lexed e o n z h = hash_lexed 61 Mark refl (λ e o c d z m i. ap (λ k. Mark o k ∷ []) i.1) e o n (numeral n) z (numeral_is n) (nine_digits n h)

pub again_lexed : (e : Ending) (o n : ℕ) (z : List ℕ) → n ≤ most_label → lexemes_from e o 0 (again_text n ++ z) ≡ Ref o n ∷ lexemes_from e (o + length (again_text n)) 0 z
again_lexed e o n z h = hash_lexed 35 Ref refl (λ e o c d z m i. ap (λ k. Ref o k ∷ []) i.1) e o n (numeral n) z (numeral_is n) (nine_digits n h)
