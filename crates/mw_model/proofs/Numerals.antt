-- Numerals are decimal digits, and are read as the number that they are written for.
use Rattle.std.proofs.Common.{◌≡◌, ℕ, zero, suc, ◌+◌, ◌-◌, ◌*◌, ◌/◌, ◌%◌, ◌^◌, ◌≤◌, ◌<◌, Bool, true, false, List, [], ◌∷◌, ◌++◌, length, refl, sym, ap, ◌∙◌, if◌then◌else◌, leb, ltb, arith, decimal, le-leb, ltb-true, ltb-false}
use Rattle.std.proofs.lemmas.Bool.{and_parts, and_from}
use Rattle.std.proofs.lemmas.Fmt.{decimal_step_wide, decimal_digit}
use Rattle.mw_model.specs.Texts.Lexemes.{is_digit, decimal_from, decimal_value}
use Rattle.std.specs.List.{list_all}
use Rattle.mw_model.specs.Texts.Printing.{numeral, numeral_from}

-- one or more digits, with the value n
abbrev pub IsNumeral : ℕ → List ℕ → Type 0
IsNumeral n ds = (list_all is_digit ds ≡ true) × (decimal_value ds ≡ n) × (0 < length ds)

pub all_are-append : (p : ℕ → Bool) (t u : List ℕ) → list_all p t ≡ true → list_all p u ≡ true → list_all p (t ++ u) ≡ true
all_are-append p [] u h k = k
all_are-append p (c ∷ t) u h k = let a = and_parts (p c) (list_all p t) h in and_from (p c) (list_all p (t ++ u)) a.0 (all_are-append p t u a.1 k)

decimal_from-more : (m d : ℕ) (t : List ℕ) → decimal_from m (t ++ d ∷ []) ≡ 10 * decimal_from m t + (d - 48)
decimal_from-more m d [] = refl
decimal_from-more m d (c ∷ t) = decimal_from-more (10 * m + (c - 48)) d t

length-more : (t : List ℕ) (b : ℕ) → 0 < length (t ++ b ∷ [])
length-more [] b = omega arith
length-more (c ∷ t) b = omega arith

digit_is : (k : ℕ) → k < 10 → is_digit (48 + k) ≡ true
digit_is k h = and_from (leb 48 (48 + k)) (leb (48 + k) 57) (le-leb 48 (48 + k) (omega arith)) (le-leb (48 + k) 57 (omega arith))

numeral_from-is : (k n : ℕ) → n < k → IsNumeral n (numeral_from k n)
numeral_from-is zero n h = absurd (omega arith)
numeral_from-is (suc k) n h = go (ltb n 10) refl (λ m. numeral_from-is k (n / 10) (omega arith))
  where
    go : (v : Bool) → ltb n 10 ≡ v → (10 ≤ n → IsNumeral (n / 10) (numeral_from k (n / 10))) →
        IsNumeral n (if v then (48 + n) ∷ [] else numeral_from k (n / 10) ++ (48 + n % 10) ∷ [])
    go true q f =
        let l : n < 10 = ltb-true n 10 q in
        (and_from (is_digit (48 + n)) true (digit_is n l) refl, omega arith, omega arith)
    go false q f =
        let l : 10 ≤ n = ltb-false n 10 q in
        let ds = numeral_from k (n / 10) in
        let r = f l in
        let small : n % 10 < 10 = omega arith in (
          all_are-append is_digit ds ((48 + n % 10) ∷ []) r.0 (and_from (is_digit (48 + n % 10)) true (digit_is (n % 10) small) refl),
          decimal_from-more 0 (48 + n % 10) ds ∙ ap (λ v. 10 * v + ((48 + n % 10) - 48)) r.1 ∙ (let e : 10 * (n / 10) + ((48 + n % 10) - 48) ≡ n = omega arith in e),
          length-more ds (48 + n % 10),
        )

pub numeral_is : (n : ℕ) → IsNumeral n (numeral n)
numeral_is n = numeral_from-is (suc n) n (omega arith)

pub decimal_value-numeral : (n : ℕ) → decimal_value (numeral n) ≡ n
decimal_value-numeral n = (numeral_is n).1

-- std's numerals, which have at most 64 digits
numeral_from-decimal : (k n : ℕ) → n < k → n < 10 ^ 64 → numeral_from k n ≡ decimal n
numeral_from-decimal zero n h w = absurd (omega arith)
numeral_from-decimal (suc k) n h w = go (ltb n 10) refl (λ m. numeral_from-decimal k (n / 10) (omega arith) (omega arith))
  where
    go : (v : Bool) → ltb n 10 ≡ v → (10 ≤ n → numeral_from k (n / 10) ≡ decimal (n / 10)) →
        (if v then (48 + n) ∷ [] else numeral_from k (n / 10) ++ (48 + n % 10) ∷ []) ≡ decimal n
    go true q f = sym (decimal_digit n (ltb-true n 10 q))
    go false q f = let l : 10 ≤ n = ltb-false n 10 q in ap (λ u. u ++ (48 + n % 10) ∷ []) (f l) ∙ sym (decimal_step_wide n l w)

pub numeral-decimal : (n : ℕ) → n < 10 ^ 64 → numeral n ≡ decimal n
numeral-decimal n h = numeral_from-decimal (suc n) n (omega arith) h
