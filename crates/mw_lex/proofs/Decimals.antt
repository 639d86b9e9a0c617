-- The number of some digits, one digit after the other.
use Rattle.std.proofs.Common.{◌≡◌, ℕ, zero, suc, ◌+◌, ◌-◌, ◌*◌, ◌<◌, ◌≤◌, Bool, true, List, [], ◌∷◌, ◌++◌, length, take, get_or, refl, ap, ◌∙◌, arith, le_refl, add-one, leb, leb-true}
use Rattle.std.proofs.lemmas.Bool.{and_parts}
use Rattle.mw_model.specs.Texts.Lexemes.{is_digit, decimal_from, decimal_value}
use Rattle.std.specs.List.{list_all}
use Rattle.mw_lex.proofs.Runs.{take_more}

pub all_at : (p : ℕ → Bool) (ds : List ℕ) (i : ℕ) → i < length ds → list_all p ds ≡ true → p (get_or ds i 0) ≡ true
all_at p [] i h a = absurd (omega arith)
all_at p (d ∷ ds) zero h a = (and_parts (p d) (list_all p ds) a).0
all_at p (d ∷ ds) (suc i) h a = all_at p ds i (omega arith) (and_parts (p d) (list_all p ds) a).1

decimal_snoc : (n : ℕ) (ds : List ℕ) (d : ℕ) → decimal_from n (ds ++ d ∷ []) ≡ 10 * decimal_from n ds + (d - 48)
decimal_snoc n [] d = refl
decimal_snoc n (c ∷ ds) d = decimal_snoc (10 * n + (c - 48)) ds d

pub decimal_next : (ds : List ℕ) (i : ℕ) → i < length ds → decimal_value (take (i + 1) ds) ≡ 10 * decimal_value (take i ds) + (get_or ds i 0 - 48)
decimal_next ds i h = ap decimal_value (take_more ds i h) ∙ decimal_snoc 0 (take i ds) (get_or ds i 0)

decimal_grows : (n : ℕ) (ds : List ℕ) → n ≤ decimal_from n ds
decimal_grows n [] = le_refl n
decimal_grows n (d ∷ ds) = let h = decimal_grows (10 * n + (d - 48)) ds in omega (arith, h)

pub decimal_take : (n : ℕ) (ds : List ℕ) (i : ℕ) → decimal_from n (take i ds) ≤ decimal_from n ds
decimal_take n [] zero = le_refl n
decimal_take n [] (suc i) = le_refl n
decimal_take n (d ∷ ds) zero = decimal_grows n (d ∷ ds)
decimal_take n (d ∷ ds) (suc i) = decimal_take (10 * n + (d - 48)) ds i

-- powers of ten
abbrev pub power : ℕ → ℕ
power zero = 1
power (suc k) = 10 * power k

power_positive : (k : ℕ) → 1 ≤ power k
power_positive zero = le_refl 1
power_positive (suc k) = let h = power_positive k in omega (arith, h)

power_le : (i j : ℕ) → i ≤ j → power i ≤ power j
power_le zero j h = power_positive j
power_le (suc i) zero h = absurd (omega arith)
power_le (suc i) (suc j) h = let k = power_le i j (omega arith) in omega (arith, k)

pub power_small : (i : ℕ) → i ≤ 8 → power i ≤ 100000000
power_small i h = power_le i 8 h

digit_below : (d : ℕ) → is_digit d ≡ true → d ≤ 57
digit_below d h = leb-true d 57 (and_parts (leb 48 d) (leb d 57) h).1

pub power_next : (ds : List ℕ) (i n : ℕ) → i < length ds → list_all is_digit ds ≡ true → n < power i → 10 * n + (get_or ds i 0 - 48) < power (i + 1)
power_next ds i n h a b = let d = digit_below (get_or ds i 0) (all_at is_digit ds i h a) in rw add-one (omega (arith, d, b))

pub power_more : (i : ℕ) → power (i + 1) ≡ 10 * power i
power_more i = ap power (add-one i)
