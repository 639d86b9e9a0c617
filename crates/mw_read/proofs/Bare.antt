-- Lists by their lengths.
use Rattle.std.proofs.Common.{◌≡◌, ℕ, zero, suc, ◌<◌, ◌+◌, Bool, true, false, List, [], ◌∷◌, ◌++◌, length, take, drop, get_or, refl, sym, ap, ◌∙◌, arith, ◌==◌, eqb-true, eqb, ◌≤◌, append_assoc, length-append, true≢false, ◌⊎◌, inl, inr}
use Rattle.std.proofs.lemmas.Bool.{and_parts, and_from}
use Rattle.std.specs.List.{list_all}
use Rattle.mw_lex.specs.Runs.{StartsWith}
use Rattle.std.proofs.lemmas.List.{length-take-le, take-append-drop}
use Rattle.mw_model.specs.Terms.Object.{is_name_byte}
use Rattle.mw_lex.proofs.Runs.{take_more}

pub empty_is : {A : Type 0} (xs : List A) (n : ℕ) → n ≡ length xs → true ≡ (n == 0) → xs ≡ []
empty_is [] n h e = refl
empty_is (x ∷ xs) n h e = let k = eqb-true n 0 (sym e) in absurd (omega (arith, k, h))

-- what was kept with these bytes after it, or these bytes alone, is both
pub kept_is : (old new seen bytes r : List ℕ) → (0 < length old → new ≡ old ++ bytes) → (length old ≡ 0 → new ≡ old) → seen ≡ new → (0 < length seen → r ≡ seen) → (length seen ≡ 0 → r ≡ bytes) → r ≡ old ++ bytes
kept_is [] new seen bytes r f g e h k = k (ap length (e ∙ g refl))
kept_is (b ∷ old) new seen bytes r f g e h k =
    let i = f (omega arith) in
    h (omega (arith, ap length (e ∙ i))) ∙ (e ∙ i)

-- a list at one of its indices
pub split_at : (xs : List ℕ) (n : ℕ) → n < length xs → xs ≡ take n xs ++ get_or xs n 0 ∷ drop (suc n) xs
split_at [] n h = absurd (omega arith)
split_at (x ∷ xs) zero h = refl
split_at (x ∷ xs) (suc n) h = ap (λ u. x ∷ u) (split_at xs n (omega arith))

pub all_append : (p : ℕ → Bool) (xs ys : List ℕ) → list_all p xs ≡ true → list_all p ys ≡ true → list_all p (xs ++ ys) ≡ true
all_append p [] ys h k = k
all_append p (x ∷ xs) ys h k = let m = and_parts (p x) (list_all p xs) h in and_from (p x) (list_all p (xs ++ ys)) m.0 (all_append p xs ys m.1 k)

-- a text that has begun, or begins here, has a byte
pub some_length : (p : ℕ → Bool) (xs rest : List ℕ) (n : ℕ) → (0 < length xs) ⊎ StartsWith p rest → (n < length rest → p (get_or rest n 0) ≡ false) → n < length rest → 0 < length (xs ++ take n rest)
some_length p (x ∷ xs) rest n h e l = omega arith
some_length p [] rest n (inl h) e l = absurd (omega arith)
some_length p [] [] n (inr h) e l = absurd h
some_length p [] (b ∷ rest) zero (inr h) e l = absurd (true≢false (sym h ∙ e l))
some_length p [] (b ∷ rest) (suc n) (inr h) e l = omega arith

-- a text that goes on up to a byte
pub go_on : (i rest : List ℕ) (n : ℕ) (z : List ℕ) → n < length rest → i ++ (rest ++ z) ≡ (i ++ take n rest) ++ get_or rest n 0 ∷ (drop (suc n) rest ++ z)
go_on i rest n z h =
    ap (λ u. i ++ (u ++ z)) (split_at rest n h)
    ∙ ap (λ u. i ++ u) (append_assoc (take n rest) (get_or rest n 0 ∷ drop (suc n) rest) z)
    ∙ sym (append_assoc i (take n rest) (get_or rest n 0 ∷ (drop (suc n) rest ++ z)))

pub go_on_past : (i rest : List ℕ) (n : ℕ) (z : List ℕ) → n < length rest → i ++ (take (n + 1) rest ++ z) ≡ (i ++ take n rest) ++ get_or rest n 0 ∷ z
go_on_past i rest n z h =
    ap (λ u. i ++ (u ++ z)) (take_more rest n h)
    ∙ ap (λ u. i ++ u) (append_assoc (take n rest) (get_or rest n 0 ∷ []) z)
    ∙ sym (append_assoc i (take n rest) (get_or rest n 0 ∷ z))

pub both_length : (i rest : List ℕ) (n : ℕ) → n ≤ length rest → length (i ++ take n rest) ≡ length i + n
both_length i rest n h = length-append i (take n rest) ∙ ap (λ m. length i + m) (length-take-le n rest h)

pub empty_list : (xs : List ℕ) → length xs ≡ 0 → xs ≡ []
empty_list [] h = refl
empty_list (x ∷ xs) h = absurd (omega arith)

pub not_eqb : (a b : ℕ) → (a ≡ b → ⊥) → eqb a b ≡ false
not_eqb a b h = go (eqb a b) refl
  where
    go : (v : Bool) → eqb a b ≡ v → eqb a b ≡ false
    go true e = absurd (h (eqb-true a b e))
    go false e = e

pub are_names : (bytes : List ℕ) → list_all is_name_byte bytes ≡ true → list_all is_name_byte bytes ≡ true
are_names [] h = refl
are_names (b ∷ bytes) h = let m = and_parts (is_name_byte b) (list_all is_name_byte bytes) h in and_from (is_name_byte b) (list_all is_name_byte bytes) m.0 (are_names bytes m.1)

pub take_run : (xs : List ℕ) (n : ℕ) → n ≤ length xs → length (take n xs) ≡ n
take_run xs n h = length-take-le n xs h

pub not_empty : {A : Type 0} (xs : List A) (n : ℕ) → n ≡ length xs → false ≡ (n == 0) → 0 < length xs
not_empty [] n h e = absurd (true≢false (sym (ap (λ k. k == 0) h) ∙ sym e))
not_empty (x ∷ xs) n h e = omega arith

pub take_cut : (i rest : List ℕ) (n : ℕ) (z : List ℕ) → i ++ (rest ++ z) ≡ (i ++ take n rest) ++ (drop n rest ++ z)
take_cut i rest n z =
    ap (λ u. i ++ (u ++ z)) (sym (take-append-drop n rest)) ∙ ap (λ u. i ++ u) (append_assoc (take n rest) (drop n rest) z) ∙ sym (append_assoc i (take n rest) (drop n rest ++ z))
