-- The first elements of a list that goes on.
use Rattle.std.proofs.Common.{◌≡◌, ℕ, zero, suc, ◌≤◌, List, [], ◌∷◌, ◌++◌, length, take, drop, refl, sym, ap, ◌∙◌, arith}
use Rattle.std.proofs.lemmas.List.{take-append-drop}
use Rattle.mw_code.specs.Jobs.{Extends}

pub take-extends : {X : Type 0} (n : ℕ) (old new : List X) → n ≤ length old → Extends old new → take n new ≡ take n old
take-extends n old new l g = ap (take n) g.1 ∙ go n old g.0 l
  where
    go : {X : Type 0} (n : ℕ) (xs ys : List X) → n ≤ length xs → take n (xs ++ ys) ≡ take n xs
    go zero xs ys l = refl
    go (suc n) [] ys l = absurd (omega (arith, l))
    go (suc n) (x ∷ xs) ys l = ap (λ z. x ∷ z) (go n xs ys (omega (arith, l)))

pub take-all : {X : Type 0} (xs : List X) (n : ℕ) → n ≡ length xs → take n xs ≡ xs
take-all [] zero e = refl
take-all [] (suc n) e = refl
take-all (x ∷ xs) zero e = absurd (omega (arith, e))
take-all (x ∷ xs) (suc n) e = ap (λ l. x ∷ l) (take-all xs n (omega (arith, e)))

pub taken : {X : Type 0} (n : ℕ) (xs : List X) → (more : List X) × (xs ≡ take n xs ++ more)
taken n xs = (drop n xs, sym (take-append-drop n xs))
