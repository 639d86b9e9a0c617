-- The order of names, byte by byte, is irreflexive and transitive.
use Rattle.std.proofs.Common.{◌≡◌, ℕ, ◌<◌, true, List, [], ◌∷◌, refl, ◌∙◌, ◌⊎◌, inl, inr, arith}
use Rattle.mw_model.specs.Terms.Object.{is_before_bytes}
use Rattle.mw_model.proofs.Order.{lex_lt, lex_eq, lex_cases}

pub bytes_irreflexive : (x : List ℕ) → is_before_bytes x x ≡ true → ⊥
bytes_irreflexive [] h = cc
bytes_irreflexive (x ∷ xs) h = go (lex_cases x x (is_before_bytes xs xs) h) (bytes_irreflexive xs)
  where
    go : (x < x) ⊎ ((x ≡ x) × (is_before_bytes xs xs ≡ true)) → (is_before_bytes xs xs ≡ true → ⊥) → ⊥
    go (inl l) ih = omega arith
    go (inr q) ih = ih q.1

pub bytes_transitive : (x y z : List ℕ) → is_before_bytes x y ≡ true → is_before_bytes y z ≡ true → is_before_bytes x z ≡ true
bytes_transitive [] [] z h k = cc
bytes_transitive [] (y ∷ ys) [] h k = cc
bytes_transitive [] (y ∷ ys) (z ∷ zs) h k = refl
bytes_transitive (x ∷ xs) [] z h k = cc
bytes_transitive (x ∷ xs) (y ∷ ys) [] h k = cc
bytes_transitive (x ∷ xs) (y ∷ ys) (z ∷ zs) h k = go (lex_cases x y (is_before_bytes xs ys) h) (lex_cases y z (is_before_bytes ys zs) k) (bytes_transitive xs ys zs)
  where
    go : (x < y) ⊎ ((x ≡ y) × (is_before_bytes xs ys ≡ true)) → (y < z) ⊎ ((y ≡ z) × (is_before_bytes ys zs ≡ true)) → (is_before_bytes xs ys ≡ true → is_before_bytes ys zs ≡ true → is_before_bytes xs zs ≡ true) → is_before_bytes (x ∷ xs) (z ∷ zs) ≡ true
    go (inl l) (inl m) ih = lex_lt x z (is_before_bytes xs zs) (omega arith)
    go (inl l) (inr q) ih = let e : y ≡ z = q.0 in lex_lt x z (is_before_bytes xs zs) (omega arith)
    go (inr p) (inl m) ih = let e : x ≡ y = p.0 in lex_lt x z (is_before_bytes xs zs) (omega arith)
    go (inr p) (inr q) ih = lex_eq x z (is_before_bytes xs zs) (p.0 ∙ q.0) (ih p.1 q.1)
