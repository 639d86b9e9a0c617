-- The conclusion of a number, and those of a list of numbers.
use Rattle.std.proofs.Common.{◌≡◌, ℕ, zero, suc, ◌<◌, List, [], ◌∷◌, ◌++◌, length, All, Option, Some, None, slice_index_or, refl, sym, ap, ◌∙◌, subst, arith}
use Rattle.std.proofs.lemmas.List.Elements.{All-cons, All-tail}
use Rattle.mw_model.specs.Terms.Object.{Object, Natural, Symbol, Pair, same_name, nil_name}
use Rattle.mw_model.proofs.ReadBack.{some_one, cond_some, and_more-back}
use Rattle.mw_heap.specs.Objects.{object_at, IsIn}
use Rattle.mw_flat.specs.Collecting.{conclusion_numbered, conclusions_listed}

pub numbered-past : (rs : List ℕ) (n : ℕ) → length rs < n → conclusion_numbered rs n ≡ None
numbered-past rs zero h = refl
numbered-past [] (suc n) h = refl
numbered-past (r ∷ rs) (suc zero) h = absurd (omega (arith, h))
numbered-past (r ∷ rs) (suc (suc n)) h = numbered-past rs (suc n) (omega (arith, h))

pub numbered-at : (rs : List ℕ) (i d : ℕ) → i < length rs → conclusion_numbered rs (suc i) ≡ Some (slice_index_or rs i d)
numbered-at [] i d h = absurd (omega (arith, h))
numbered-at (r ∷ rs) zero d h = refl
numbered-at (r ∷ rs) (suc i) d h = numbered-at rs i d (omega (arith, h))

-- what was read at a place
pub numbered-read : (rs : List ℕ) (n i r : ℕ) → n ≡ suc i → i < length rs → r ≡ slice_index_or rs i r → Some r ≡ conclusion_numbered rs n
numbered-read rs n i r e l h = sym (ap (conclusion_numbered rs) e ∙ numbered-at rs i r l ∙ ap Some (sym h))

-- what holds of all conclusions holds of the one with a number
pub numbered-All : (P : ℕ → Type 0) (rs : List ℕ) (n r : ℕ) → All P rs → Some r ≡ conclusion_numbered rs n → P r
numbered-All P rs zero r h e = cc
numbered-All P [] (suc n) r h e = cc
numbered-All P (x ∷ rs) (suc zero) r h e = let same : x ≡ r = cc in subst P same (h 0 0 (omega arith))
numbered-All P (x ∷ rs) (suc (suc n)) r h e = numbered-All P rs (suc n) r (All-tail P x rs h) e

-- and of those of a list
pub listed-All : (P : ℕ → Type 0) (rs : List ℕ) → All P rs → (x : Object) (ps : List ℕ) → conclusions_listed rs x ≡ Some ps → All P ps
listed-All P rs h (Pair (Natural n) more) ps e =
    let q = and_more-back (conclusion_numbered rs n) (conclusions_listed rs more) ps e in
    subst (All P) (sym q.4) (All-cons P q.0 q.1 (numbered-All P rs n q.0 h (sym q.2)) (listed-All P rs h more q.1 q.3))
listed-All P rs h (Pair (Symbol s) more) ps e = cc
listed-All P rs h (Pair (Pair a b) more) ps e = cc
listed-All P rs h (Symbol s) ps e = let q : [] ≡ ps = some_one (cond_some (same_name s nil_name) (Some []) ps e).1 in subst (All P) q (λ k d l. absurd (omega (arith, l)))
listed-All P rs h (Natural n) ps e = cc

-- the conclusions before those of a list
abbrev after : List ℕ → Option (List ℕ) → Option (List ℕ)
after ds None = None
after ds (Some es) = Some (ds ++ es)

-- what was found before the rest of the list x
pub record ListedSoFar (os : List Object) (rs : List ℕ) (x : ℕ) (found : List ℕ) (rest : ℕ) : Type 0 where
  pub within : IsIn os rest
  pub goes_on : conclusions_listed rs (object_at os x) ≡ after found (conclusions_listed rs (object_at os rest))
