-- What is given to a rule, in a heap that grows.
use Rattle.std.proofs.Common.{◌≡◌, ℕ, List, [], ◌∷◌, map, refl, ap₂}
use Rattle.std.specs.Prelude.{All}
use Rattle.std.proofs.lemmas.List.Elements.{All-cons, All-nil}
use Rattle.mw_model.specs.Terms.Object.{Object}
use Rattle.mw_model.specs.Values.Truth.{Each}
use Rattle.mw_heap.specs.Objects.{object_at, IsIn, Grows}
use Rattle.mw_heap.proofs.Objects.{IsIn-Grows, object_at-Grows}

pub all_given : (P : ℕ → Type 0) (rs : List ℕ) → Each P rs → All P rs
all_given P [] h = All-nil P
all_given P (r ∷ rs) h = All-cons P r rs h.0 (all_given P rs h.1)

module _ (old new : List Object) (grows : Grows old new) where
  pub given_grows : (rs : List ℕ) → Each (IsIn old) rs → Each (IsIn new) rs
  given_grows [] h = tt
  given_grows (r ∷ rs) h = (IsIn-Grows old new grows r h.0, given_grows rs h.1)

  pub given_same : (rs : List ℕ) → Each (IsIn old) rs → map (object_at new) rs ≡ map (object_at old) rs
  given_same [] h = refl
  given_same (r ∷ rs) h = ap₂ ◌∷◌ (object_at-Grows old new grows r h.0) (given_same rs h.1)
