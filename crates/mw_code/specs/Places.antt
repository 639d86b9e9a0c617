-- The places of variables that are known, by the list of formals and the symbol.
use Rattle.std.specs.Prelude.{◌≡◌, ℕ, Bool, true, ◌&&◌, nat_eq, List, Some}
use Rattle.std.specs.Map.{lookup}
use Rattle.mw_model.specs.Terms.Object.{Name, Object}
use Rattle.mw_model.specs.Terms.Term.{are_distinct}
use Rattle.mw_model.specs.Values.Primitive.{name_of}
use Rattle.mw_model.specs.Terms.Reading.{names_of}
use Rattle.mw_heap.specs.Objects.{object_at}
use Rattle.mw_code.specs.Jobs.{place_in}

abbrev pub same_variable : ℕ × ℕ → ℕ × ℕ → Bool
same_variable v w = nat_eq v.0 w.0 && nat_eq v.1 w.1

-- the place of the symbol x among the formals
abbrev pub IsPlace : List Object → ℕ → ℕ → ℕ → Type 0
IsPlace os formals x k = (xs : List Name) → names_of (object_at os formals) ≡ Some xs → are_distinct xs ≡ true → k ≡ place_in xs (name_of (object_at os x))

-- each place that is known is right
abbrev pub ArePlaces : List Object → List ((ℕ × ℕ) × ℕ) → Type 0
ArePlaces os es = (v : ℕ × ℕ) (k : ℕ) → lookup (same_variable v) es ≡ Some k → IsPlace os v.0 v.1 k
