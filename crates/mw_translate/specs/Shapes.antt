-- Pairs that begin with a symbol.
use Rattle.std.specs.Prelude.{◌≡◌, ℕ, ◌<◌, Bool, true, false, List, Option, Some, None}
use Rattle.mw_model.specs.Terms.Object.{Object, Pair}
use Rattle.mw_model.specs.Values.Primitive.{is_symbol}
use Rattle.mw_heap.specs.Objects.{object_at, IsIn}
use Rattle.mw_translate.specs.declared.shape.Two.{Two}

abbrev pub is_headed_by_symbol : Object → Bool
is_headed_by_symbol (Pair h r) = is_symbol h
is_headed_by_symbol _ = false

module _ (os : List Object) (x : ℕ) where
  abbrev pub IsNamed : Option Two → Type 0
  IsNamed None = is_headed_by_symbol (object_at os x) ≡ false
  IsNamed (Some p) = IsIn os p.first × IsIn os p.second × (p.first < x) × (p.second < x) × (is_symbol (object_at os p.first) ≡ true) × (object_at os x ≡ Pair (object_at os p.first) (object_at os p.second))
