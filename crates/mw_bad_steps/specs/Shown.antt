-- What is shown: objects of a heap, in order.
use Rattle.std.specs.Prelude.{◌≡◌, ℕ, List, map, All}
use Rattle.mw_model.specs.Terms.Object.{Object}
use Rattle.mw_heap.specs.Objects.{object_at, IsIn}

-- these references lead to just these objects
abbrev pub Shows : List Object → List ℕ → List Object → Type 0
Shows os refs xs = All (IsIn os) refs × (map (object_at os) refs ≡ xs)
