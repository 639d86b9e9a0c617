-- The labels of a datum, as the code keeps them: a map from a label to the reference of its datum.
use Rattle.std.specs.Prelude.{◌≡◌, ℕ, ◌<◌, List, eqb, nat_eq, Option, Some, None, IfSome, if◌then◌else◌}
use Rattle.std.specs.Map.{lookup}
use Rattle.mw_model.specs.Terms.Object.{Object}
use Rattle.mw_model.specs.Texts.Grammar.{Labels, Unused, Label}
use Rattle.mw_heap.specs.Objects.{object_at}

-- None where a label isn't begun, Some None where its datum isn't complete
abbrev pub status : ℕ → Labels → Option (Option Object)
status n Unused = None
status n (Label m x ls) = if eqb n m then Some x else status n ls

abbrev pub seen_at : List Object → Option ℕ → Option Object
seen_at os None = None
seen_at os (Some r) = Some (object_at os r)

abbrev pub seen : List Object → Option (Option ℕ) → Option (Option Object)
seen os None = None
seen os (Some o) = Some (seen_at os o)

-- the map says of each label what the labels say
abbrev pub Agree : List Object → List (ℕ × Option ℕ) → Labels → Type 0
Agree os m ls = (n : ℕ) → seen os (lookup (nat_eq n) m) ≡ status n ls

-- its references are below k
abbrev pub IsListed : ℕ → List (ℕ × Option ℕ) → Type 0
IsListed k m = (n : ℕ) → IfSome (lookup (nat_eq n) m) (λ o. IfSome o (λ r. r < k))
