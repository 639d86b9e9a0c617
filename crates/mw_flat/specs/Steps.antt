-- Steps of a log as the code finds them.
use Rattle.std.specs.Prelude.{◌≡◌, ℕ, ◌<◌, true, List, Option, Some, None}
use Rattle.mw_model.specs.Terms.Object.{Object, second_of, third_of, fourth_of, fifth_of, sixth_of, has_members}
use Rattle.mw_model.specs.Terms.Term.{Formula, formula_object}
use Rattle.mw_heap.specs.Objects.{object_at}
use Rattle.mw_flat.specs.declared.conclusion.Members.{Members}

-- the members of the step at x, which stand before it
pub record AreMembers (os : List Object) (x : ℕ) (s : Members) : Type 0 where
  pub six : has_members 6 (object_at os x) ≡ true
  pub number : second_of (object_at os x) ≡ object_at os s.number
  pub method : third_of (object_at os x) ≡ object_at os s.method
  pub conclusion : fourth_of (object_at os x) ≡ object_at os s.conclusion
  pub subproofs : fifth_of (object_at os x) ≡ object_at os s.subproofs
  pub extras : sixth_of (object_at os x) ≡ object_at os s.extras
  pub number_before : s.number < x
  pub method_before : s.method < x
  pub conclusion_before : s.conclusion < x
  pub subproofs_before : s.subproofs < x
  pub extras_before : s.extras < x

-- the object is that formula, or there is none
abbrev pub IsConclusion : List Object → Option ℕ → Option Formula → Type 0
IsConclusion os None None = Unit {0}
IsConclusion os (Some r) (Some F) = object_at os r ≡ formula_object F
IsConclusion os _ _ = ⊥
