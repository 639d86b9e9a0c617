-- Claims that the instance of a part is a cell, and what they come to.
use Rattle.std.specs.Prelude.{◌≡◌, ℕ, ◌<◌, ◌≤◌, ◌==◌, Bool, true, false, List, ◌++◌, length, Some, ◌⊎◌}
use Rattle.std.specs.List.{AllByRecursion}
use Rattle.mw_model.specs.Terms.Object.{Object}
use Rattle.mw_heap.specs.Objects.{object_at, IsIn}
use Rattle.mw_subst.specs.declared.part.Part.{Part}
use Rattle.mw_subst.specs.declared.memo.Memo.{Memo}
use Rattle.mw_subst.specs.Memo.{cell_of, IsPartIn, substituted, found, Adds}

-- the part with the substitution s is the cell
abbrev pub IsInstance : List Object → Object → Part × ℕ → Type 0
IsInstance os s c = substituted s c.0 (object_at os (cell_of c.0)) ≡ object_at os c.1

abbrev pub IsClaimIn : List Object → Part × ℕ → Type 0
IsClaimIn os c = IsPartIn os c.0 × IsIn os c.1

-- a claim holds exactly where all of at most two claims of smaller parts hold, and these wait last
pub record Enters (os : List Object) (s : Object) (c : Part × ℕ) (waiting longer : List (Part × ℕ)) : Type 0 where
  pub more : List (Part × ℕ)
  pub longer_is : longer ≡ waiting ++ more
  pub few : length more ≤ 2
  pub within : AllByRecursion (IsClaimIn os) more
  pub smaller : AllByRecursion (λ d. cell_of d.0 < cell_of c.0) more
  pub enough : AllByRecursion (IsInstance os s) more → IsInstance os s c
  pub needed : IsInstance os s c → AllByRecursion (IsInstance os s) more

-- the claim does not hold, or comes to others
abbrev pub IsEntered : List Object → Object → Part × ℕ → List (Part × ℕ) → List (Part × ℕ) → Bool → Type 0
IsEntered os s c waiting longer true = Enters os s c waiting longer
IsEntered os s c waiting longer false = IsInstance os s c → ⊥

-- the part was noted with a cell, the same or another, or it is noted now and the claim is entered
abbrev pub IsTaken : List Object → Object → Part × ℕ → Memo → Memo → List (Part × ℕ) → List (Part × ℕ) → Bool → Type 0
IsTaken os s c noted more waiting longer b =
    ((z : ℕ) × (found noted.terms noted.lists c.0 ≡ Some z) × (b ≡ (z == c.1)) × (more ≡ noted) × (longer ≡ waiting))
    ⊎ (Adds noted.terms noted.lists more.terms more.lists c.0 c.1 × IsEntered os s c waiting longer b)
