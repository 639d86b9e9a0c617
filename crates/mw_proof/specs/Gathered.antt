-- The proofs below a proof, as references.
use Rattle.std.specs.Prelude.{◌≡◌, ℕ, ◌<◌, ◌==◌, nat_eq, true, List, ◌++◌, ◌⊎◌}
use Rattle.std.specs.List.{list_any, IsDistinct}
use Rattle.mw_model.specs.Terms.Object.{Object, Natural, Symbol, Pair, is_member}
use Rattle.mw_heap.specs.Objects.{object_at, IsIn}
use Rattle.mw_proof.specs.Step.{has_proof_shape, subproofs_of}

-- x is among the references
abbrev pub IsAmong : List ℕ → ℕ → Type 0
IsAmong keys x = list_any (λ y. x == y) keys ≡ true

-- x alone is among the references
abbrev pub HoldsAlone : List ℕ → ℕ → Type 0
HoldsAlone keys x = IsAmong keys x × ((q : ℕ) → IsAmong keys q → x ≡ q)

abbrev pub AreIn : List Object → List ℕ → Type 0
AreIn os keys = (x : ℕ) → IsAmong keys x → IsIn os x

-- each member of the list x is the object of one among the references that is below n
abbrev pub HasMembers : List Object → List ℕ → ℕ → Object → Type 0
HasMembers os keys n (Pair a r) = ((q : ℕ) × (object_at os q ≡ a) × IsAmong keys q × (q < n)) × HasMembers os keys n r
HasMembers os keys n (Natural m) = Unit {0}
HasMembers os keys n (Symbol s) = Unit {0}

-- the subproofs of p, if it has the shape of a proof, are among the references, before it
abbrev pub HasSubproofs : List Object → List ℕ → ℕ → Type 0
HasSubproofs os keys p = has_proof_shape (object_at os p) ≡ true → HasMembers os keys p (subproofs_of (object_at os p))

-- r is a subproof of p, which has the shape of a proof
abbrev pub IsSubproof : Object → Object → Type 0
IsSubproof p r = (has_proof_shape p ≡ true) × (is_member r (subproofs_of p) ≡ true)

-- what p is made of: itself, its subproofs, theirs and so on
pub data IsMadeOf (p : Object) : Object → Type 0 where
  itself : IsMadeOf p p
  subproof : (q r : Object) → IsMadeOf p q → IsSubproof q r → IsMadeOf p r

-- distinct references of what the proof is made of
pub record AreProofsOf (os : List Object) (proof : ℕ) (keys : List ℕ) : Type 0 where
  pub distinct : IsDistinct nat_eq keys
  pub each : (q : ℕ) → IsAmong keys q → IsMadeOf (object_at os proof) (object_at os q)

-- the members of a list came to the references
pub record AddsMembers (os : List Object) (list : ℕ) (old new : List ℕ) : Type 0 where
  pub more : List ℕ
  pub longer : new ≡ old ++ more
  pub within : AreIn os new
  pub held : HasMembers os new list (object_at os list)
  pub added : (q : ℕ) → IsAmong new q → IsAmong old q ⊎ ((q < list) × (is_member (object_at os q) (object_at os list) ≡ true))

-- and those of a proof
pub record AddsSubproofs (os : List Object) (p : ℕ) (old new : List ℕ) : Type 0 where
  pub more : List ℕ
  pub longer : new ≡ old ++ more
  pub within : AreIn os new
  pub held : HasSubproofs os new p
  pub added : (q : ℕ) → IsAmong new q → IsAmong old q ⊎ ((q < p) × IsSubproof (object_at os p) (object_at os q))

pub record AreGathered (os : List Object) (keys : List ℕ) (proof : ℕ) : Type 0 where
  pub here : IsAmong keys proof
  pub within : AreIn os keys
  pub held : (p : ℕ) → IsAmong keys p → HasSubproofs os keys p
  pub no_others : AreProofsOf os proof keys
