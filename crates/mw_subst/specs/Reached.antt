-- The cells that a substitution in a term reaches.
use Rattle.std.specs.Prelude.{◌≡◌, ℕ, ◌≤◌, nat_eq, true, false, List, ◌⊎◌}
use Rattle.std.specs.List.{IsDistinct, list_any}
use Rattle.mw_model.specs.Terms.Object.{Object, Pair, symbol, same_object}
use Rattle.mw_heap.specs.Objects.{object_at, IsIn}
use Rattle.mw_subst.specs.declared.part.Part.{Part}
use Rattle.mw_subst.specs.declared.part.Part.TheVariants.{Term, Terms}

-- The first part is made from what is made of the second. A term (h . r) needs the list r, unless h is QUOTE; a list (a . r) needs the
-- term a and the list r.
abbrev pub Needs : List Object → Part → Part → Type 0
Needs os (Term x) (Term y) = ⊥
Needs os (Term x) (Terms y) = IsIn os y × (head : Object) × (object_at os x ≡ Pair head (object_at os y)) × (same_object head (symbol "QUOTE") ≡ false)
Needs os (Terms x) (Term y) = IsIn os y × (rest : Object) × (object_at os x ≡ Pair (object_at os y) rest)
Needs os (Terms x) (Terms y) = IsIn os y × (first : Object) × (object_at os x ≡ Pair first (object_at os y))

-- the term x is reached, and so is what a part needs that is reached
pub data IsReached (os : List Object) (x : ℕ) : Part → Type 0 where
  itself : IsReached os x (Term x)
  needed : (p q : Part) → IsReached os x p → Needs os p q → IsReached os x q

-- a cell is reached as a term, as a list of terms, or as both
abbrev pub IsCellReached : List Object → ℕ → ℕ → Type 0
IsCellReached os x r = IsReached os x (Term r) ⊎ IsReached os x (Terms r)

-- the reference is one of the list
abbrev pub IsAmong : List ℕ → ℕ → Type 0
IsAmong refs r = list_any (nat_eq r) refs ≡ true

-- distinct references of cells that are reached from x, none after x
pub record AreReached (os : List Object) (x : ℕ) (refs : List ℕ) : Type 0 where
  pub distinct : IsDistinct nat_eq refs
  pub each : (r : ℕ) → IsAmong refs r → (r ≤ x) × IsCellReached os x r

-- no cell is reached from x but these
abbrev pub HasAllReached : List Object → ℕ → List ℕ → Type 0
HasAllReached os x refs = (r : ℕ) → IsCellReached os x r → IsAmong refs r
