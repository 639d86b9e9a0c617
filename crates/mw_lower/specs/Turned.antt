-- What derivations turn to in a heap.
use Rattle.std.specs.Prelude.{◌≡◌, ℕ, nat_eq, true, List, Option, Some, None}
use Rattle.std.specs.Map.{lookup}
use Rattle.mw_model.specs.Terms.Object.{Object, Natural, Symbol, Pair}
use Rattle.mw_model.specs.Terms.Term.{Formula}
use Rattle.mw_model.specs.Proofs.Proof.{ProveEach}
use Rattle.mw_commands.specs.Commands.DerivationTest.{derive, derive_each}
use Rattle.mw_heap.specs.Objects.{object_at, IsIn}
use Rattle.mw_proof.specs.Step.{has_proof_shape, subproofs_of}
use Rattle.mw_heap.specs.Lists.{list_object}
use Rattle.mw_proof.specs.Judging.{Basis, is_proof_on, are_proofs_on}
use Rattle.mw_lower.specs.Proofs.{IsProof}

-- what is derived from a basis
abbrev pub derived_on : Basis → Object → Option Formula
derived_on b p = derive b.axioms b.theorems b.table b.profile p

abbrev pub each_derived_on : Basis → Object → Option (List Formula)
each_derived_on b ps = derive_each b.axioms b.theorems b.table b.profile ps

-- the derivation p has the proof q in its place
pub record Becomes (b : Basis) (p q : Object) : Type 0 where
  pub formula : Formula
  pub derived : derived_on b p ≡ Some formula
  pub proved : IsProof b q formula
  pub stays : is_proof_on b p ≡ true → q ≡ p

-- p becomes the object of a reference; or it is no derivation
abbrev pub IsTurned : Basis → List Object → Option ℕ → Object → Type 0
IsTurned b os None p = derived_on b p ≡ None
IsTurned b os (Some q) p = IsIn os q × Becomes b p (object_at os q)

-- of each member of a list it is known what it becomes
abbrev pub AreMembersTurned : Basis → List Object → List (ℕ × ℕ) → Object → Type 0
AreMembersTurned b os turned (Pair a r) = ((q : ℕ) → IsIn os q → object_at os q ≡ a → IsTurned b os (lookup (nat_eq q) turned) a) × AreMembersTurned b os turned r
AreMembersTurned b os turned (Natural n) = Unit {0}
AreMembersTurned b os turned (Symbol s) = Unit {0}

-- and so of each subproof, where p has the shape of a proof
abbrev pub AreSubproofsTurned : Basis → List Object → List (ℕ × ℕ) → Object → Type 0
AreSubproofsTurned b os turned p = has_proof_shape p ≡ true → AreMembersTurned b os turned (subproofs_of p)

-- proofs in the place of a list of derivations
pub record AreReplaced (b : Basis) (os : List Object) (ps : Object) (qs : List ℕ) : Type 0 where
  pub formulas : List Formula
  pub derived : each_derived_on b ps ≡ Some formulas
  pub proved : ProveEach b.axioms b.theorems b.table b.profile (list_object os qs) formulas
  pub stay : are_proofs_on b ps ≡ true → list_object os qs ≡ ps

-- the list has those in its place; or it is none of derivations
abbrev pub IsListTurned : Basis → List Object → Object → Option (List ℕ) → Type 0
IsListTurned b os ps None = each_derived_on b ps ≡ None
IsListTurned b os ps (Some qs) = AreReplaced b os ps qs
