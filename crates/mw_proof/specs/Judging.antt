-- Judging in a heap: what a proof may rest on, and what must hold of each.
use Rattle.std.specs.Prelude.{◌≡◌, ℕ, ◌<◌, ◌≤◌, Bool, true, false, ◌&&◌, List, length, All, Option, Some, None, Vec, ◌⊎◌}
use Rattle.mw_model.specs.Terms.Object.{Object, Natural, Symbol, Pair, same_name, nil_name, second_of}
use Rattle.mw_model.specs.Terms.Term.{ArityTable}
use Rattle.mw_model.specs.Values.Primitive.{Profile}
use Rattle.mw_model.specs.Laws.Rules.{is_formula_object}
use Rattle.mw_model.specs.Laws.RulesInduction.{length_object}
use Rattle.mw_heap.specs.Objects.{object_at}
use Rattle.mw_proof.specs.Step.{subproofs_of, conclusions_object, is_proof, are_proofs, is_step}
use Rattle.mw_heap.specs.Lists.{list_object}
use Rattle.mw_heap.specs.Variants.{profile_of}
use Rattle.mw_rules.specs.declared.basis.Basis as rules

-- what a proof may rest on
pub record Basis : Type 0 where
  pub axioms : Object
  pub theorems : Object
  pub table : ArityTable
  pub profile : Profile

-- the objects of known references, and an arity table
abbrev pub basis : List Object → ArityTable → List ℕ → List ℕ → Profile → Basis
basis os A axioms theorems P = record { axioms = list_object os axioms; theorems = list_object os theorems; table = A; profile = P }

-- those of a basis in a heap
abbrev pub basis_over : List Object → ArityTable → rules.Basis → Basis
basis_over os A b = basis os A b.axioms.now b.theorems.now (profile_of b.profile)

abbrev pub is_proof_on : Basis → Object → Bool
is_proof_on b p = is_proof b.axioms b.theorems b.table b.profile p

abbrev pub are_proofs_on : Basis → Object → Bool
are_proofs_on b ps = are_proofs b.axioms b.theorems b.table b.profile ps

-- a proper list of objects, each with a formula for its conclusion
abbrev pub have_conclusions : ArityTable → Object → Bool
have_conclusions A (Pair p ps) = is_formula_object A (second_of p) && have_conclusions A ps
have_conclusions A (Symbol s) = same_name s nil_name
have_conclusions A (Natural n) = false

-- what must hold of a proof, but that its subproofs are proofs
abbrev pub is_step_on : Basis → Object → Bool
is_step_on b p = is_step b.axioms b.theorems b.table b.profile p (have_conclusions b.table (subproofs_of p))

-- the conclusions of a list
pub record AreConclusions (A : ArityTable) (os : List Object) (list : ℕ) (rs : List ℕ) : Type 0 where
  pub formulas : have_conclusions A (object_at os list) ≡ true
  pub list_is : list_object os rs ≡ conclusions_object (object_at os list)
  pub before : All (λ r. r < list) rs

-- n is not over the most, and is over it
abbrev pub IsWithin : Option ℕ → ℕ → Type 0
IsWithin None n = Unit {0}
IsWithin (Some most) n = n ≤ most

abbrev pub IsOver : Option ℕ → ℕ → Type 0
IsOver None n = ⊥
IsOver (Some most) n = most < n

-- the conclusions of a list of `most` members at most, if there is such a bound
abbrev pub IsAnswer : {X : Type 0} → ArityTable → List Object → ℕ → Option ℕ → Option (Vec ℕ X) → Type 0
IsAnswer A os list most None = (have_conclusions A (object_at os list) ≡ false) ⊎ IsOver most (length_object (object_at os list))
IsAnswer A os list most (Some rs) = AreConclusions A os list rs.items × IsWithin most (length rs.items)
