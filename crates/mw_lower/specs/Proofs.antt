-- Proofs as objects, and the axioms that they rest on.
use Rattle.mw_model.specs.Terms.Object.{Object, Member}
use Rattle.mw_model.specs.Terms.Term.{Formula, formula_object}
use Rattle.mw_model.specs.Proofs.Axioms.{axiom_1, axiom_2}
use Rattle.mw_model.specs.Proofs.Proof.{Proves}
use Rattle.mw_proof.specs.Judging.{Basis}

-- the object is a proof of the formula
abbrev pub IsProof : Basis → Object → Formula → Type 0
IsProof b p F = Proves b.axioms b.theorems b.table b.profile p F

-- the axioms have x = x, and that equals may be put for equals in an equation
abbrev pub HasEquality : Basis → Type 0
HasEquality b = Member (formula_object axiom_1) b.axioms × Member (formula_object axiom_2) b.axioms
