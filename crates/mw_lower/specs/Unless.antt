-- A disjunction of the negations of premises and of a conclusion.
use Rattle.std.specs.Prelude.{◌≡◌, List, [], ◌∷◌}
use Rattle.mw_model.specs.Terms.Object.{Object}
use Rattle.mw_model.specs.Terms.Term.{Formula, Not, Or, formula_object}
use Rattle.mw_model.specs.Proofs.Proof.{ProveEach}
use Rattle.mw_proof.specs.Judging.{Basis}
use Rattle.mw_lower.specs.Proofs.{IsProof}

-- not G1 or .. or not Gn or F
abbrev pub unless_all : List Formula → Formula → Formula
unless_all [] F = F
unless_all (G ∷ Gs) F = Or (Not G) (unless_all Gs F)

-- that of the conclusion c and of what the proofs ps prove
abbrev pub MakesUnless : (c ps whole : Object) → Type 0
MakesUnless c ps whole = (b : Basis) (F : Formula) (Fs : List Formula) → c ≡ formula_object F → ProveEach b.axioms b.theorems b.table b.profile ps Fs → whole ≡ formula_object (unless_all Fs F)

-- from a proof of: not G or H, and one of G, the object of H and a proof of it
abbrev pub DetachesOne : (whole step p rest q : Object) → Type 0
DetachesOne whole step p rest q = (b : Basis) (G H : Formula) → whole ≡ formula_object (Or (Not G) H) → IsProof b step (Or (Not G) H) → IsProof b p G → (rest ≡ formula_object H) × IsProof b q H

-- from a proof of the whole and proofs of all Gs, one of F
abbrev pub DetachesAll : (whole step ps q : Object) → Type 0
DetachesAll whole step ps q = (b : Basis) (F : Formula) (Fs : List Formula) → whole ≡ formula_object (unless_all Fs F) → IsProof b step (unless_all Fs F) → ProveEach b.axioms b.theorems b.table b.profile ps Fs → IsProof b q F
