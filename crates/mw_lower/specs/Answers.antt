-- What is answered for a step by one of the further rules.
use Rattle.std.specs.Prelude.{◌≡◌, ℕ, true, false, List, [], ◌∷◌, Option, Some, None}
use Rattle.mw_model.specs.Terms.Object.{Object, NIL, list3}
use Rattle.mw_model.specs.Terms.Term.{Formula, formula_object, IsFormula}
use Rattle.mw_model.specs.Proofs.Proof.{ProveEach}
use Rattle.mw_commands.specs.Commands.Derivation.{Rule}
use Rattle.mw_commands.specs.Commands.DerivationTest.{derives}
use Rattle.mw_heap.specs.Objects.{object_at, IsIn}
use Rattle.mw_proof.specs.Judging.{Basis}
use Rattle.mw_lower.specs.Proofs.{IsProof, HasEquality}

-- a proof of F, which follows by the rule from Fs with the extras x; or nothing, and it does not follow
abbrev pub AnswersWith : Basis → Rule → Formula → List Formula → Object → List Object → Option ℕ → Type 0
AnswersWith b r F Fs x os None = derives b.axioms b.theorems b.table b.profile r F Fs x ≡ false
AnswersWith b r F Fs x os (Some q) = (derives b.axioms b.theorems b.table b.profile r F Fs x ≡ true) × IsIn os q × IsProof b (object_at os q) F

-- with no extras
abbrev pub Answers : Basis → Rule → Formula → List Formula → List Object → Option ℕ → Type 0
Answers b r F Fs os o = AnswersWith b r F Fs NIL os o

-- for the conclusion c, from the proof p of one premise
abbrev pub AnswersOne : Rule → (c p : Object) → List Object → Option ℕ → Type 0
AnswersOne r c p os o = (b : Basis) (F G : Formula) → HasEquality b → IsFormula b.table F → c ≡ formula_object F → IsProof b p G → Answers b r F (G ∷ []) os o

-- of two
abbrev pub AnswersTwo : Rule → (c p q : Object) → List Object → Option ℕ → Type 0
AnswersTwo r c p q os o = (b : Basis) (F G H : Formula) → HasEquality b → IsFormula b.table F → c ≡ formula_object F → IsProof b p G → IsProof b q H → Answers b r F (G ∷ H ∷ []) os o

-- of a list of proofs
abbrev pub AnswersAll : Rule → (c ps : Object) → List Object → Option ℕ → Type 0
AnswersAll r c ps os o = (b : Basis) (F : Formula) (Fs : List Formula) → HasEquality b → IsFormula b.table F → c ≡ formula_object F → ProveEach b.axioms b.theorems b.table b.profile ps Fs → Answers b r F Fs os o

-- the same with the extras x
abbrev pub AnswersStep : Rule → (c x ps : Object) → List Object → Option ℕ → Type 0
AnswersStep r c x ps os o = (b : Basis) (F : Formula) (Fs : List Formula) → HasEquality b → IsFormula b.table F → c ≡ formula_object F → ProveEach b.axioms b.theorems b.table b.profile ps Fs → AnswersWith b r F Fs x os o

-- the object k is the list of the head and of the objects of x and y
abbrev pub HasParts : List Object → (head k : Object) → ℕ → ℕ → Type 0
HasParts os head k x y = IsIn os x × IsIn os y × (k ≡ list3 head (object_at os x) (object_at os y))
