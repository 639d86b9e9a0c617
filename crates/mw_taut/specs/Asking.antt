-- What is asked of a proof by cases, and what it finds.
use Rattle.std.specs.Prelude.{ℕ, Bool, List, ◌∷◌, Result, IfOk, OnOk}
use Rattle.mw_model.specs.Terms.Object.{Object}
use Rattle.mw_model.specs.Terms.Term.{Formula, ArityTable}
use Rattle.mw_heap.specs.declared.budget.memory.Memory.{Memory}
use Rattle.mw_heap.specs.Objects.{Grows}
use Rattle.indexmap.specs.IndexMap.{IndexMap}
use Rattle.mw_taut.specs.declared.table.Table.{Table}
use Rattle.mw_taut.specs.declared.case.Question.{Question}
use Rattle.mw_taut.specs.declared.case.Outcome.{Outcome}
use Rattle.mw_taut.specs.Cases.{Answer, answer_at, choice_of, IsQuestionIn, IsOutcomeIn, IsPosed, AreProved, Decides, DecidesWhere}
use Rattle.mw_taut.specs.Decided.{IsTableOf}

module _ (A : ArityTable) (os : List Object) (q : Question) where
  -- the formula F is left to decide, with these equations
  abbrev pub Poses : Formula → List Formula → List Formula → Type 0
  Poses F before rest = IsPosed A os q.equations.now q.chosen.now q.formula F before rest

  -- some formula is left to decide
  abbrev pub IsLeft : Type 0
  IsLeft = (F : Formula) × (before rest : List Formula) × Poses F before rest

  -- the same, with a next equation and the table of the formula
  abbrev pub IsLeftWith : Table → Type 0
  IsLeftWith t = (F : Formula) × (before : List Formula) × (E : Formula) × (rest : List Formula) × Poses F before (E ∷ rest) × IsTableOf os F t

  -- the answer decides the formula
  abbrev pub Settles : Answer → Type 0
  Settles a = (F : Formula) (before rest : List Formula) → Poses F before rest → Decides A (choice_of before q.chosen.now) rest F a

  -- the answer decides it where the next equation has the value
  abbrev pub SettlesWhere : Table → Bool → Answer → Type 0
  SettlesWhere t b a = (F : Formula) (before : List Formula) (E : Formula) (rest : List Formula) → Poses F before (E ∷ rest) → IsTableOf os F t → DecidesWhere A (choice_of before q.chosen.now) E b rest F a

-- the question is of the heap, the proofs are proofs, and this is left to decide
pub record IsAsked {S : Type 0} (A : ArityTable) (os : List Object) (known : IndexMap ℕ ℕ S) (q : Question) (Left : Type 0) : Type 0 where
  pub at_in : IsQuestionIn os q
  pub proved : AreProved A os known
  pub posed : Left

-- the heap grows, the outcome is of it, the proofs are proofs, and what is found is what is wanted
pub record Finds {S : Type 0} (A : ArityTable) (old new : List Object) (known : IndexMap ℕ ℕ S) (result : Result Outcome Memory) (IsWanted : Answer → Type 0) : Type 0 where
  pub grows : Grows old new
  pub within : IfOk result (IsOutcomeIn new)
  pub proved : OnOk result (AreProved A new known)
  pub decides : IfOk result (λ o. IsWanted (answer_at new o))
