-- The steps that were collected for the next event, and what they conclude.
use Rattle.std.specs.Prelude.{◌≡◌, ℕ, zero, suc, Bool, true, false, cond, List, [], ◌∷◌, map, All, Option, Some, None}
use Rattle.mw_model.specs.Terms.Object.{Object, Natural, Symbol, Pair, same_object}
use Rattle.mw_model.specs.Terms.Term.{ArityTable, Formula, formula_object}
use Rattle.mw_model.specs.Laws.Rules.{is_formula_object}
use Rattle.mw_model.specs.Terms.Reading.{and_more, if_nil}
use Rattle.mw_model.specs.Events.Refusal.{Refusal, PROOF}
use Rattle.mw_heap.specs.Objects.{object_at, IsIn}
use Rattle.mw_theory.specs.Proofs.{Judge}

-- the conclusions of good steps
abbrev pub AreConclusions : List Object → Bool → List ℕ → Option (List Formula) → Type 0
AreConclusions os good rs None = good ≡ false
AreConclusions os good rs (Some Fs) = (good ≡ true) × (map (object_at os) rs ≡ map formula_object Fs)

-- they are objects of the heap, and formulas under the table
abbrev pub AreFormulasIn : List Object → ArityTable → List ℕ → Type 0
AreFormulasIn os A rs = All (λ r. IsIn os r × (is_formula_object A (object_at os r) ≡ true)) rs

-- the conclusion with this number, counted from 1
abbrev pub conclusion_numbered : List ℕ → ℕ → Option ℕ
conclusion_numbered rs zero = None
conclusion_numbered [] (suc n) = None
conclusion_numbered (r ∷ rs) (suc zero) = Some r
conclusion_numbered (r ∷ rs) (suc (suc n)) = conclusion_numbered rs (suc n)

-- the conclusion is that object
abbrev pub is_concluded : List Object → Option ℕ → Object → Bool
is_concluded os None x = false
is_concluded os (Some r) x = same_object (object_at os r) x

-- A judge by numbers: a proof of a formula is the number of a step that concludes it.
abbrev pub by_number : List Object → List ℕ → Object → Object → Option Refusal
by_number os rs formula (Natural n) = cond (is_concluded os (conclusion_numbered rs n) formula) None (Some PROOF)
by_number os rs formula (Symbol s) = Some PROOF
by_number os rs formula (Pair a b) = Some PROOF

abbrev pub judged_by_number : List Object → List ℕ → Judge
judged_by_number os rs t formula proof = by_number os rs formula proof

-- those with the numbers of a list, where it is a proper list of numbers of conclusions
abbrev pub conclusions_listed : List ℕ → Object → Option (List ℕ)
conclusions_listed rs (Pair (Natural n) more) = and_more (conclusion_numbered rs n) (conclusions_listed rs more)
conclusions_listed rs (Pair _ more) = None
conclusions_listed rs (Symbol s) = if_nil s []
conclusions_listed rs (Natural n) = None
