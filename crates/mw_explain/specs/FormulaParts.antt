-- Where to look on for the first part that keeps an object from being a formula.
use Rattle.std.specs.Prelude.{◌≡◌, ℕ, ◌<◌, Bool, true, false, List, Option, Some, None}
use Rattle.mw_model.specs.Terms.Object.{Object}
use Rattle.mw_model.specs.Terms.Term.{ArityTable}
use Rattle.mw_model.specs.Laws.Rules.{is_formula_object}
use Rattle.mw_heap.specs.Objects.{object_at}
use Rattle.mw_commands.specs.Commands.ExplanationTerms.{bad_term, bad_formula}
use Rattle.mw_explain.specs.declared.formula_part.Next.{Next}
use Rattle.mw_explain.specs.declared.formula_part.Next.TheVariants.{Nothing, InTerm, InFormula}
use Rattle.mw_explain.specs.TermParts.{IsBefore}

-- where to look on in x, which is not a formula
abbrev pub LeadsOn : ArityTable → List Object → ℕ → Next → Type 0
LeadsOn A os x Nothing = bad_formula A (object_at os x) ≡ Some (object_at os x)
LeadsOn A os x (InTerm p) = (bad_formula A (object_at os x) ≡ bad_term A (object_at os p)) × IsBefore A os x p
LeadsOn A os x (InFormula p) = (bad_formula A (object_at os x) ≡ bad_formula A (object_at os p)) × (p < x) × (is_formula_object A (object_at os p) ≡ false)

-- the first of two parts that is not good
abbrev pub first_bad : Bool → Bool → ℕ → ℕ → Option ℕ
first_bad false _ a b = Some a
first_bad true false a b = Some b
first_bad true true a b = None

-- a part that may not be a formula
abbrev pub IsNegated : ArityTable → List Object → ℕ → Next → Type 0
IsNegated A os a Nothing = is_formula_object A (object_at os a) ≡ true
IsNegated A os a (InTerm p) = ⊥
IsNegated A os a (InFormula p) = (p ≡ a) × (is_formula_object A (object_at os a) ≡ false)
