-- Extras of an induction, as objects, and the premises that they ask for.
use Rattle.std.specs.Prelude.{◌≡◌, ℕ, Bool, false, ◌&&◌, cond, List, Option, Some, None, is_some}
use Rattle.mw_model.specs.Terms.Object.{Object, Symbol, Pair, same_name, nil_name, car, second_of, third_of, has_members}
use Rattle.mw_model.specs.Terms.Term.{ArityTable}
use Rattle.mw_model.specs.Terms.Reading.{term_of, formula_of}
use Rattle.mw_model.specs.Laws.RulesInduction.{are_substitution_objects, premises_object}
use Rattle.mw_heap.specs.Objects.{object_at, IsIn}

-- as many lists of substitutions as objects that have the form of formulas
abbrev pub are_cases_at : ArityTable → Object → Object → Bool
are_cases_at A (Pair q qs) (Pair s ss) = is_some (formula_of q) && (are_substitution_objects A s && are_cases_at A qs ss)
are_cases_at A (Symbol s) (Symbol r) = same_name s nil_name && same_name r nil_name
are_cases_at A _ _ = false

abbrev pub are_extras_at : ArityTable → Object → Bool
are_extras_at A x = has_members 3 x && (is_some (term_of (car x)) && are_cases_at A (second_of x) (third_of x))

abbrev pub premises_at : ArityTable → Object → Object → Option Object
premises_at A a x = cond (are_extras_at A x) (Some (premises_object a (car x) (second_of x) (third_of x))) None

-- the reference leads to the object, where there is one
abbrev pub IsFound : List Object → Option Object → Option ℕ → Type 0
IsFound os None None = Unit {0}
IsFound os (Some y) (Some r) = IsIn os r × (object_at os r ≡ y)
IsFound os _ _ = ⊥
