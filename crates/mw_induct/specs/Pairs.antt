-- Lists of substitutions, as lists of lists of pairs, and formulas, by what substitution does to them.
use Rattle.std.specs.Prelude.{◌≡◌, ℕ, Bool, true, ◌&&◌, List}
use Rattle.mw_model.specs.Terms.Object.{Object, Natural, Symbol, Pair}
use Rattle.mw_model.specs.Laws.Rules.{substitute_object, substitute_formula_object}
use Rattle.mw_heap.specs.Objects.{object_at, IsIn}
use Rattle.mw_subst.specs.Pairs.{is_list_of_pairs}

-- each member is a proper list of pairs
abbrev pub are_lists_of_pairs : Object → Bool
are_lists_of_pairs (Pair s r) = is_list_of_pairs s && are_lists_of_pairs r
are_lists_of_pairs (Natural n) = true
are_lists_of_pairs (Symbol n) = true

-- each member has such members
abbrev pub are_cases_of_pairs : Object → Bool
are_cases_of_pairs (Pair ss r) = are_lists_of_pairs ss && are_cases_of_pairs r
are_cases_of_pairs (Natural n) = true
are_cases_of_pairs (Symbol n) = true

-- substitution in the object is substitution in a formula
abbrev pub IsLikeFormula : Object → Type 0
IsLikeFormula x = (s : Object) → substitute_object s x ≡ substitute_formula_object s x

-- the same of what a heap has at a reference
abbrev pub IsSubstitutionIn : List Object → ℕ → Type 0
IsSubstitutionIn os s = IsIn os s × (is_list_of_pairs (object_at os s) ≡ true)

abbrev pub AreSubstitutionsIn : List Object → ℕ → Type 0
AreSubstitutionsIn os ss = IsIn os ss × (are_lists_of_pairs (object_at os ss) ≡ true)

abbrev pub IsFormulaIn : List Object → ℕ → Type 0
IsFormulaIn os a = IsIn os a × IsLikeFormula (object_at os a)
