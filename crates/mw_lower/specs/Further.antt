-- The further rules of the code are those of the logic.
use Rattle.std.specs.Prelude.{ℕ, cond, List, [], ◌∷◌, Option, Some, None}
use Rattle.mw_model.specs.Terms.Object.{Object, Symbol, same_object}
use Rattle.mw_commands.specs.Commands.Derivation as logic
use Rattle.mw_lower.specs.declared.further.Further.{Further}
use Rattle.mw_lower.specs.declared.further.Further.TheVariants.{CommuteOr, ModusPonens, Symmetry, Transitivity, Replace}
use Rattle.mw_rules.specs.Counted.{most_subproofs}

-- the rule of the table
abbrev pub rule_of : Further → logic.Rule
rule_of CommuteOr = logic.CommuteOr
rule_of ModusPonens = logic.ModusPonens
rule_of Symmetry = logic.Symmetry
rule_of Transitivity = logic.Transitivity
rule_of Replace = logic.Replace

abbrev pub further_rules : List Further
further_rules = CommuteOr ∷ ModusPonens ∷ Symmetry ∷ Transitivity ∷ Replace ∷ []

-- the one among them that a symbol names
abbrev pub further_among : List Further → Object → Option Further
further_among [] x = None
further_among (f ∷ fs) x = cond (same_object x (Symbol (logic.rule_name (rule_of f)))) (Some f) (further_among fs x)

-- how many premises a rule takes: at most this number, or any number
abbrev pub most_premises_of : logic.Rule → Option ℕ
most_premises_of (logic.By m) = most_subproofs m
most_premises_of logic.CommuteOr = Some 1
most_premises_of logic.ModusPonens = Some 2
most_premises_of logic.Symmetry = Some 1
most_premises_of logic.Transitivity = Some 2
most_premises_of logic.Replace = None

-- none where there is no rule
abbrev pub most_premises : Option logic.Rule → Option ℕ
most_premises None = Some 0
most_premises (Some r) = most_premises_of r
