-- The method that is CUT, and the extras of INSTANTIATION.
use Rattle.std.proofs.Common.{◌≡◌, refl, sym, ◌∙◌}
use Rattle.mw_model.specs.Terms.Object.{Object}
use Rattle.mw_model.specs.Terms.Term.{ArityTable}
use Rattle.mw_model.specs.Terms.Substitution.{is_substitution, substitution_of}
use Rattle.mw_model.specs.Laws.Rules.{is_substitution_object}
use Rattle.mw_model.specs.Proofs.Proof.{Cut, Instantiation}
use Rattle.mw_model.proofs.RulesExact.{is_substitution_object-is, that-present}
use Rattle.mw_commands.specs.Commands.ExplanationSteps.{are_extras}
use Rattle.mw_rules.specs.declared.method.Method as code
use Rattle.mw_rules.specs.declared.method.Method.TheVariants.{Axiom as CodeAxiom, Theorem as CodeTheorem, PropositionalSchema as CodePropositionalSchema, FunctionalEquality as CodeFunctionalEquality, BetaReduction as CodeBetaReduction, BaseEval as CodeBaseEval, Expansion as CodeExpansion, Contraction as CodeContraction, Associativity as CodeAssociativity, Cut as CodeCut, Instantiation as CodeInstantiation, Induction as CodeInduction}
use Rattle.mw_rules.specs.Methods.{method_of_logic}

-- the method of the code that is CUT
pub of_cut : (m : code.Method) → method_of_logic m ≡ Cut → m ≡ CodeCut
of_cut CodeAxiom h = cc
of_cut CodeTheorem h = cc
of_cut CodePropositionalSchema h = cc
of_cut CodeFunctionalEquality h = cc
of_cut CodeBetaReduction h = cc
of_cut CodeBaseEval h = cc
of_cut CodeExpansion h = cc
of_cut CodeContraction h = cc
of_cut CodeAssociativity h = cc
of_cut CodeCut h = refl
of_cut CodeInstantiation h = cc
of_cut CodeInduction h = cc

pub extras_of_instance : (A : ArityTable) (x : Object) → is_substitution_object A x ≡ are_extras A Instantiation x
extras_of_instance A x = is_substitution_object-is A x ∙ sym (that-present (is_substitution A) (substitution_of x))
