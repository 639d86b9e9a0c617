-- The methods of the code are those of the logic.
use Rattle.mw_model.specs.Proofs.Proof as logic
use Rattle.mw_rules.specs.declared.method.Method.{Method}
use Rattle.mw_rules.specs.declared.method.Method.TheVariants.{Axiom, Theorem, PropositionalSchema, FunctionalEquality, BetaReduction, BaseEval, Expansion, Contraction, Associativity, Cut, Instantiation, Induction}

abbrev pub method_of_logic : Method → logic.Method
method_of_logic Axiom = logic.Axiom
method_of_logic Theorem = logic.Theorem
method_of_logic PropositionalSchema = logic.PropositionalSchema
method_of_logic FunctionalEquality = logic.FunctionalEquality
method_of_logic BetaReduction = logic.BetaReduction
method_of_logic BaseEval = logic.BaseEval
method_of_logic Expansion = logic.Expansion
method_of_logic Contraction = logic.Contraction
method_of_logic Associativity = logic.Associativity
method_of_logic Cut = logic.Cut
method_of_logic Instantiation = logic.Instantiation
method_of_logic Induction = logic.Induction
