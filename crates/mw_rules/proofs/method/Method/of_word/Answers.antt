-- Each word names its method, and another word none.
use Rattle.std.proofs.Common.{sym, ap}
use Rattle.mw_model.specs.Proofs.Judgment.{methods, method_among}
use Rattle.mw_heap.specs.Words.{word_object}
use Rattle.mw_rules.proofs.MethodNames.{other_word}
use Rattle.mw_rules.proofs.method.Method.of_word.Goals as goal

pub returns-in-Axiom : goal.returns-in-Axiom
returns-in-Axiom c = ap (λ w. method_among methods (word_object w)) (sym c.in-Axiom.is)

pub returns-in-Theorem : goal.returns-in-Theorem
returns-in-Theorem c = ap (λ w. method_among methods (word_object w)) (sym c.in-Theorem.is)

pub returns-in-PropositionalSchema : goal.returns-in-PropositionalSchema
returns-in-PropositionalSchema c = ap (λ w. method_among methods (word_object w)) (sym c.in-PropositionalSchema.is)

pub returns-in-FunctionalEquality : goal.returns-in-FunctionalEquality
returns-in-FunctionalEquality c = ap (λ w. method_among methods (word_object w)) (sym c.in-FunctionalEquality.is)

pub returns-in-BetaReduction : goal.returns-in-BetaReduction
returns-in-BetaReduction c = ap (λ w. method_among methods (word_object w)) (sym c.in-BetaReduction.is)

pub returns-in-BaseEval : goal.returns-in-BaseEval
returns-in-BaseEval c = ap (λ w. method_among methods (word_object w)) (sym c.in-BaseEval.is)

pub returns-in-Expansion : goal.returns-in-Expansion
returns-in-Expansion c = ap (λ w. method_among methods (word_object w)) (sym c.in-Expansion.is)

pub returns-in-Contraction : goal.returns-in-Contraction
returns-in-Contraction c = ap (λ w. method_among methods (word_object w)) (sym c.in-Contraction.is)

pub returns-in-Associativity : goal.returns-in-Associativity
returns-in-Associativity c = ap (λ w. method_among methods (word_object w)) (sym c.in-Associativity.is)

pub returns-in-Cut : goal.returns-in-Cut
returns-in-Cut c = ap (λ w. method_among methods (word_object w)) (sym c.in-Cut.is)

pub returns-in-Instantiation : goal.returns-in-Instantiation
returns-in-Instantiation c = ap (λ w. method_among methods (word_object w)) (sym c.in-Instantiation.is)

pub returns-in-Induction : goal.returns-in-Induction
returns-in-Induction c = ap (λ w. method_among methods (word_object w)) (sym c.in-Induction.is)

pub returns-in_default : goal.returns-in_default
returns-in_default c =
    let d = c.in_default in
    other_word c.args.word d.not-Axiom d.not-Theorem d.not-PropositionalSchema d.not-FunctionalEquality d.not-BetaReduction d.not-BaseEval d.not-Expansion d.not-Contraction d.not-Associativity d.not-Cut d.not-Instantiation d.not-Induction
