-- One step of a proof: the rule of its method, on objects.
use Rattle.std.specs.Prelude.{Bool, false, ◌&&◌, Option, Some, None}
use Rattle.mw_model.specs.Terms.Object.{Object, same_object, NIL, car, second_of, has_members, is_member}
use Rattle.mw_model.specs.Terms.Term.{ArityTable}
use Rattle.mw_model.specs.Values.Primitive.{Profile}
use Rattle.mw_model.specs.Proofs.Proof.{Method, Axiom, Theorem, PropositionalSchema, FunctionalEquality, BetaReduction, BaseEval, Expansion, Contraction, Associativity, Cut, Instantiation, Induction}
use Rattle.mw_model.specs.Laws.Rules.{object_is_schema, object_is_functional_equality, object_is_beta, object_is_base_eval, object_is_expansion, object_is_contraction, object_is_associativity, object_is_cut, object_is_instance}
use Rattle.mw_model.specs.Laws.RulesInduction.{object_is_induction}

-- The rule of a method: its conclusion c, the list cs of the subproofs' conclusions, the extras x.
abbrev pub rule_holds : Object → Object → ArityTable → Profile → Option Method → Object → Object → Object → Bool
rule_holds axioms theorems A P None c cs x = false
rule_holds axioms theorems A P (Some Axiom) c cs x = same_object x NIL && (has_members 0 cs && is_member c axioms)
rule_holds axioms theorems A P (Some Theorem) c cs x = same_object x NIL && (has_members 0 cs && is_member c theorems)
rule_holds axioms theorems A P (Some PropositionalSchema) c cs x = same_object x NIL && (has_members 0 cs && object_is_schema c)
rule_holds axioms theorems A P (Some FunctionalEquality) c cs x = same_object x NIL && (has_members 0 cs && object_is_functional_equality c)
rule_holds axioms theorems A P (Some BetaReduction) c cs x = same_object x NIL && (has_members 0 cs && object_is_beta c)
rule_holds axioms theorems A P (Some BaseEval) c cs x = same_object x NIL && (has_members 0 cs && object_is_base_eval P c)
rule_holds axioms theorems A P (Some Expansion) c cs x = same_object x NIL && (has_members 1 cs && object_is_expansion c (car cs))
rule_holds axioms theorems A P (Some Contraction) c cs x = same_object x NIL && (has_members 1 cs && object_is_contraction c (car cs))
rule_holds axioms theorems A P (Some Associativity) c cs x = same_object x NIL && (has_members 1 cs && object_is_associativity c (car cs))
rule_holds axioms theorems A P (Some Cut) c cs x = same_object x NIL && (has_members 2 cs && object_is_cut c (car cs) (second_of cs))
rule_holds axioms theorems A P (Some Instantiation) c cs x = has_members 1 cs && object_is_instance A c (car cs) x
rule_holds axioms theorems A P (Some Induction) c cs x = object_is_induction A c cs x
