-- One step of judging: what must hold of an object, beside that its subproofs are proofs, for it to be a proof.
use Rattle.std.specs.Prelude.{Bool, false, ◌&&◌, ◌||◌, is_some}
use Rattle.mw_model.specs.Terms.Object.{Object, Natural, Symbol, Pair, same_name, nil_name, NIL, car, second_of, third_of, fourth_of, has_members}
use Rattle.mw_model.specs.Terms.Term.{ArityTable}
use Rattle.mw_model.specs.Values.Primitive.{Profile}
use Rattle.mw_model.specs.Proofs.Judgment.{methods, method_among, judge}
use Rattle.mw_model.specs.Laws.Rules.{is_formula_object}
use Rattle.mw_rules.specs.Step.{rule_holds}

-- a proper list of two to four members: method, conclusion, subproofs, extras
abbrev pub has_proof_shape : Object → Bool
has_proof_shape p = has_members 2 p || (has_members 3 p || has_members 4 p)

abbrev pub subproofs_of : Object → Object
subproofs_of p = third_of p

-- the conclusions of a list of proofs
abbrev pub conclusions_object : Object → Object
conclusions_object (Pair p ps) = Pair (second_of p) (conclusions_object ps)
conclusions_object (Natural n) = NIL
conclusions_object (Symbol s) = NIL

-- the rule of the proof's method
abbrev pub step_holds : Object → Object → ArityTable → Profile → Object → Bool
step_holds axioms theorems A P p = rule_holds axioms theorems A P (method_among methods (car p)) (second_of p) (conclusions_object (subproofs_of p)) (fourth_of p)

-- the object is a proof; a proper list of proofs
abbrev pub is_proof : Object → Object → ArityTable → Profile → Object → Bool
is_proof axioms theorems A P p = is_some (judge axioms theorems A P p)

abbrev pub are_proofs : Object → Object → ArityTable → Profile → Object → Bool
are_proofs axioms theorems A P (Pair p ps) = is_proof axioms theorems A P p && are_proofs axioms theorems A P ps
are_proofs axioms theorems A P (Symbol s) = same_name s nil_name
are_proofs axioms theorems A P (Natural n) = false

-- The test of an object by parts, the subproofs' answers being known.
abbrev pub is_step : Object → Object → ArityTable → Profile → Object → Bool → Bool
is_step axioms theorems A P p subproofs = has_proof_shape p && (is_formula_object A (second_of p) && (subproofs && step_holds axioms theorems A P p))
