-- The first condition that a step fails.
use Rattle.std.specs.Prelude.{◌≡◌, true, false, List, [], ◌∷◌, Some, option_map, option_to_list}
use Rattle.mw_model.specs.Terms.Object.{Object, Natural, symbol, Member, car, second_of, third_of, fourth_of, has_members}
use Rattle.mw_model.specs.Terms.Term.{ArityTable, Formula, formula_object}
use Rattle.mw_model.specs.Terms.Reading.{formula_under}
use Rattle.mw_model.specs.Values.Definition.{arity_table}
use Rattle.mw_model.specs.Proofs.Proof as logic
use Rattle.mw_model.specs.Proofs.Judgment.{methods, method_among, judge_each}
use Rattle.mw_model.specs.Events.Theory.{Theory}
use Rattle.mw_heap.specs.Objects.{object_at, IsIn}
use Rattle.mw_commands.specs.Commands.ExplanationTerms.{part_shown}
use Rattle.mw_commands.specs.Commands.ExplanationSteps.{are_extras, has_proof_shape, is_proof_at, mended, premises_wanted, step_shown, subproof_count, wrong_induction, wrong_step}
use Rattle.mw_explain.specs.declared.condition.Wrong.{Wrong}
use Rattle.mw_explain.specs.declared.condition.Wrong.TheVariants.{Shape, Method, Formula as Part, Subproofs, Extras, Premises, Induction, Rule}

-- the subproofs of x are proofs
abbrev pub HasProofs : Theory → Object → Type 0
HasProofs t x = (q : Object) → Member q (third_of x) → is_proof_at t q ≡ true

-- the first condition that fails of a method, these subproofs and these extras
abbrev pub IsWrongRow : ArityTable → logic.Method → Object → Object → Wrong → Type 0
IsWrongRow A m ps x Extras = (are_extras A m x ≡ false) × (m ≡ logic.Induction → ⊥)
IsWrongRow A m ps x (Premises n) = (are_extras A m x ≡ true) × (has_members (subproof_count m) ps ≡ false) × (n ≡ subproof_count m) × (m ≡ logic.Induction → ⊥)
IsWrongRow A m ps x Rule = (are_extras A m x ≡ true) × (has_members (subproof_count m) ps ≡ true) × (m ≡ logic.Induction → ⊥)
IsWrongRow A m ps x Induction = m ≡ logic.Induction
IsWrongRow A m ps x _ = ⊥

-- the part of the conclusion is in the heap
abbrev pub IsPartIn : List Object → Wrong → Type 0
IsPartIn os (Part p) = IsIn os p
IsPartIn os _ = Unit {0}

-- what is shown of the step x
abbrev pub IsWrong : Theory → List Object → Object → Wrong → Type 0
IsWrong t os x Shape = wrong_step t x ≡ x ∷ symbol "SHAPE" ∷ []
IsWrong t os x Method = wrong_step t x ≡ step_shown x ∷ symbol "METHOD" ∷ []
IsWrong t os x (Part part) = wrong_step t x ≡ step_shown x ∷ symbol "FORMULA" ∷ part_shown (arity_table t.definitions) (Some (object_at os part))
IsWrong t os x Subproofs = wrong_step t x ≡ step_shown x ∷ symbol "SUBPROOFS" ∷ []
IsWrong t os x Extras = wrong_step t x ≡ step_shown x ∷ symbol "EXTRAS" ∷ []
IsWrong t os x (Premises n) = wrong_step t x ≡ step_shown x ∷ symbol "PREMISES" ∷ Natural n ∷ []
IsWrong t os x Induction = (has_proof_shape x ≡ true) × (F : Formula) × (formula_under (arity_table t.definitions) (second_of x) ≡ Some F) × (wrong_step t x ≡ step_shown x ∷ wrong_induction (premises_wanted (arity_table t.definitions) F (fourth_of x)))
IsWrong t os x Rule =
    let A = arity_table t.definitions in
    (m : logic.Method) × (F : Formula) × (Fs : List Formula) × (method_among methods (car x) ≡ Some m) × (formula_under A (second_of x) ≡ Some F) × (judge_each t.axioms t.theorems A t.definitions.profile (third_of x) ≡ Some Fs)
    × (wrong_step t x ≡ step_shown x ∷ symbol "RULE" ∷ option_to_list (option_map formula_object (mended t.axioms t.theorems A t.definitions.profile m F Fs (fourth_of x))))
    × (are_extras A m (fourth_of x) ≡ true) × (has_proof_shape x ≡ true)
