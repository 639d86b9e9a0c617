-- What a checker with a true claim says yes to has a true conclusion: else no object is a proof of it, and the claim fails.
use Rattle.std.proofs.Common.{◌≡◌, Bool, true, false, List, [], ◌∷◌, refl, sym, ◌∙◌, subst}
use Rattle.mw_model.specs.Terms.Object.{Name, Object, named, NIL, second_of, truth_of}
use Rattle.mw_model.specs.Terms.Term.{Term, Constant, Formula, formula_object, table_object, IsFormula}
use Rattle.mw_model.specs.Values.Primitive.{Profile, primitive_named}
use Rattle.mw_model.specs.Values.Definition.{Definitions, arity_table}
use Rattle.mw_model.specs.Values.Value.{Environment, Calls, bind, OnCall, HasValue, HaveValues, block_calls}
use Rattle.mw_model.specs.Values.Truth.{TrueAt, IsTrueIn}
use Rattle.mw_model.specs.Events.Writing.{terms, var, call}
use Rattle.mw_model.specs.Proofs.Proof.{Proves}
use Rattle.mw_model.specs.Events.Theory.{on_the_theory, claim}
use Rattle.mw_model.proofs.Read.{formula_object-one}
use Rattle.mw_model.proofs.Depth.{one_value}
use Rattle.mw_model.proofs.Judging.{good_judge}
use Rattle.mw_model.proofs.CallDepth.{constants_are}
use Rattle.mw_model.proofs.SomeValue.{witness_has}
use Rattle.mw_model.proofs.BuiltInAnswers.{answer-body}
use Rattle.mw_model.proofs.BuiltInTotal.{begun_answer}
use Rattle.mw_truth.proofs.Having.{stable}
use Rattle.mw_reflect.specs.Laws.{SaysYes, BeginsBuiltIn, IsProved}
use Rattle.mw_reflect.proofs.ProofAnswers.{conclusion_of-proof}
use Rattle.mw_reflect.proofs.Reflects.{arguments}
use Rattle.mw_reflect.proofs.Provable.{proves_body, free_names, proves, Calls52, Witness, provable_call, proved_to}

module _ (D : Definitions) (begun : BeginsBuiltIn D) (axioms theorems : Object) where
  abbrev P : Profile
  P = D.profile

  abbrev C : Calls
  C = block_calls P D.blocks

  abbrev args : Object → List Object
  args = arguments D begun axioms theorems

  abbrev at : Object → Environment
  at p = bind free_names (args p)

  pub conclusion_value : (p : Object) → C (named "LOGIC.CONCLUSION") (p ∷ []) (second_of p)
  conclusion_value p = subst (λ v. C (named "LOGIC.CONCLUSION") (p ∷ []) v) (answer-body P "LOGIC.CONCLUSION" (p ∷ [])) (begun_answer P D.blocks begun.0 begun.1 "LOGIC.CONCLUSION" refl (p ∷ []))

  -- the arguments at the variables
  the_rest : (p : Object) → HaveValues P C (at p) (terms (var "AXIOMS" ∷ var "THMS" ∷ var "ATBL" ∷ [])) (axioms ∷ theorems ∷ table_object (arity_table D) ∷ [])
  the_rest p = (axioms, _, refl, refl, (theorems, _, refl, refl, (table_object (arity_table D), [], refl, refl, refl)))

  abbrev says : Name → Term
  says f = on_the_theory f (var "X")

  abbrev provable : Term
  provable = on_the_theory (named "LOGIC.PROVABLEP") (call "LOGIC.CONCLUSION" (var "X" ∷ []))

  provable_at : (p q : Object) → Witness D begun axioms theorems (second_of p) q → HasValue P C (at p) provable (truth_of (proves D begun axioms theorems (second_of p) q))
  provable_at p q w = (args (second_of p), (second_of p, _, refl, (p ∷ [], (p, [], refl, refl, refl), conclusion_value p), the_rest p), provable_call D begun axioms theorems (second_of p) q w)

  claim_gives : (f : Name) (e : Environment) (p : Object) → IsTrueIn D (claim f) → SaysYes f D e p axioms theorems → (IsProved D axioms theorems (second_of p) → ⊥) → ⊥
  claim_gives f e p t h np =
      let vs_are = constants_are P C e (args p) h.2.0 h.2.1 in
      let here : HasValue P C (at p) (says f) h.0 = (args p, (p, _, refl, refl, the_rest p), subst (λ vs. OnCall C (primitive_named P f) f vs h.0) vs_are h.2.2) in
      t (at p)
      (λ a. a (λ u g k. h.1 (one_value D (at p) (says f) h.0 u here g ∙ k)))
      (λ b. b (λ k. witness_has P (Calls52 D begun axioms theorems) (named "PROOF") free_names proves_body (args (second_of p)) (λ q w. go k q w (proves D begun axioms theorems (second_of p) q) refl)))
    where
      go : ((u : Object) → HasValue P C (at p) provable u → HasValue P C (at p) (Constant NIL) u → ⊥) → (q : Object) → Witness D begun axioms theorems (second_of p) q → (b : Bool) → proves D begun axioms theorems (second_of p) q ≡ b → ⊥
      go k q w true e = np (proved_to D begun axioms theorems (second_of p) q e)
      go k q w false e = k NIL (subst (λ b. HasValue P C (at p) provable (truth_of b)) e (provable_at p q w)) refl

  pub claim_true : ((q : Object) (G : Formula) → Proves axioms theorems (arity_table D) P q G → IsTrueIn D G) → (f : Name) (e : Environment) (p : Object) → IsTrueIn D (claim f) → SaysYes f D e p axioms theorems → (F : Formula) → IsFormula (arity_table D) F → second_of p ≡ formula_object F → IsTrueIn D F
  claim_true sound f e p t h F i s e' =
      stable P C e' F (λ no. claim_gives f e p t h (λ q.
      let g : formula_object q.1.0 ≡ formula_object F = sym (conclusion_of-proof axioms theorems (arity_table D) P q.0 q.1.0 q.1.1) ∙ (q.2 ∙ s) in
      let same : q.1.0 ≡ F = formula_object-one (arity_table D) (arity_table D) q.1.0 F (good_judge axioms theorems (arity_table D) P q.0 q.1.0 q.1.1).0 i g in
      no (subst (λ X. TrueAt P C e' X) same (sound q.0 q.1.0 q.1.1 e'))))
