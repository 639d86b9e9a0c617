-- The reference checker says yes exactly to proofs: in all definitions that begin with the built-in ones.
use Rattle.std.proofs.Common.{◌≡◌, ◌↔◌, Bool, true, false, List, [], ◌∷◌, Option, Some, None, refl, subst, is_some}
use Rattle.mw_model.specs.Terms.Object.{Object, named, T, truth_of}
use Rattle.mw_model.specs.Terms.Term.{table_object}
use Rattle.mw_model.specs.Values.Definition.{Definitions, arity_table}
use Rattle.mw_model.specs.Values.Value.{Environment, IsValue, block_calls}
use Rattle.mw_model.specs.Proofs.Judgment.{judge}
use Rattle.mw_model.proofs.Depth.{one_value}
use Rattle.mw_model.proofs.FunctionNames.{table_names}
use Rattle.mw_model.proofs.Judging.{judge_good, good_judge}
use Rattle.mw_model.proofs.NewNames.{if_known}
use Rattle.mw_model.proofs.CallDepth.{constants_have}
use Rattle.mw_model.proofs.BuiltInAnswers.{answer}
use Rattle.mw_model.proofs.BuiltInTotal.{begun_answer}
use Rattle.mw_truth.proofs.Tells.{t_not_nil}
use Rattle.mw_reflect.specs.Laws.{checker_call, SaysYes, BeginsBuiltIn, IsProof}
use Rattle.mw_reflect.proofs.ProofAnswers.{proofp-answer}

pub present : {X : Type 0} (o : Option X) → is_some o ≡ true → (x : X) × (o ≡ Some x)
present None h = cc
present (Some x) h = (x, refl)

module _ (D : Definitions) (begun : BeginsBuiltIn D) (axioms theorems : Object) where
  abbrev is_proof : Object → Bool
  is_proof p = is_some (judge axioms theorems (arity_table D) D.profile p)

  abbrev pub arguments : Object → List Object
  arguments p = p ∷ axioms ∷ theorems ∷ table_object (arity_table D) ∷ []

  pub proofp_answer-test : (p : Object) → answer D.profile "LOGIC.PROOFP" (arguments p) ≡ truth_of (is_proof p)
  proofp_answer-test =
      proofp-answer D.profile (arity_table D) (if_known D.profile D.blocks begun.0) (table_names D.profile D.blocks begun.0) axioms theorems

  -- the one value of the call
  pub proofp_value : (e : Environment) (p : Object) → IsValue D e (checker_call (named "LOGIC.PROOFP") D p axioms theorems) (truth_of (is_proof p))
  proofp_value e p = (
    arguments p,
    constants_have D.profile (block_calls D.profile D.blocks) e (arguments p),
    subst (λ v. block_calls D.profile D.blocks (named "LOGIC.PROOFP") (arguments p) v) (proofp_answer-test p) (begun_answer D.profile D.blocks begun.0 begun.1 "LOGIC.PROOFP" refl (arguments p)),
  )

  pub proofp_reflects : (e : Environment) (p : Object) → SaysYes (named "LOGIC.PROOFP") D e p axioms theorems ↔ IsProof D axioms theorems p
  proofp_reflects e p = (to, from)
    where
      to : SaysYes (named "LOGIC.PROOFP") D e p axioms theorems → IsProof D axioms theorems p
      to h = go (is_proof p) refl (one_value D e (checker_call (named "LOGIC.PROOFP") D p axioms theorems) h.0 (truth_of (is_proof p)) h.2 (proofp_value e p))
        where
          go : (b : Bool) → is_proof p ≡ b → h.0 ≡ truth_of b → IsProof D axioms theorems p
          go true k q = let s = present (judge axioms theorems (arity_table D) D.profile p) k in (s.0, judge_good axioms theorems (arity_table D) D.profile p s.0 s.1)
          go false k q = absurd (h.1 q)

      from : IsProof D axioms theorems p → SaysYes (named "LOGIC.PROOFP") D e p axioms theorems
      from g = (T, t_not_nil, subst (λ o. IsValue D e (checker_call (named "LOGIC.PROOFP") D p axioms theorems) (truth_of (is_some o))) (good_judge axioms theorems (arity_table D) D.profile p g.0 g.1).1 (proofp_value e p))
