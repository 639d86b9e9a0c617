-- A VERIFY as the rules test it comes to what it comes to by the theory's checker.
use Rattle.std.proofs.Common.{◌≡◌, ℕ, Bool, true, false, Option, Some, None, refl, ap, ◌∙◌, is_some}
use Rattle.mw_model.specs.Terms.Object.{Object, Pair, list3}
use Rattle.mw_model.specs.Terms.Term.{ArityTable, Formula, is_formula, formula_object}
use Rattle.mw_model.specs.Terms.Reading.{that, formula_of, formula_under}
use Rattle.mw_model.specs.Values.Primitive.{is_symbol}
use Rattle.mw_model.specs.Values.Definition.{arity_table}
use Rattle.mw_model.specs.Events.Theory.{Theory}
use Rattle.mw_model.specs.Events.Refusal.{Refusal, NAME, FORMULA, accept, need, must, unless}
use Rattle.mw_model.specs.Events.Checking.{judged_as}
use Rattle.mw_model.specs.Events.Fate.{verify}
use Rattle.mw_model.proofs.ReadBack.{when_some, formula_back}
use Rattle.mw_theory.specs.Knowledge.{with_theorem}
use Rattle.mw_kernel.specs.Proofs.{judged_for}
use Rattle.mw_theory.specs.Settling.{refusal_by, by_refusal, verified}

that_some : {X : Type 0} (test : X → Bool) (o : Option X) (x : X) → that test o ≡ Some x → o ≡ Some x
that_some test None x h = cc
that_some test (Some y) x h = (when_some (test y) (Some y) x h).1

formula_under-back : (A : ArityTable) (x : Object) (F : Formula) → formula_under A x ≡ Some F → formula_object F ≡ x
formula_under-back A x F h = formula_back x F (that_some (is_formula A) (formula_of x) F h)

-- The tests that the rules make come to the same.
module _ (t : Theory) (N : ℕ) where
  by_proof : (o : Option Refusal) (x : Object) → unless t o (accept (with_theorem t x)) ≡ by_refusal t x (refusal_by true true o)
  unfolding unless
  by_proof None x = refl
  by_proof (Some r) x = refl

  module _ (b p : Object) where
    by_formula : (F : Formula) → formula_object F ≡ b → unless t (judged_as t N F p) (accept (with_theorem t (formula_object F))) ≡ by_refusal t b (refusal_by true true (judged_for N t b p))
    by_formula F is = by_proof (judged_as t N F p) (formula_object F) ∙ ap (λ x. by_refusal t x (refusal_by true true (judged_for N t x p))) is

    by_name : (n : Bool) (o : Option Formula) → ((F : Formula) → o ≡ Some F → formula_object F ≡ b) → must t NAME n (need t FORMULA o (λ F. unless t (judged_as t N F p) (accept (with_theorem t (formula_object F))))) ≡ by_refusal t b (refusal_by n (is_some o) (judged_for N t b p))
    unfolding must need
    by_name false o back = refl
    by_name true None back = refl
    by_name true (Some F) back = by_formula F (back F refl)

  pub verify_is : (w a b p : Object) → verify t N (Pair w (list3 a b p)) ≡ verified (judged_for N) t a b p
  verify_is w a b p = by_name b p (is_symbol a) (formula_under (arity_table t.definitions) b) (formula_under-back (arity_table t.definitions) b)
