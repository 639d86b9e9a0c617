-- Judging is a local test: an object is a proof exactly where its parts, its subproofs and its step are as they should be.
use Rattle.std.proofs.Common.{◌≡◌, Bool, true, false, ◌&&◌, ◌||◌, cond, List, [], Option, Some, None, refl, sym, ap, ap₂, ◌∙◌, subst, is_some}
use Rattle.std.proofs.lemmas.Bool.{and_parts, and_right}
use Rattle.mw_model.specs.Terms.Object.{Object, Natural, Symbol, Pair, same_name, same_object, nil_name, NIL, second_of}
use Rattle.mw_model.specs.Terms.Term.{Formula, formula_object, ArityTable, is_formula, IsFormula}
use Rattle.mw_model.specs.Terms.Reading.{formula_of, and_more, that, when}
use Rattle.mw_model.specs.Values.Primitive.{Profile}
use Rattle.mw_model.specs.Values.Truth.{Each}
use Rattle.mw_model.specs.Proofs.Proof.{Method}
use Rattle.mw_model.specs.Proofs.Judgment.{methods, method_among, follows, judge_step, judge, judge_each}
use Rattle.mw_model.specs.Laws.Rules.{is_formula_object}
use Rattle.mw_model.specs.Laws.RulesInduction.{formulas_object}
use Rattle.mw_model.proofs.ReadBack.{when_some, some_one, cond_some, and_more-back, formula_back}
use Rattle.mw_rules.specs.Step.{rule_holds}
use Rattle.mw_rules.proofs.CallerLemmas.{rule_holds-is}
use Rattle.mw_proof.specs.Step.{subproofs_of, conclusions_object, is_proof, are_proofs, is_step}

module _ (ax th : Object) (A : ArityTable) (P : Profile) where
  -- what judging answers stands in the object
  step_conclusion : (om : Option Method) (c : Object) (oFs : Option (List Formula)) (x : Object) (F : Formula) → judge_step ax th A P om (formula_of c) oFs x ≡ Some F → (formula_object F ≡ c) × IsFormula A F
  step_conclusion om c oFs x F h = go om (formula_of c) refl oFs h
    where
      go : (m : Option Method) (o : Option Formula) → formula_of c ≡ o → (fs : Option (List Formula)) → judge_step ax th A P m o fs x ≡ Some F → (formula_object F ≡ c) × IsFormula A F
      go None o e fs k = cc
      go (Some m) None e fs k = cc
      go (Some m) (Some G) e None k = cc
      go (Some m) (Some G) e (Some Gs) k =
          let p = when_some (is_formula A G && follows ax th A P m G Gs x) (Some G) F k in
          let q : G ≡ F = some_one p.1 in
          (formula_back c F (e ∙ ap Some q), subst (IsFormula A) q (and_parts (is_formula A G) (follows ax th A P m G Gs x) p.0).0)

  pub judge-conclusion : (p : Object) (F : Formula) → judge ax th A P p ≡ Some F → (formula_object F ≡ second_of p) × IsFormula A F
  judge-conclusion (Pair m (Pair c (Pair ps (Pair x z)))) F h =
      step_conclusion (method_among methods m) c (judge_each ax th A P ps) x F (when_some (same_object z NIL) _ F h).1
  judge-conclusion (Pair m (Pair c (Pair ps (Symbol s)))) F h =
      step_conclusion (method_among methods m) c (judge_each ax th A P ps) NIL F (when_some (same_name s nil_name) _ F h).1
  judge-conclusion (Pair m (Pair c (Symbol s))) F h = step_conclusion (method_among methods m) c (Some []) NIL F (when_some (same_name s nil_name) _ F h).1
  judge-conclusion (Pair m (Pair c (Pair ps (Natural n)))) F h = cc
  judge-conclusion (Pair m (Pair c (Natural n))) F h = cc
  judge-conclusion (Pair m (Natural n)) F h = cc
  judge-conclusion (Pair m (Symbol n)) F h = cc
  judge-conclusion (Natural n) F h = cc
  judge-conclusion (Symbol n) F h = cc

  pub judge_each-conclusions : (ps : Object) (Fs : List Formula) → judge_each ax th A P ps ≡ Some Fs → (formulas_object Fs ≡ conclusions_object ps) × Each (IsFormula A) Fs
  judge_each-conclusions (Pair p ps) Fs h =
      let q = and_more-back (judge ax th A P p) (judge_each ax th A P ps) Fs h in
      let first = judge-conclusion p q.0 q.2 in
      let rest = judge_each-conclusions ps q.1 q.3 in
      (ap formulas_object q.4 ∙ ap₂ Pair first.0 rest.0, subst (Each (IsFormula A)) (sym q.4) (first.1, rest.1))
  judge_each-conclusions (Symbol s) Fs h = let q : [] ≡ Fs = some_one (cond_some (same_name s nil_name) (Some []) Fs h).1 in (ap formulas_object (sym q), subst (Each (IsFormula A)) q tt)
  judge_each-conclusions (Natural n) Fs h = cc

  present-and_more : {X : Type 0} (o : Option X) (p : Option (List X)) → is_some (and_more o p) ≡ (is_some o && is_some p)
  present-and_more None p = refl
  present-and_more (Some x) None = refl
  present-and_more (Some x) (Some xs) = refl

  pub are_proofs-is : (ps : Object) → is_some (judge_each ax th A P ps) ≡ are_proofs ax th A P ps
  are_proofs-is (Pair p ps) = present-and_more (judge ax th A P p) (judge_each ax th A P ps) ∙ ap (λ b. is_proof ax th A P p && b) (are_proofs-is ps)
  are_proofs-is (Natural n) = refl
  are_proofs-is (Symbol s) = elim (same_name s nil_name) as (λ b. is_some {T = List Formula} (cond b (Some []) None) ≡ b) [ true ↦ refl | false ↦ refl ]

  and-false : (a b : Bool) → (a && (b && false)) ≡ false
  and-false true true = refl
  and-false true false = refl
  and-false false b = refl

  both_tests : {X : Type 0} (F : X) (f w p r : Bool) → p ≡ true → (f ≡ true → w ≡ r) → is_some (when (f && w) (Some F)) ≡ (is_some (when f (Some F)) && (p && r))
  both_tests F false w p r e k = refl
  both_tests F true true true r e k = k refl
  both_tests F true false true r e k = k refl
  both_tests F true w false r e k = cc

  -- a step, where what the conclusion and the subproofs stand for are named
  step_named : (om : Option Method) (c cs : Object) (ps : Bool) (x : Object) (o : Option Formula) → ((F : Formula) → o ≡ Some F → formula_object F ≡ c) → (fs : Option (List Formula)) → is_some fs ≡ ps → ((Fs : List Formula) → fs ≡ Some Fs → (formulas_object Fs ≡ cs) × Each (IsFormula A) Fs) → is_some (judge_step ax th A P om o fs x) ≡ (is_some (that (is_formula A) o) && (ps && rule_holds ax th A P om c cs x))
  step_named None c cs ps x o e fs q r = sym (and-false (is_some (that (is_formula A) o)) ps)
  step_named (Some m) c cs ps x None e fs q r = refl
  step_named (Some m) c cs ps x (Some F) e None q r =
      sym (ap (λ b. is_some (when (is_formula A F) (Some F)) && (b && rule_holds ax th A P (Some m) c cs x)) (sym q) ∙ and_right (is_some (when (is_formula A F) (Some F))) false refl)
  step_named (Some m) c cs ps x (Some F) e (Some Fs) q r =
      let parts = r Fs refl in
      both_tests F (is_formula A F) (follows ax th A P m F Fs x) ps (rule_holds ax th A P (Some m) c cs x) (sym q) (λ i. sym (ap₂ (λ y ys. rule_holds ax th A P (Some m) y ys x) (sym (e F refl)) (sym parts.0) ∙ rule_holds-is ax th A P m F Fs x i parts.1))

  judge_step-is : (m c ps x : Object) → is_some (judge_step ax th A P (method_among methods m) (formula_of c) (judge_each ax th A P ps) x) ≡ (is_formula_object A c && (are_proofs ax th A P ps && rule_holds ax th A P (method_among methods m) c (conclusions_object ps) x))
  judge_step-is m c ps x = step_named (method_among methods m) c (conclusions_object ps) (are_proofs ax th A P ps) x (formula_of c) (formula_back c) (judge_each ax th A P ps) (are_proofs-is ps) (judge_each-conclusions ps)

  present-when : {X : Type 0} (b : Bool) (o : Option X) (t : Bool) → is_some o ≡ t → is_some (when b o) ≡ (b && t)
  present-when true o t e = e
  present-when false o t e = refl

  present-shape : {X : Type 0} (b : Bool) (o : Option X) (t : Bool) → is_some o ≡ t → is_some (when b o) ≡ ((b || false) && t)
  present-shape true o t e = e
  present-shape false o t e = refl

  -- an object is a proof exactly where it has the shape of one, its conclusion is a formula, its subproofs are proofs and its step holds
  pub is_proof-step : (p : Object) → is_proof ax th A P p ≡ is_step ax th A P p (are_proofs ax th A P (subproofs_of p))
  is_proof-step (Pair m (Pair c (Pair ps (Pair x z)))) = present-when (same_object z NIL) _ _ (judge_step-is m c ps x)
  is_proof-step (Pair m (Pair c (Pair ps (Symbol s)))) = present-shape (same_name s nil_name) _ _ (judge_step-is m c ps NIL)
  is_proof-step (Pair m (Pair c (Symbol s))) = present-shape (same_name s nil_name) _ _ (judge_step-is m c NIL NIL)
  is_proof-step (Pair m (Pair c (Pair ps (Natural n)))) = refl
  is_proof-step (Pair m (Pair c (Natural n))) = refl
  is_proof-step (Pair m (Natural n)) = refl
  is_proof-step (Pair m (Symbol n)) = refl
  is_proof-step (Natural n) = refl
  is_proof-step (Symbol n) = refl
