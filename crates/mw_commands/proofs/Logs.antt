-- Each conclusion of good steps has a proof, so that an event with a yes is accepted with some proofs. Without a yes the theory stays.
use Rattle.std.proofs.Common.{◌≡◌, ℕ, zero, suc, ◌+◌, false, ◌&&◌, not, List, [], ◌∷◌, ◌++◌, length, Option, Some, None, refl, sym, ap, ◌∙◌, subst}
use Rattle.std.proofs.lemmas.Bool.{and_parts, or_parts, or_from, not-true}
use Rattle.mw_model.specs.Terms.Object.{Object, Natural, Symbol, Pair, NIL, same_object, car, cdr, second_of, third_of, fourth_of, fifth_of, sixth_of, has_members, list4}
use Rattle.mw_model.specs.Terms.Term.{Formula, formula_object, ArityTable, is_formula}
use Rattle.mw_model.specs.Terms.Reading.{formula_of}
use Rattle.mw_model.specs.Values.Primitive.{Profile}
use Rattle.mw_model.specs.Values.Truth.{Each}
use Rattle.mw_model.specs.Proofs.Proof.{four, Method, method_name, Proves, proof, ProveEach, no_proofs, more_proofs}
use Rattle.mw_model.specs.Proofs.Judgment.{methods, method_among, follows, judge_step}
use Rattle.mw_model.specs.Events.Fate.{is_out_of_range}
use Rattle.mw_model.proofs.ReadBack.{some_one, and_more-back, when_some, formula_back}
use Rattle.mw_model.proofs.Follows.{row_is}
use Rattle.mw_commands.specs.Commands.Log.{formula_numbered, formulas_numbered, formulas_at, naturals_of, conclusion, and_conclusions, conclusions_after, conclusions}

-- ---- the parts of what holds no natural past the range hold none

pub car_in_range : (x : Object) → is_out_of_range x ≡ false → is_out_of_range (car x) ≡ false
car_in_range (Pair a b) h = (or_parts (is_out_of_range a) (is_out_of_range b) h).0
car_in_range (Natural n) h = refl
car_in_range (Symbol s) h = refl

pub cdr_in_range : (x : Object) → is_out_of_range x ≡ false → is_out_of_range (cdr x) ≡ false
cdr_in_range (Pair a b) h = (or_parts (is_out_of_range a) (is_out_of_range b) h).1
cdr_in_range (Natural n) h = refl
cdr_in_range (Symbol s) h = refl

pub pair_in_range : (a b : Object) → is_out_of_range a ≡ false → is_out_of_range b ≡ false → is_out_of_range (Pair a b) ≡ false
pair_in_range a b h k = or_from (is_out_of_range a) (is_out_of_range b) h k

module _ (x : Object) (h : is_out_of_range x ≡ false) where
  pub second_in_range : is_out_of_range (second_of x) ≡ false
  second_in_range = car_in_range (cdr x) (cdr_in_range x h)

  pub third_in_range : is_out_of_range (third_of x) ≡ false
  third_in_range = car_in_range (cdr (cdr x)) (cdr_in_range (cdr x) (cdr_in_range x h))

  pub fourth_in_range : is_out_of_range (fourth_of x) ≡ false
  fourth_in_range = car_in_range (cdr (cdr (cdr x))) (cdr_in_range (cdr (cdr x)) (cdr_in_range (cdr x) (cdr_in_range x h)))

  pub fifth_in_range : is_out_of_range (fifth_of x) ≡ false
  fifth_in_range = car_in_range (cdr (cdr (cdr (cdr x)))) (cdr_in_range (cdr (cdr (cdr x))) (cdr_in_range (cdr (cdr x)) (cdr_in_range (cdr x) (cdr_in_range x h))))

  pub sixth_in_range : is_out_of_range (sixth_of x) ≡ false
  sixth_in_range = car_in_range (cdr (cdr (cdr (cdr (cdr x))))) (cdr_in_range (cdr (cdr (cdr (cdr x)))) (cdr_in_range (cdr (cdr (cdr x))) (cdr_in_range (cdr (cdr x)) (cdr_in_range (cdr x) (cdr_in_range x h)))))

-- ---- proofs of the conclusions

module _ (ax th : Object) (A : ArityTable) (P : Profile) where
  -- a proof of F that an event may hold; for each formula of a list
  pub record HasProof (F : Formula) : Type 0 where
    pub witness : Object
    pub proves : Proves ax th A P witness F
    pub in_range : is_out_of_range witness ≡ false

  pub record HaveProofs (Fs : List Formula) : Type 0 where
    pub witnesses : Object
    pub prove : ProveEach ax th A P witnesses Fs
    pub in_range : is_out_of_range witnesses ≡ false

  pub nothing_to_prove : HaveProofs []
  nothing_to_prove = record { witnesses = NIL; prove = no_proofs; in_range = refl }

  pub one_more : (F : Formula) (Fs : List Formula) → HasProof F → HaveProofs Fs → HaveProofs (F ∷ Fs)
  one_more F Fs p ps = record { witnesses = Pair p.witness ps.witnesses; prove = more_proofs p.witness ps.witnesses F Fs p.proves ps.prove; in_range = pair_in_range p.witness ps.witnesses p.in_range ps.in_range }

  pub numbered_proof : (Fs : List Formula) (n : ℕ) (F : Formula) → Each HasProof Fs → formula_numbered Fs n ≡ Some F → HasProof F
  numbered_proof [] zero F h e = cc
  numbered_proof [] (suc n) F h e = cc
  numbered_proof (G ∷ Fs) zero F h e = cc
  numbered_proof (G ∷ Fs) (suc zero) F h e = subst HasProof (some_one e) h.0
  numbered_proof (G ∷ Fs) (suc (suc n)) F h e = numbered_proof Fs (suc n) F h.1 e

  numbered_proofs : (Fs : List Formula) (ns : List ℕ) (Gs : List Formula) → Each HasProof Fs → formulas_numbered Fs ns ≡ Some Gs → HaveProofs Gs
  numbered_proofs Fs [] Gs h e = let q : [] ≡ Gs = some_one e in subst HaveProofs q nothing_to_prove
  numbered_proofs Fs (n ∷ ns) Gs h e =
      let b = and_more-back (formula_numbered Fs n) (formulas_numbered Fs ns) Gs e in
      subst HaveProofs (sym b.4) (one_more b.0 b.1 (numbered_proof Fs n b.0 h b.2) (numbered_proofs Fs ns b.1 h b.3))

  proofs_at : (Fs : List Formula) (o : Option (List ℕ)) (Gs : List Formula) → Each HasProof Fs → formulas_at Fs o ≡ Some Gs → HaveProofs Gs
  proofs_at Fs None Gs h e = cc
  proofs_at Fs (Some ns) Gs h e = numbered_proofs Fs ns Gs h e

  step_proof : (om : Option Method) (c : Object) (oGs : Option (List Formula)) (x : Object) (F : Formula) → is_out_of_range c ≡ false → is_out_of_range x ≡ false → ((Gs : List Formula) → oGs ≡ Some Gs → HaveProofs Gs) → judge_step ax th A P om (formula_of c) oGs x ≡ Some F → HasProof F
  step_proof om c oGs x F u v f e = go om (formula_of c) refl oGs f e
    where
      go : (om : Option Method) (oF : Option Formula) → formula_of c ≡ oF → (oGs : Option (List Formula)) → ((Gs : List Formula) → oGs ≡ Some Gs → HaveProofs Gs) → judge_step ax th A P om oF oGs x ≡ Some F → HasProof F
      go None oF k oGs f e = cc
      go (Some m) None k oGs f e = cc
      go (Some m) (Some G) k None f e = cc
      go (Some m) (Some G) k (Some Gs) f e =
          let p = when_some (is_formula A G && follows ax th A P m G Gs x) (Some G) F e in
          let q = and_parts (is_formula A G) (follows ax th A P m G Gs x) p.0 in
          let ps = f Gs refl in
          let whole = list4 (Symbol (method_name m)) (formula_object G) ps.witnesses x in
          let formula_in_range : is_out_of_range (formula_object G) ≡ false = ap is_out_of_range (formula_back c G k) ∙ u in
          subst HasProof (some_one p.1)
          (record {
            witness = whole;
            proves = proof whole ps.witnesses x m G Gs (four (Symbol (method_name m)) (formula_object G) ps.witnesses x) q.0 ps.prove (row_is ax th A P m G Gs x q.1);
            in_range = pair_in_range (formula_object G) (Pair ps.witnesses (Pair x NIL)) formula_in_range (pair_in_range ps.witnesses (Pair x NIL) ps.in_range (pair_in_range x NIL v refl));
          })

  conclusion_proof : (Fs : List Formula) (x : Object) (F : Formula) → Each HasProof Fs → conclusion ax th A P Fs x ≡ Some F → HasProof F
  conclusion_proof Fs x F h e =
      let p = when_some (has_members 6 x && (not (is_out_of_range x) && same_object (second_of x) (Natural (length Fs + 1)))) (judge_step ax th A P (method_among methods (third_of x)) (formula_of (fourth_of x)) (formulas_at Fs (naturals_of (fifth_of x))) (sixth_of x)) F e in
      let q = and_parts (not (is_out_of_range x)) (same_object (second_of x) (Natural (length Fs + 1))) (and_parts (has_members 6 x) (not (is_out_of_range x) && same_object (second_of x) (Natural (length Fs + 1))) p.0).1 in
      let r : is_out_of_range x ≡ false = not-true (is_out_of_range x) q.0 in
      step_proof (method_among methods (third_of x)) (fourth_of x) (formulas_at Fs (naturals_of (fifth_of x))) (sixth_of x) F (fourth_in_range x r) (sixth_in_range x r) (λ Gs k. proofs_at Fs (naturals_of (fifth_of x)) Gs h k) p.1

  each_and_last : (Fs : List Formula) (F : Formula) → Each HasProof Fs → HasProof F → Each HasProof (Fs ++ F ∷ [])
  each_and_last [] F h k = (k, tt)
  each_and_last (G ∷ Fs) F h k = (h.0, each_and_last Fs F h.1 k)

  conclusions_proofs : (steps : List Object) (Fs Gs : List Formula) → Each HasProof Fs → conclusions_after ax th A P steps Fs ≡ Some Gs → Each HasProof Gs
  conclusions_proofs [] Fs Gs h e = subst (Each HasProof) (some_one e) h
  conclusions_proofs (x ∷ xs) Fs Gs h e = go (conclusion ax th A P Fs x) refl e (λ F k. conclusions_proofs xs (Fs ++ F ∷ []) Gs (each_and_last Fs F h k))
    where
      go : (o : Option Formula) → conclusion ax th A P Fs x ≡ o → and_conclusions (conclusions_after ax th A P xs) Fs o ≡ Some Gs → ((F : Formula) → HasProof F → conclusions_after ax th A P xs (Fs ++ F ∷ []) ≡ Some Gs → Each HasProof Gs) → Each HasProof Gs
      go None k e ih = cc
      go (Some F) k e ih = ih F (conclusion_proof Fs x F h k) e

  pub conclusions_proved : (steps : List Object) (Fs : List Formula) → conclusions ax th A P steps ≡ Some Fs → Each HasProof Fs
  conclusions_proved steps Fs e = conclusions_proofs steps [] Fs tt e

  plain_proofs : (Fs : List Formula) → Each HasProof Fs → Each (λ F. (p : Object) × Proves ax th A P p F) Fs
  plain_proofs [] h = tt
  plain_proofs (F ∷ Fs) h = ((h.0.witness, h.0.proves), plain_proofs Fs h.1)

  pub steps_prove : (steps : List Object) (Fs : List Formula) → conclusions ax th A P steps ≡ Some Fs → Each (λ F. (p : Object) × Proves ax th A P p F) Fs
  steps_prove steps Fs e = plain_proofs Fs (conclusions_proved steps Fs e)
