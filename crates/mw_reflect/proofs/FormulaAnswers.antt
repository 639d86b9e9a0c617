-- LOGIC.FORMULAP is the test that an object is that of a formula.
use Rattle.std.proofs.Common.{◌≡◌, ℕ, Bool, true, false, ◌&&◌, cond, [], ◌∷◌, Option, Some, None, refl, sym, ap, ◌∙◌, subst, option_map}
use Rattle.std.proofs.lemmas.Bool.{both_ways}
use Rattle.mw_model.specs.Terms.Object.{Name, Object, Natural, Symbol, Pair, named, symbol, same_name, same_object, nil_name, NIL, truth_of}
use Rattle.mw_model.specs.Terms.Term.{Term, Formula, ArityTable, arity_of, is_term, is_formula, table_object, Equal, Or, Not}
use Rattle.mw_model.specs.Terms.Reading.{term_of, when, formula_of, map2}
use Rattle.mw_model.specs.Values.Primitive.{Profile, choose}
use Rattle.mw_model.specs.Laws.Rules.{is_formula_object}
use Rattle.mw_model.proofs.Names.{same_object-eq}
use Rattle.mw_model.proofs.BuiltInAnswers.{answer, answer-body}
use Rattle.mw_reflect.proofs.TestValues.{passes, has_length, and_then, and_true, and_false, choose-nil, has_length-three, has_length-not_two, that-present}
use Rattle.mw_reflect.proofs.ListAnswers.{lenp-answer}
use Rattle.mw_reflect.proofs.TermAnswers.{reads_term, termp-answer}

abbrev pub reads_formula : ArityTable → Object → Bool
reads_formula A x = passes (is_formula A) (formula_of x)

module _ (P : Profile) (A : ArityTable) (three : arity_of A (named "IF") ≡ Some 3) where
  abbrev formula_answer : Object → Object
  formula_answer x = answer P "LOGIC.FORMULAP" (x ∷ table_object A ∷ [])

  -- what LOGIC.FORMULAP tests by the head of an object: x for PEQUAL*, y for PNOT*, z for POR*
  abbrev by_head : (p n o : Bool) (x y z : Object) → Object
  by_head p n o x y z = choose (truth_of p) x (choose (truth_of n) y (choose (truth_of o) z NIL))

  equal_of-test : (o q : Option Term) → passes (is_term A) o && passes (is_term A) q ≡ passes (is_formula A) (map2 Equal o q)
  equal_of-test None q = refl
  equal_of-test (Some a) None = and_false (is_term A a)
  equal_of-test (Some a) (Some b) = refl

  or_of-test : (o q : Option Formula) → passes (is_formula A) o && passes (is_formula A) q ≡ passes (is_formula A) (map2 Or o q)
  or_of-test None q = refl
  or_of-test (Some a) None = and_false (is_formula A a)
  or_of-test (Some a) (Some b) = refl

  not_of-test : (o : Option Formula) → passes (is_formula A) o ≡ passes (is_formula A) (option_map Not o)
  not_of-test None = refl
  not_of-test (Some a) = refl

  same_object-apart : (h : Object) (m n : Name) → same_name m n ≡ false → same_object h (Symbol m) ≡ true → same_object h (Symbol n) ≡ false
  same_object-apart h m n d e = subst (λ z. same_object z (Symbol n) ≡ false) (sym (same_object-eq h (Symbol m) e)) d

  by_head-three : (h a b z : Object) (p n o s : Bool) → same_object h (symbol "PEQUAL*") ≡ p → same_object h (symbol "PNOT*") ≡ n → same_object h (symbol "POR*") ≡ o → same_object z NIL ≡ s → (x y u : Object) (i j : Bool) → x ≡ truth_of (s && i) → y ≡ NIL → u ≡ truth_of (s && j) → by_head p n o x y u ≡ truth_of (cond s (cond p i (o && j)) false)
  by_head-three h a b z true n o true hp hn ho hs x y u i j ex ey eu = ex
  by_head-three h a b z true n o false hp hn ho hs x y u i j ex ey eu = ex
  by_head-three h a b z false true o true hp hn ho hs x y u i j ex ey eu = ey ∙ ap (λ t. truth_of (t && j)) (sym (sym ho ∙ same_object-apart h (named "PNOT*") (named "POR*") refl hn))
  by_head-three h a b z false true o false hp hn ho hs x y u i j ex ey eu = ey
  by_head-three h a b z false false true true hp hn ho hs x y u i j ex ey eu = eu
  by_head-three h a b z false false true false hp hn ho hs x y u i j ex ey eu = eu
  by_head-three h a b z false false false true hp hn ho hs x y u i j ex ey eu = refl
  by_head-three h a b z false false false false hp hn ho hs x y u i j ex ey eu = refl

  passes-cond : (s p o : Bool) (u v : Option Formula) → cond s (cond p (passes (is_formula A) u) (o && passes (is_formula A) v)) false ≡ passes (is_formula A) (when s (cond p u (when o v)))
  passes-cond true true o u v = refl
  passes-cond true false true u v = refl
  passes-cond true false false u v = refl
  passes-cond false p o u v = refl

  by_head-nil : (p n o : Bool) (x y u : Object) → x ≡ NIL → y ≡ NIL → u ≡ NIL → by_head p n o x y u ≡ NIL
  by_head-nil true n o x y u ex ey eu = ex
  by_head-nil false true o x y u ex ey eu = ey
  by_head-nil false false true x y u ex ey eu = eu
  by_head-nil false false false x y u ex ey eu = refl

  by_head-two : (h : Object) (p n o s : Bool) → same_object h (symbol "PEQUAL*") ≡ p → same_object h (symbol "PNOT*") ≡ n → (x y u : Object) (g : Option Formula) → x ≡ NIL → y ≡ truth_of (s && passes (is_formula A) g) → u ≡ NIL → by_head p n o x y u ≡ truth_of (passes (is_formula A) (when (s && n) (option_map Not g)))
  by_head-two h true true o s hp hn x y u g ex ey eu = absurd (both_ways (same_object h (symbol "PEQUAL*")) (same_object-apart h (named "PNOT*") (named "PEQUAL*") refl hn) hp)
  by_head-two h true false o s hp hn x y u g ex ey eu = ex ∙ ap truth_of (sym (ap (λ t. passes (is_formula A) (when t (option_map Not g))) (and_false s)))
  by_head-two h false true o true hp hn x y u g ex ey eu = ey ∙ ap truth_of (not_of-test g)
  by_head-two h false true o false hp hn x y u g ex ey eu = ey
  by_head-two h false false true s hp hn x y u g ex ey eu = eu ∙ ap truth_of (sym (ap (λ t. passes (is_formula A) (when t (option_map Not g))) (and_false s)))
  by_head-two h false false false s hp hn x y u g ex ey eu = ap truth_of (sym (ap (λ t. passes (is_formula A) (when t (option_map Not g))) (and_false s)))

  choose-lenp : (x : Object) (n : ℕ) (v : Object) → has_length x n ≡ false → choose (answer P "LOGIC.LENP" (x ∷ Natural n ∷ [])) v NIL ≡ NIL
  choose-lenp x n v h = choose-nil (answer P "LOGIC.LENP" (x ∷ Natural n ∷ [])) v (lenp-answer P x n ∙ ap truth_of h)

  formula_answer-test : (x : Object) → formula_answer x ≡ truth_of (reads_formula A x)
  formula_answer-test (Natural n) = answer-body P "LOGIC.FORMULAP" (Natural n ∷ table_object A ∷ [])
  formula_answer-test (Symbol n) = answer-body P "LOGIC.FORMULAP" (Symbol n ∷ table_object A ∷ [])
  formula_answer-test (Pair h (Natural n)) = answer-body P "LOGIC.FORMULAP" (Pair h (Natural n) ∷ table_object A ∷ []) ∙ by_head-nil (same_object h (symbol "PEQUAL*")) (same_object h (symbol "PNOT*")) (same_object h (symbol "POR*")) _ _ _ (choose-lenp (Pair h (Natural n)) 3 _ refl) (choose-lenp (Pair h (Natural n)) 2 _ refl) (choose-lenp (Pair h (Natural n)) 3 _ refl)
  formula_answer-test (Pair h (Symbol n)) = answer-body P "LOGIC.FORMULAP" (Pair h (Symbol n) ∷ table_object A ∷ []) ∙ by_head-nil (same_object h (symbol "PEQUAL*")) (same_object h (symbol "PNOT*")) (same_object h (symbol "POR*")) _ _ _ (choose-lenp (Pair h (Symbol n)) 3 _ (and_false (same_name n nil_name))) (choose-lenp (Pair h (Symbol n)) 2 _ (and_false (same_name n nil_name))) (choose-lenp (Pair h (Symbol n)) 3 _ (and_false (same_name n nil_name)))
  formula_answer-test (Pair h (Pair a (Natural n))) = answer-body P "LOGIC.FORMULAP" (Pair h (Pair a (Natural n)) ∷ table_object A ∷ []) ∙ by_head-nil (same_object h (symbol "PEQUAL*")) (same_object h (symbol "PNOT*")) (same_object h (symbol "POR*")) _ _ _ (choose-lenp (Pair h (Pair a (Natural n))) 3 _ refl) (choose-lenp (Pair h (Pair a (Natural n))) 2 _ refl) (choose-lenp (Pair h (Pair a (Natural n))) 3 _ refl)
  formula_answer-test (Pair h (Pair a (Symbol s))) =
      answer-body P "LOGIC.FORMULAP" (Pair h (Pair a (Symbol s)) ∷ table_object A ∷ [])
      ∙ by_head-two h (same_object h (symbol "PEQUAL*")) (same_object h (symbol "PNOT*")) (same_object h (symbol "POR*")) (same_name s nil_name) refl refl _ _ _ (formula_of a)
      (choose-lenp (Pair h (Pair a (Symbol s))) 3 _ (and_false (same_name s nil_name)))
      (and_then (same_name s nil_name) (reads_formula A a) (lenp-answer P (Pair h (Pair a (Symbol s))) 2 ∙ ap truth_of (and_true (same_name s nil_name))) (λ _. formula_answer-test a))
      (choose-lenp (Pair h (Pair a (Symbol s))) 3 _ (and_false (same_name s nil_name)))
  formula_answer-test (Pair h (Pair a (Pair b z))) =
      answer-body P "LOGIC.FORMULAP" (Pair h (Pair a (Pair b z)) ∷ table_object A ∷ [])
      ∙ (by_head-three h a b z (same_object h (symbol "PEQUAL*")) (same_object h (symbol "PNOT*")) (same_object h (symbol "POR*")) (same_object z NIL) refl refl refl refl _ _ _ (passes (is_formula A) (map2 Equal (term_of a) (term_of b))) (passes (is_formula A) (map2 Or (formula_of a) (formula_of b)))
      (and_then (same_object z NIL) _ (lenp-answer P (Pair h (Pair a (Pair b z))) 3 ∙ ap truth_of (has_length-three h a b z)) (λ _. and_then (reads_term A a) (reads_term A b) (termp-answer P A three a ∙ ap truth_of (that-present (is_term A) (term_of a))) (λ _. termp-answer P A three b ∙ ap truth_of (that-present (is_term A) (term_of b))) ∙ ap truth_of (equal_of-test (term_of a) (term_of b))))
      (and_then false false (lenp-answer P (Pair h (Pair a (Pair b z))) 2 ∙ ap truth_of (has_length-not_two h a b z)) (λ e. cc))
      (and_then (same_object z NIL) _ (lenp-answer P (Pair h (Pair a (Pair b z))) 3 ∙ ap truth_of (has_length-three h a b z)) (λ _. and_then (reads_formula A a) (reads_formula A b) (formula_answer-test a) (λ _. formula_answer-test b) ∙ ap truth_of (or_of-test (formula_of a) (formula_of b))))
      ∙ ap truth_of (passes-cond (same_object z NIL) (same_object h (symbol "PEQUAL*")) (same_object h (symbol "POR*")) (map2 Equal (term_of a) (term_of b)) (map2 Or (formula_of a) (formula_of b))))

  pub formulap-answer : (x : Object) → answer P "LOGIC.FORMULAP" (x ∷ table_object A ∷ []) ≡ truth_of (is_formula_object A x)
  formulap-answer x = formula_answer-test x ∙ ap truth_of (sym (that-present (is_formula A) (formula_of x)))
