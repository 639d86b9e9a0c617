-- The reference checker's functional equality is the rule's, under a table whose names are function names.
use Rattle.std.proofs.Common.{◌≡◌, Bool, true, false, ◌&&◌, cond, [], ◌∷◌, refl, sym, ap, ap₂, ◌∙◌, ℕ, Some}
use Rattle.std.proofs.lemmas.Bool.{and_parts}
use Rattle.mw_model.specs.Terms.Object.{Name, Object, Pair, named, symbol, same_name, same_object, NIL, T, car, cdr, second_of, third_of, truth_of}
use Rattle.mw_model.specs.Terms.Term.{Term, Terms, Variable, Constant, If, Call, Lambda, NoTerms, More, Formula, Equal, Not, Or, term_object, terms_object, formula_object, count, ArityTable, arity_of, is_function_name, is_term, is_formula, IsFormula}
use Rattle.mw_model.specs.Values.Primitive.{Profile, is_pair, is_symbol}
use Rattle.mw_model.specs.Proofs.Proof.{three_terms}
use Rattle.mw_model.specs.Proofs.Judgment.{last_disjunct, is_functional_equality}
use Rattle.mw_model.specs.Laws.Rules.{is_equal_object, or_object, not_object, unless_equal_object, object_ends_with_equality}
use Rattle.mw_model.proofs.Names.{same_name-eq}
use Rattle.mw_model.proofs.Formed.{Formed, formed}
use Rattle.mw_model.proofs.Readable.{not_quote, not_if}
use Rattle.mw_model.proofs.EqualityExact.{last_disjunct_object-is, object_is_functional_equality-exact}
use Rattle.mw_model.proofs.BuiltInAnswers.{answer, answer-body}
use Rattle.mw_reflect.proofs.ListAnswers.{pequal-answer, pnot-answer, por-answer}

module _ (P : Profile) where
  last_disjunct-answer : (F : Formula) → answer P "LOGIC.LAST-DISJUNCT" (formula_object F ∷ []) ≡ formula_object (last_disjunct F)
  last_disjunct-answer (Equal a b) = answer-body P "LOGIC.LAST-DISJUNCT" (formula_object (Equal a b) ∷ [])
  last_disjunct-answer (Not F) = answer-body P "LOGIC.LAST-DISJUNCT" (formula_object (Not F) ∷ [])
  last_disjunct-answer (Or F G) = answer-body P "LOGIC.LAST-DISJUNCT" (formula_object (Or F G) ∷ []) ∙ last_disjunct-answer G

  unless_equal-answer : (ts us : Terms) (e : Object) → count ts ≡ count us → answer P "LOGIC.FEQ" (terms_object ts ∷ terms_object us ∷ e ∷ []) ≡ unless_equal_object (terms_object ts) (terms_object us) e
  unless_equal-answer NoTerms us e h = answer-body P "LOGIC.FEQ" (NIL ∷ terms_object us ∷ e ∷ [])
  unless_equal-answer (More t ts) NoTerms e h = absurd (cc h)
  unless_equal-answer (More t ts) (More u us) e h =
      answer-body P "LOGIC.FEQ" (terms_object (More t ts) ∷ terms_object (More u us) ∷ e ∷ [])
      ∙ (por-answer P _ _ ∙ ap₂ or_object (pnot-answer P _ ∙ ap not_object (pequal-answer P (term_object t) (term_object u))) (unless_equal-answer ts us e (cc h)))

  -- the last disjunct e is an equality of two calls of one name
  abbrev equality_by : Object → Object → Object
  equality_by c e =
      cond (same_object (truth_of (is_equal_object e)) NIL) NIL
      (cond (same_object (truth_of (is_pair (second_of e))) NIL) NIL
      (cond (same_object (truth_of (is_pair (third_of e))) NIL) NIL
      (cond (same_object (truth_of (is_symbol (car (second_of e)))) NIL) NIL
      (cond (same_object (cond (same_object (truth_of (same_object (car (second_of e)) (symbol "QUOTE"))) NIL) T NIL) NIL) NIL
      (cond (same_object (truth_of (same_object (car (second_of e)) (car (third_of e)))) NIL) NIL
      (truth_of (same_object c (answer P "LOGIC.FEQ" (cdr (second_of e) ∷ cdr (third_of e) ∷ e ∷ [])))))))))

  equality-body : (c : Object) → answer P "LOGIC.FUNCTIONAL-EQUALITY-OKP" (c ∷ []) ≡ equality_by c (answer P "LOGIC.LAST-DISJUNCT" (c ∷ []))
  equality-body c = answer-body P "LOGIC.FUNCTIONAL-EQUALITY-OKP" (c ∷ [])

  module _ (A : ArityTable) (names : (f : Name) (n : ℕ) → arity_of A f ≡ Some n → is_function_name f ≡ true) (c : Object) where
    -- heads f and g, of which f is not QUOTE
    heads : (f g : Name) (ts us e : Object) → same_name f (named "QUOTE") ≡ false → is_function_name f ≡ true → (same_name f g ≡ true → answer P "LOGIC.FEQ" (ts ∷ us ∷ e ∷ []) ≡ unless_equal_object ts us e) → cond (same_object (cond (same_object (truth_of (same_name f (named "QUOTE"))) NIL) T NIL) NIL) NIL (cond (same_object (truth_of (same_name f g)) NIL) NIL (truth_of (same_object c (answer P "LOGIC.FEQ" (ts ∷ us ∷ e ∷ []))))) ≡ truth_of ((is_function_name f && same_name f g) && same_object c (unless_equal_object ts us e))
    heads f g ts us e q n h =
        ap (λ a. cond (same_object (cond (same_object (truth_of a) NIL) T NIL) NIL) NIL (cond (same_object (truth_of (same_name f g)) NIL) NIL (truth_of (same_object c (answer P "LOGIC.FEQ" (ts ∷ us ∷ e ∷ [])))))) q
        ∙ go (is_function_name f) (same_name f g) n h
      where
        go : (a b : Bool) → a ≡ true → (b ≡ true → answer P "LOGIC.FEQ" (ts ∷ us ∷ e ∷ []) ≡ unless_equal_object ts us e) → cond (same_object (truth_of b) NIL) NIL (truth_of (same_object c (answer P "LOGIC.FEQ" (ts ∷ us ∷ e ∷ [])))) ≡ truth_of ((a && b) && same_object c (unless_equal_object ts us e))
        go true true n h = ap (λ v. truth_of (same_object c v)) (h refl)
        go true false n h = refl
        go false b n h = cc

    no_head : (b : Bool) → cond (same_object (cond (same_object (truth_of b) NIL) T NIL) NIL) NIL NIL ≡ NIL
    no_head true = refl
    no_head false = refl

    at : (l r : Term) → Formed A l → Formed A r → equality_by c (formula_object (Equal l r)) ≡ truth_of (object_ends_with_equality c (formula_object (Equal l r)))
    at (Variable x) r i j = refl
    at (Lambda xs b ts) (Variable y) i j = refl
    at (Lambda xs b ts) (Constant d) i j = refl
    at (Lambda xs b ts) (If a d e) i j = refl
    at (Lambda xs b ts) (Call f us) i j = refl
    at (Lambda xs b ts) (Lambda ys d us) i j = refl
    at (Constant k) (Variable y) i j = refl
    at (Constant k) (Constant d) i j = refl
    at (Constant k) (If a d e) i j = refl
    at (Constant k) (Call f us) i j = refl
    at (Constant k) (Lambda ys d us) i j = refl
    at (If a b d) (Variable y) i j = refl
    at (If a b d) (Constant k) i j = refl
    at (If a b d) (If a' b' d') i j = ap (λ v. truth_of (same_object c v)) (unless_equal-answer (three_terms a b d) (three_terms a' b' d') (formula_object (Equal (If a b d) (If a' b' d'))) refl)
    at (If a b d) (Call g us) i j = heads (named "IF") g (terms_object (three_terms a b d)) (terms_object us) (formula_object (Equal (If a b d) (Call g us))) refl refl (λ h. absurd (cc (not_if g j.0, ap (λ z. same_name z (named "IF")) (sym (same_name-eq (named "IF") g h)))))
    at (If a b d) (Lambda ys k us) i j = refl
    at (Call f ts) (Variable y) i j = refl
    at (Call f ts) (Constant k) i j = heads f (named "QUOTE") (terms_object ts) (Pair k NIL) (formula_object (Equal (Call f ts) (Constant k))) (not_quote f i.0) (names f (count ts) i.1) (λ h. absurd (cc (h, not_quote f i.0)))
    at (Call f ts) (If a b d) i j = heads f (named "IF") (terms_object ts) (terms_object (three_terms a b d)) (formula_object (Equal (Call f ts) (If a b d))) (not_quote f i.0) (names f (count ts) i.1) (λ h. absurd (cc (h, not_if f i.0)))
    at (Call f ts) (Call g us) i j = heads f g (terms_object ts) (terms_object us) (formula_object (Equal (Call f ts) (Call g us))) (not_quote f i.0) (names f (count ts) i.1) (λ h. unless_equal-answer ts us (formula_object (Equal (Call f ts) (Call g us))) (same_counts h))
      where
        same_counts : same_name f g ≡ true → count ts ≡ count us
        same_counts h = let e = same_name-eq f g h in cc (i.1, j.1, ap (arity_of A) e)
    at (Call f ts) (Lambda ys k us) i j = no_head (same_name f (named "QUOTE"))

    at_last : (F : Formula) → IsFormula A F → equality_by c (formula_object (last_disjunct F)) ≡ truth_of (object_ends_with_equality c (formula_object (last_disjunct F)))
    at_last (Equal l r) i = let p = and_parts (is_term A l) (is_term A r) i in at l r (formed A l p.0) (formed A r p.1)
    at_last (Not F) i = refl
    at_last (Or F G) i = at_last G (and_parts (is_formula A F) (is_formula A G) i).1

  pub functional_equality-answer : (A : ArityTable) → ((f : Name) (n : ℕ) → arity_of A f ≡ Some n → is_function_name f ≡ true) → (F : Formula) → IsFormula A F → answer P "LOGIC.FUNCTIONAL-EQUALITY-OKP" (formula_object F ∷ []) ≡ truth_of (is_functional_equality F (last_disjunct F))
  functional_equality-answer A names F i =
      equality-body (formula_object F)
      ∙ (ap (equality_by (formula_object F)) (last_disjunct-answer F)
      ∙ (at_last A names (formula_object F) F i
      ∙ ap truth_of (ap (object_ends_with_equality (formula_object F)) (sym (last_disjunct_object-is F)) ∙ object_is_functional_equality-exact A F i)))
