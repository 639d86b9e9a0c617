-- The reference checker's substitution is substitution on objects, whatever the objects.
use Rattle.std.proofs.Common.{◌≡◌, Bool, true, false, cond, [], ◌∷◌, refl, sym, ap, ap₂, ◌∙◌}
use Rattle.std.specs.Cmp.{both_ways as same_test}
use Rattle.mw_model.specs.Terms.Object.{Object, Natural, Symbol, Pair, symbol, same_name, same_object, nil_name, NIL, car, cdr, truth_of, list2, list3}
use Rattle.mw_model.specs.Terms.Term.{Formula, Equal, Not, Or, term_object, formula_object}
use Rattle.mw_model.specs.Values.Primitive.{Profile}
use Rattle.mw_model.specs.Laws.Rules.{image_object, substitute_object, substitute_each_object, substitute_formula_object}
use Rattle.mw_model.proofs.Names.{same_object-eq, same_object-from}
use Rattle.mw_model.proofs.BuiltInAnswers.{answer, answer-body}
use Rattle.mw_reflect.proofs.ListAnswers.{pequal-answer, pnot-answer, por-answer}

pub same_object-swap : (a b : Object) → same_object a b ≡ same_object b a
same_object-swap a b =
    same_test (same_object a b) (same_object b a) (λ h. same_object-from b a (sym (same_object-eq a b h))) (λ h. same_object-from a b (sym (same_object-eq b a h)))

-- what LOGIC.FLAG-SUBSTITUTE makes of what LOGIC.LOOKUP found
abbrev found_or : Object → Object → Object
found_or x l = cond (same_object l NIL) x (cdr l)

found_pair : (x p : Object) → car p ≡ x → found_or x p ≡ cdr p
found_pair x (Natural n) e = refl
found_pair x (Pair a b) e = refl
found_pair x (Symbol s) e = go (same_name s nil_name)
  where
    go : (b : Bool) → cond b x NIL ≡ NIL
    go true = sym e
    go false = refl

module _ (P : Profile) where
  image : (s x : Object) → found_or x (answer P "LOGIC.LOOKUP" (x ∷ s ∷ [])) ≡ image_object s x
  image (Natural n) x = ap (found_or x) (answer-body P "LOGIC.LOOKUP" (x ∷ Natural n ∷ []))
  image (Symbol n) x = ap (found_or x) (answer-body P "LOGIC.LOOKUP" (x ∷ Symbol n ∷ []))
  image (Pair p s) x =
      ap (found_or x) (answer-body P "LOGIC.LOOKUP" (x ∷ Pair p s ∷ []) ∙ ap (λ b. cond (same_object (truth_of b) NIL) (answer P "LOGIC.LOOKUP" (x ∷ s ∷ [])) p) (same_object-swap x (car p)))
      ∙ go (same_object (car p) x) refl (image s x)
    where
      go : (b : Bool) → same_object (car p) x ≡ b → found_or x (answer P "LOGIC.LOOKUP" (x ∷ s ∷ [])) ≡ image_object s x → found_or x (cond (same_object (truth_of b) NIL) (answer P "LOGIC.LOOKUP" (x ∷ s ∷ [])) p) ≡ cond b (cdr p) (image_object s x)
      go true e ih = found_pair x p (same_object-eq (car p) x e)
      go false e ih = ih

  abbrev by_flag : Object → Object → Object → Object
  by_flag flag s x = answer P "LOGIC.FLAG-SUBSTITUTE" (flag ∷ x ∷ s ∷ [])

  module _ (s : Object) where
    mutual
      flag_term : (x : Object) → by_flag (symbol "TERM") s x ≡ substitute_object s x
      flag_term (Natural n) = answer-body P "LOGIC.FLAG-SUBSTITUTE" (symbol "TERM" ∷ Natural n ∷ s ∷ []) ∙ image s (Natural n)
      flag_term (Symbol n) = answer-body P "LOGIC.FLAG-SUBSTITUTE" (symbol "TERM" ∷ Symbol n ∷ s ∷ []) ∙ image s (Symbol n)
      flag_term (Pair h r) = answer-body P "LOGIC.FLAG-SUBSTITUTE" (symbol "TERM" ∷ Pair h r ∷ s ∷ []) ∙ go (same_object h (symbol "QUOTE")) (flag_list r)
        where
          go : (b : Bool) → by_flag (symbol "LIST") s r ≡ substitute_each_object s r → cond (same_object (truth_of b) NIL) (Pair h (by_flag (symbol "LIST") s r)) (Pair h r) ≡ cond b (Pair h r) (Pair h (substitute_each_object s r))
          go true e = refl
          go false e = ap (Pair h) e

      flag_list : (x : Object) → by_flag (symbol "LIST") s x ≡ substitute_each_object s x
      flag_list (Natural n) = answer-body P "LOGIC.FLAG-SUBSTITUTE" (symbol "LIST" ∷ Natural n ∷ s ∷ [])
      flag_list (Symbol n) = answer-body P "LOGIC.FLAG-SUBSTITUTE" (symbol "LIST" ∷ Symbol n ∷ s ∷ [])
      flag_list (Pair a r) = answer-body P "LOGIC.FLAG-SUBSTITUTE" (symbol "LIST" ∷ Pair a r ∷ s ∷ []) ∙ ap₂ Pair (flag_term a) (flag_list r)

    pub substitute-answer : (x : Object) → answer P "LOGIC.SUBSTITUTE" (x ∷ s ∷ []) ≡ substitute_object s x
    substitute-answer x = answer-body P "LOGIC.SUBSTITUTE" (x ∷ s ∷ []) ∙ flag_term x

    pub formula_substitute-answer : (F : Formula) → answer P "LOGIC.FORMULA-SUBSTITUTE" (formula_object F ∷ s ∷ []) ≡ substitute_formula_object s (formula_object F)
    formula_substitute-answer (Equal a b) =
        answer-body P "LOGIC.FORMULA-SUBSTITUTE" (formula_object (Equal a b) ∷ s ∷ [])
        ∙ (pequal-answer P _ _ ∙ ap₂ (list3 (symbol "PEQUAL*")) (substitute-answer (term_object a)) (substitute-answer (term_object b)))
    formula_substitute-answer (Not F) =
        answer-body P "LOGIC.FORMULA-SUBSTITUTE" (formula_object (Not F) ∷ s ∷ [])
        ∙ (pnot-answer P _ ∙ ap (list2 (symbol "PNOT*")) (formula_substitute-answer F))
    formula_substitute-answer (Or F G) =
        answer-body P "LOGIC.FORMULA-SUBSTITUTE" (formula_object (Or F G) ∷ s ∷ [])
        ∙ (por-answer P _ _ ∙ ap₂ (list3 (symbol "POR*")) (formula_substitute-answer F) (formula_substitute-answer G))
