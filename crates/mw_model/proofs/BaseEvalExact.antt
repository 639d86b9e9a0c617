-- Base evaluation: the test on objects of formulas is the test on formulas, in each profile.
use Rattle.std.proofs.Common.{◌≡◌, Bool, true, false, ◌&&◌, cond, List, ◌∷◌, Option, Some, None, refl, sym, ap, ap₂, ◌∙◌}
use Rattle.mw_model.specs.Terms.Object.{Name, Object, Pair, named, same_name, same_object, second_of, NIL}
use Rattle.mw_model.specs.Terms.Term.{Term, Terms, Variable, Constant, If, Call, Lambda, NoTerms, More, Formula, Equal, Not, Or, term_object, terms_object, formula_object}
use Rattle.mw_model.specs.Values.Primitive.{Profile, Primitive, primitive_named, choose, first_value, second_value}
use Rattle.mw_model.specs.Terms.Reading.{and_more}
use Rattle.mw_model.specs.Proofs.Judgment.{constant_values, is_value, is_base_eval}
use Rattle.mw_model.specs.Laws.Rules.{is_constant_object, are_constant_objects, unquoted, third_value, value_by, primitive_value, is_that_value, is_call_with_value, object_is_base_eval}
use Rattle.mw_model.proofs.Readable.{Readable, AreReadable, ReadableFormula, not_quote, not_if}

abbrev pub is_constant : Term → Bool
is_constant (Constant c) = true
is_constant _ = false

pub is_constant_object-is : (t : Term) → Readable t → is_constant_object (term_object t) ≡ is_constant t
is_constant_object-is (Variable x) i = refl
is_constant_object-is (Constant c) i = refl
is_constant_object-is (If a b c) i = refl
is_constant_object-is (Call f NoTerms) i = refl
is_constant_object-is (Call f (More t NoTerms)) i = ap (λ b. b && true) (not_quote f i.0)
is_constant_object-is (Call f (More t (More u ts))) i = refl
is_constant_object-is (Lambda xs b NoTerms) i = refl
is_constant_object-is (Lambda xs b (More t NoTerms)) i = refl
is_constant_object-is (Lambda xs b (More t (More u ts))) i = refl

-- the values of constants, where all are
constant_values-are : (ts : Terms) → AreReadable ts → constant_values ts ≡ cond (are_constant_objects (terms_object ts)) (Some (unquoted (terms_object ts))) None
constant_values-are NoTerms i = refl
constant_values-are (More (Constant c) ts) i = ap (and_more (Some c)) (constant_values-are ts i.1) ∙ go (are_constant_objects (terms_object ts))
  where
    go : (b : Bool) → and_more (Some c) (cond b (Some (unquoted (terms_object ts))) None) ≡ cond b (Some (c ∷ unquoted (terms_object ts))) None
    go true = refl
    go false = refl
constant_values-are (More (Variable x) ts) i = refl
constant_values-are (More (If a b c) ts) i = refl
constant_values-are (More (Call f us) ts) i = ap (λ b. cond (b && are_constant_objects (terms_object ts)) (Some (unquoted (terms_object (More (Call f us) ts)))) None) (sym (is_constant_object-is (Call f us) i.0))
constant_values-are (More (Lambda xs b us) ts) i = ap (λ p. cond (p && are_constant_objects (terms_object ts)) (Some (unquoted (terms_object (More (Lambda xs b us) ts)))) None) (sym (is_constant_object-is (Lambda xs b us) i.0))

by_value : (o : Option Primitive) (b : Bool) (vs : List Object) (v : Object) → (b && is_that_value (value_by o vs) v) ≡ is_value o (cond b (Some vs) None) v
by_value None true vs v = refl
by_value None false vs v = refl
by_value (Some p) true vs v = refl
by_value (Some p) false vs v = refl

and_false : (b : Bool) → (b && false) ≡ false
and_false true = refl
and_false false = refl

module _ (P : Profile) where
  value_of_call : (f : Name) (vs : List Object) → same_name f (named "IF") ≡ false → primitive_value P f vs ≡ value_by (primitive_named P f) vs
  value_of_call f vs h = ap (λ b. cond b (Some (choose (first_value vs) (second_value vs) (third_value vs))) (value_by (primitive_named P f) vs)) h

  -- IF by its three arguments
  if_by_parts : (a b c : Term) (v : Object) → is_base_eval P (Equal (If a b c) (Constant v)) ≡ (is_constant a && (is_constant b && (is_constant c && same_object (choose (second_of (term_object a)) (second_of (term_object b)) (second_of (term_object c))) v)))
  if_by_parts (Constant a) (Constant b) (Constant c) v = refl
  if_by_parts _ _ _ v = refl

  and_three : (a b c d : Bool) → ((a && (b && (c && true))) && d) ≡ (a && (b && (c && d)))
  and_three false b c d = refl
  and_three true false c d = refl
  and_three true true false d = refl
  and_three true true true d = refl

  call_with_value : (l : Term) (v : Object) → Readable l → is_call_with_value P (term_object l) v ≡ is_base_eval P (Equal l (Constant v))
  call_with_value (Variable x) v i = refl
  call_with_value (Constant c) v i = and_false (are_constant_objects (Pair c NIL))
  call_with_value (Lambda xs b ts) v i = refl
  call_with_value (Call f ts) v i =
      ap (λ o. are_constant_objects (terms_object ts) && is_that_value o v) (value_of_call f (unquoted (terms_object ts)) (not_if f i.0))
      ∙ (by_value (primitive_named P f) (are_constant_objects (terms_object ts)) (unquoted (terms_object ts)) v
      ∙ ap (λ o. is_value (primitive_named P f) o v) (sym (constant_values-are ts i.1)))
  call_with_value (If a b c) v i =
      let x = is_constant_object-is a i.0 in
      let y = is_constant_object-is b i.1 in
      let z = is_constant_object-is c i.2 in
      let d = same_object (choose (second_of (term_object a)) (second_of (term_object b)) (second_of (term_object c))) v in
      and_three (is_constant_object (term_object a)) (is_constant_object (term_object b)) (is_constant_object (term_object c)) d
      ∙ (ap₂ (λ p q. p && q) x (ap₂ (λ p q. p && q) y (ap (λ p. p && d) z)) ∙ sym (if_by_parts a b c v))

  -- the right side of an equation is a constant
  right_side : (l r : Term) → is_constant r ≡ false → is_base_eval P (Equal l r) ≡ false
  right_side l (Constant v) h = cc
  right_side (Variable x) _ h = refl
  right_side (Constant c) _ h = refl
  right_side (If (Constant a) (Constant b) (Constant c)) _ h = refl
  right_side (If _ _ _) _ h = refl
  right_side (Call f ts) _ h = refl
  right_side (Lambda xs b ts) _ h = refl

  pub object_is_base_eval-exact : (F : Formula) → ReadableFormula F → object_is_base_eval P (formula_object F) ≡ is_base_eval P F
  object_is_base_eval-exact (Not F) i = refl
  object_is_base_eval-exact (Or F G) i = refl
  object_is_base_eval-exact (Equal l (Constant v)) i = call_with_value l v i.0
  object_is_base_eval-exact (Equal l r) i = ap (λ b. b && is_call_with_value P (term_object l) (second_of (term_object r))) (is_constant_object-is r i.1) ∙ go (is_constant r) refl
    where
      go : (b : Bool) → is_constant r ≡ b → (b && is_call_with_value P (term_object l) (second_of (term_object r))) ≡ is_base_eval P (Equal l r)
      go true h = cc
      go false h = sym (right_side l r h)
