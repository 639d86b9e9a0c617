-- The reference checker's base evaluation is the rule's, in each profile.
use Rattle.std.proofs.Common.{◌≡◌, Bool, true, false, ◌&&◌, ◌||◌, cond, List, [], ◌∷◌, Option, Some, None, refl, sym, ap, ap₂, ◌∙◌, subst, is_some}
use Rattle.mw_model.specs.Terms.Object.{Name, Object, Natural, Symbol, Pair, named, symbol, same_name, same_object, NIL, car, cdr, second_of, third_of, truth_of, list2, has_members, is_member}
use Rattle.mw_model.specs.Terms.Term.{Term, Variable, Constant, If, Call, Lambda, Formula, Equal, Not, Or, term_object, terms_object, formula_object, names_object, ArityTable, IsFormula}
use Rattle.mw_model.specs.Values.Primitive.{Profile, One, Two, Primitive, Equality, IsPair, Cons, Car, Cdr, IsSymbol, SymbolLess, IsNatural, Less, Plus, Minus, Times, primitive_name, shared_primitives, product, primitive_among, primitive_named, or_product, apply_to, choose, first_value, second_value, is_pair}
use Rattle.mw_model.specs.BuiltIns.BuiltInRules.{product_list, primitive_list}
use Rattle.mw_model.specs.Proofs.Proof.{three_terms}
use Rattle.mw_model.specs.Proofs.Judgment.{is_base_eval}
use Rattle.mw_model.specs.Laws.Rules.{is_constant_object, are_constant_objects, unquoted, third_value, value_by, primitive_value, is_that_value, is_call_with_value}
use Rattle.mw_model.proofs.Names.{same_name-eq}
use Rattle.mw_model.proofs.Readable.{formula_readable}
use Rattle.mw_model.proofs.BaseEvalExact.{object_is_base_eval-exact}
use Rattle.mw_model.proofs.BuiltInAnswers.{answer, answer-body}
use Rattle.mw_reflect.proofs.TestValues.{and_false, has_length-members, same_name-swap}
use Rattle.mw_reflect.proofs.ListAnswers.{and_then, has_length, memberp-answer, lenp-answer}
use Rattle.mw_reflect.proofs.SubstituteAnswers.{same_object-swap}

values_object : List Object → Object
values_object [] = NIL
values_object (v ∷ vs) = Pair v (values_object vs)

module _ (P : Profile) where
  -- constants
  constantp-answer-constant : (x : Object) → answer P "LOGIC.CONSTANTP" (x ∷ []) ≡ truth_of (is_constant_object x)
  constantp-answer-constant (Natural n) = answer-body P "LOGIC.CONSTANTP" (Natural n ∷ [])
  constantp-answer-constant (Symbol s) = answer-body P "LOGIC.CONSTANTP" (Symbol s ∷ [])
  constantp-answer-constant (Pair h r) =
      answer-body P "LOGIC.CONSTANTP" (Pair h r ∷ [])
      ∙ (and_then (same_object h (symbol "QUOTE")) _ refl (λ _. lenp-answer P (Pair h r) 2) ∙ ap truth_of (go r))
    where
      members : (r : Object) → (same_object h (symbol "QUOTE") && has_members 2 (Pair h r)) ≡ is_constant_object (Pair h r)
      members (Natural n) = and_false (same_object h (symbol "QUOTE"))
      members (Symbol s) = and_false (same_object h (symbol "QUOTE"))
      members (Pair c (Natural n)) = and_false (same_object h (symbol "QUOTE"))
      members (Pair c (Symbol s)) = refl
      members (Pair c (Pair a b)) = and_false (same_object h (symbol "QUOTE"))

      go : (r : Object) → (same_object h (symbol "QUOTE") && has_length (Pair h r) 2) ≡ is_constant_object (Pair h r)
      go r = ap (λ t. same_object h (symbol "QUOTE") && t) (has_length-members 2 (Pair h r)) ∙ members r

  const_listp-answer : (x : Object) → answer P "LOGIC.CONST-LISTP" (x ∷ []) ≡ truth_of (are_constant_objects x)
  const_listp-answer (Natural n) = answer-body P "LOGIC.CONST-LISTP" (Natural n ∷ [])
  const_listp-answer (Symbol s) = answer-body P "LOGIC.CONST-LISTP" (Symbol s ∷ [])
  const_listp-answer (Pair a r) = answer-body P "LOGIC.CONST-LISTP" (Pair a r ∷ []) ∙ and_then (is_constant_object a) (are_constant_objects r) (constantp-answer-constant a) (λ _. const_listp-answer r)

  unquote_list-answer : (x : Object) → answer P "LOGIC.UNQUOTE-LIST" (x ∷ []) ≡ values_object (unquoted x)
  unfolding values_object
  unquote_list-answer (Natural n) = answer-body P "LOGIC.UNQUOTE-LIST" (Natural n ∷ [])
  unquote_list-answer (Symbol s) = answer-body P "LOGIC.UNQUOTE-LIST" (Symbol s ∷ [])
  unquote_list-answer (Pair a r) = answer-body P "LOGIC.UNQUOTE-LIST" (Pair a r ∷ []) ∙ ap (Pair (second_of a)) (unquote_list-answer r)

first_is : (vs : List Object) → car (values_object vs) ≡ first_value vs
unfolding values_object
first_is [] = refl
first_is (v ∷ vs) = refl

second_is : (vs : List Object) → second_of (values_object vs) ≡ second_value vs
unfolding values_object
second_is [] = refl
second_is (v ∷ vs) = first_is vs

third_is : (vs : List Object) → third_of (values_object vs) ≡ third_value vs
unfolding values_object
third_is [] = refl
third_is (v ∷ vs) = second_is vs

-- the primitives' names
names_of_primitives : List Primitive → Object → Object
names_of_primitives [] rest = rest
names_of_primitives (p ∷ ps) rest = Pair (Symbol (primitive_name p)) (names_of_primitives ps rest)

list_is : (P : Profile) → primitive_list P ≡ Pair (symbol "IF") (names_of_primitives shared_primitives (product_list P))
unfolding names_of_primitives
list_is P = refl

member_primitives : (ps : List Primitive) (rest : Object) (f : Name) → is_member (Symbol f) (names_of_primitives ps rest) ≡ (is_some (primitive_among ps f) || is_member (Symbol f) rest)
unfolding names_of_primitives
member_primitives [] rest f = refl
member_primitives (p ∷ ps) rest f = ap₂ (λ a b. a || b) (same_name-swap f (primitive_name p)) (member_primitives ps rest f) ∙ go (same_name (primitive_name p) f)
  where
    go : (b : Bool) → (b || (is_some (primitive_among ps f) || is_member (Symbol f) rest)) ≡ (is_some (cond b (Some p) (primitive_among ps f)) || is_member (Symbol f) rest)
    go true = refl
    go false = refl

with_product : (P : Profile) (f : Name) (o : Option Primitive) → (is_some o || is_member (Symbol f) (product_list P)) ≡ is_some (or_product P f o)
with_product P f (Some p) = refl
with_product One f None = go (same_name (primitive_name Times) f)
  where
    go : (b : Bool) → false ≡ is_some {T = Primitive} (cond b None None)
    go true = refl
    go false = refl
with_product Two f None = ap (λ b. b || false) (same_name-swap f (primitive_name Times)) ∙ go (same_name (primitive_name Times) f)
  where
    go : (b : Bool) → (b || false) ≡ is_some (cond b (Some Times) None)
    go true = refl
    go false = refl

module _ (P : Profile) where
  primitivep-answer : (x : Object) → answer P "LOGIC.PRIMITIVEP" (x ∷ []) ≡ truth_of (is_member x (primitive_list P))
  primitivep-answer x = answer-body P "LOGIC.PRIMITIVEP" (x ∷ []) ∙ memberp-answer P x (primitive_list P)

  abbrev is_known : Name → Bool
  is_known f = same_name f (named "IF") || is_some (primitive_named P f)

  member_known : (f : Name) → is_member (Symbol f) (primitive_list P) ≡ is_known f
  member_known f = ap (is_member (Symbol f)) (list_is P) ∙ ap (λ b. same_name f (named "IF") || b) (member_primitives shared_primitives (product_list P) f ∙ with_product P f (primitive_among shared_primitives f))

-- the primitive found has that name
among_name : (ps : List Primitive) (f : Name) (p : Primitive) → primitive_among ps f ≡ Some p → primitive_name p ≡ f
among_name [] f p h = cc
among_name (q ∷ ps) f p h = go (same_name (primitive_name q) f) refl h (among_name ps f p)
  where
    go : (b : Bool) → same_name (primitive_name q) f ≡ b → cond b (Some q) (primitive_among ps f) ≡ Some p → (primitive_among ps f ≡ Some p → primitive_name p ≡ f) → primitive_name p ≡ f
    go true e k ih = let r : q ≡ p = cc k in subst (λ z. primitive_name z ≡ f) r (same_name-eq (primitive_name q) f e)
    go false e k ih = ih k

apply_to-answer : (P : Profile) (p : Primitive) (x : Object) → primitive_named P (primitive_name p) ≡ Some p → answer P "LOGIC.APPLY" (Symbol (primitive_name p) ∷ x ∷ []) ≡ apply_to p (car x) (second_of x)
apply_to-answer P Equality x h = answer-body P "LOGIC.APPLY" (Symbol (primitive_name Equality) ∷ x ∷ [])
apply_to-answer P IsPair x h = answer-body P "LOGIC.APPLY" (Symbol (primitive_name IsPair) ∷ x ∷ [])
apply_to-answer P Cons x h = answer-body P "LOGIC.APPLY" (Symbol (primitive_name Cons) ∷ x ∷ [])
apply_to-answer P Car x h = answer-body P "LOGIC.APPLY" (Symbol (primitive_name Car) ∷ x ∷ [])
apply_to-answer P Cdr x h = answer-body P "LOGIC.APPLY" (Symbol (primitive_name Cdr) ∷ x ∷ [])
apply_to-answer P IsSymbol x h = answer-body P "LOGIC.APPLY" (Symbol (primitive_name IsSymbol) ∷ x ∷ [])
apply_to-answer P SymbolLess x h = answer-body P "LOGIC.APPLY" (Symbol (primitive_name SymbolLess) ∷ x ∷ [])
apply_to-answer P IsNatural x h = answer-body P "LOGIC.APPLY" (Symbol (primitive_name IsNatural) ∷ x ∷ [])
apply_to-answer P Less x h = answer-body P "LOGIC.APPLY" (Symbol (primitive_name Less) ∷ x ∷ [])
apply_to-answer P Plus x h = answer-body P "LOGIC.APPLY" (Symbol (primitive_name Plus) ∷ x ∷ [])
apply_to-answer P Minus x h = answer-body P "LOGIC.APPLY" (Symbol (primitive_name Minus) ∷ x ∷ [])
apply_to-answer One Times x h = cc
apply_to-answer Two Times x h = answer-body Two "LOGIC.APPLY" (Symbol (primitive_name Times) ∷ x ∷ [])

apply_if-answer : (P : Profile) (x : Object) → answer P "LOGIC.APPLY" (symbol "IF" ∷ x ∷ []) ≡ choose (car x) (second_of x) (third_of x)
apply_if-answer P x = answer-body P "LOGIC.APPLY" (symbol "IF" ∷ x ∷ [])

module _ (P : Profile) where
  product_name : (f : Name) (p : Primitive) (b : Bool) → same_name (primitive_name Times) f ≡ b → cond b (product P) None ≡ Some p → primitive_name p ≡ f
  product_name f p true e h = go P h
    where
      go : (Q : Profile) → product Q ≡ Some p → primitive_name p ≡ f
      go One h = cc
      go Two h = let r : Times ≡ p = cc h in subst (λ z. primitive_name z ≡ f) r (same_name-eq (primitive_name Times) f e)
  product_name f p false e h = cc

  -- the primitive of a name has that name
  primitive_named-name : (f : Name) (p : Primitive) → primitive_named P f ≡ Some p → primitive_name p ≡ f
  primitive_named-name f p h = go (primitive_among shared_primitives f) refl h
    where
      go : (o : Option Primitive) → primitive_among shared_primitives f ≡ o → or_product P f o ≡ Some p → primitive_name p ≡ f
      go (Some q) e k = among_name shared_primitives f p (e ∙ k)
      go None e k = product_name f p (same_name (primitive_name Times) f) refl k

  -- the value of the call
  apply-answer : (f : Name) (vs : List Object) (i : Bool) (o : Option Primitive) → same_name f (named "IF") ≡ i → primitive_named P f ≡ o → (i || is_some o) ≡ true → (v : Object) → same_object v (answer P "LOGIC.APPLY" (Symbol f ∷ values_object vs ∷ [])) ≡ is_that_value (cond i (Some (choose (first_value vs) (second_value vs) (third_value vs))) (value_by o vs)) v
  apply-answer f vs true o e q k v =
      ap (same_object v) (ap (λ z. answer P "LOGIC.APPLY" (Symbol z ∷ values_object vs ∷ [])) (same_name-eq f (named "IF") e)
      ∙ (apply_if-answer P (values_object vs) ∙ (ap₂ (λ a b. choose a b (third_of (values_object vs))) (first_is vs) (second_is vs) ∙ ap (choose (first_value vs) (second_value vs)) (third_is vs))))
      ∙ same_object-swap v _
  apply-answer f vs false None e q k v = cc
  apply-answer f vs false (Some p) e q k v =
      let n = primitive_named-name f p q in
      ap (same_object v) (ap (λ z. answer P "LOGIC.APPLY" (Symbol z ∷ values_object vs ∷ [])) (sym n) ∙ (apply_to-answer P p (values_object vs) (ap (primitive_named P) n ∙ q) ∙ ap₂ (apply_to p) (first_is vs) (second_is vs)))
      ∙ same_object-swap v _

  no_value : (i : Bool) (o : Option Primitive) (u : Option Object) (vs : List Object) (v : Object) → (i || is_some o) ≡ false → is_that_value (cond i u (value_by o vs)) v ≡ false
  no_value true o u vs v h = cc
  no_value false None u vs v h = refl
  no_value false (Some p) u vs v h = cc

  -- known, constants, a constant, the value: in either order
  four_tests : (p c r v w : Bool) → (p ≡ true → v ≡ w) → (p ≡ false → w ≡ false) → (p && (c && (r && v))) ≡ (r && (c && w))
  four_tests true true true v w h k = h refl
  four_tests true true false v w h k = refl
  four_tests true false true v w h k = refl
  four_tests true false false v w h k = refl
  four_tests false true true v w h k = sym (k refl)
  four_tests false true false v w h k = refl
  four_tests false false true v w h k = refl
  four_tests false false false v w h k = refl

  abbrev with_value : Object → Object → Object
  with_value l r =
      choose (truth_of (is_pair l))
      (choose (answer P "LOGIC.PRIMITIVEP" (car l ∷ []))
      (choose (answer P "LOGIC.CONST-LISTP" (cdr l ∷ []))
      (choose (answer P "LOGIC.CONSTANTP" (r ∷ [])) (truth_of (same_object (second_of r) (answer P "LOGIC.APPLY" (car l ∷ answer P "LOGIC.UNQUOTE-LIST" (cdr l ∷ []) ∷ [])))) NIL) NIL) NIL) NIL

  call-answer : (f : Name) (ts r : Object) → with_value (Pair (Symbol f) ts) r ≡ truth_of (is_constant_object r && is_call_with_value P (Pair (Symbol f) ts) (second_of r))
  call-answer f ts r =
      and_then (is_known P f) _ (primitivep-answer P (Symbol f) ∙ ap truth_of (member_known P f)) (λ _.
      and_then (are_constant_objects ts) _ (const_listp-answer P ts) (λ _. and_then (is_constant_object r) _ (constantp-answer-constant P r) (λ _. ap (λ v. truth_of (same_object (second_of r) (answer P "LOGIC.APPLY" (Symbol f ∷ v ∷ [])))) (unquote_list-answer P ts))))
      ∙ ap truth_of (four_tests (is_known P f) (are_constant_objects ts) (is_constant_object r) (same_object (second_of r) (answer P "LOGIC.APPLY" (Symbol f ∷ values_object (unquoted ts) ∷ []))) (is_that_value (primitive_value P f (unquoted ts)) (second_of r))
      (λ h. apply-answer f (unquoted ts) (same_name f (named "IF")) (primitive_named P f) refl refl h (second_of r))
      (λ h. no_value (same_name f (named "IF")) (primitive_named P f) _ (unquoted ts) (second_of r) h))

  no_member : (a b : Object) (ps : List Primitive) (rest : Object) → is_member (Pair a b) rest ≡ false → is_member (Pair a b) (names_of_primitives ps rest) ≡ false
  unfolding names_of_primitives
  no_member a b [] rest h = h
  no_member a b (p ∷ ps) rest h = no_member a b ps rest h

  no_product : (Q : Profile) (a b : Object) → is_member (Pair a b) (product_list Q) ≡ false
  no_product One a b = refl
  no_product Two a b = refl

  -- a lambda call calls no primitive
  lambda-answer : (a b ts r : Object) → with_value (Pair (Pair a b) ts) r ≡ truth_of (is_constant_object r && false)
  lambda-answer a b ts r =
      ap (λ v. choose v (choose (answer P "LOGIC.CONST-LISTP" (ts ∷ [])) (choose (answer P "LOGIC.CONSTANTP" (r ∷ [])) (truth_of (same_object (second_of r) (answer P "LOGIC.APPLY" (Pair a b ∷ answer P "LOGIC.UNQUOTE-LIST" (ts ∷ []) ∷ [])))) NIL) NIL) NIL)
      (primitivep-answer P (Pair a b) ∙ ap truth_of (ap (is_member (Pair a b)) (list_is P) ∙ no_member a b shared_primitives (product_list P) (no_product P a b)))
      ∙ ap truth_of (sym (and_false (is_constant_object r)))

  base_eval_at : (l r : Term) → with_value (term_object l) (term_object r) ≡ truth_of (is_constant_object (term_object r) && is_call_with_value P (term_object l) (second_of (term_object r)))
  base_eval_at (Variable x) r = ap truth_of (sym (and_false (is_constant_object (term_object r))))
  base_eval_at (Constant c) r = call-answer (named "QUOTE") (Pair c NIL) (term_object r)
  base_eval_at (If a b c) r = call-answer (named "IF") (terms_object (three_terms a b c)) (term_object r)
  base_eval_at (Call f ts) r = call-answer f (terms_object ts) (term_object r)
  base_eval_at (Lambda xs b ts) r = lambda-answer (symbol "LAMBDA") (list2 (names_object xs) (term_object b)) (terms_object ts) (term_object r)

  pub base_eval-answer : (A : ArityTable) (F : Formula) → IsFormula A F → answer P "LOGIC.BASE-EVAL-OKP" (formula_object F ∷ []) ≡ truth_of (is_base_eval P F)
  base_eval-answer A (Not F) i = answer-body P "LOGIC.BASE-EVAL-OKP" (formula_object (Not F) ∷ [])
  base_eval-answer A (Or F G) i = answer-body P "LOGIC.BASE-EVAL-OKP" (formula_object (Or F G) ∷ [])
  base_eval-answer A (Equal l r) i =
      answer-body P "LOGIC.BASE-EVAL-OKP" (formula_object (Equal l r) ∷ [])
      ∙ (base_eval_at l r ∙ ap truth_of (object_is_base_eval-exact P (Equal l r) (formula_readable A (Equal l r) i)))
