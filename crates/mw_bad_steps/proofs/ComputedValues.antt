-- The values of calls at constants, and reduced calls.
use Rattle.std.proofs.Common.{◌≡◌, ℕ, Bool, true, false, ◌&&◌, ◌||◌, cond, List, [], ◌∷◌, Option, Some, None, take, refl, sym, ap, ap₂, ◌∙◌, subst, option_map}
use Rattle.std.proofs.lemmas.Bool.{and_parts}
use Rattle.mw_model.specs.Terms.Object.{Name, Object, Natural, Symbol, Pair, named, symbol, same_name, same_object, car, cdr, second_of, third_of, list2, list3}
use Rattle.mw_model.specs.Terms.Term.{Term, Terms, Variable, Constant, If, Call, Lambda, NoTerms, More, Formula, Equal, Not, Or, ArityTable, IsTerm, IsFormula, term_object, terms_object, formula_object}
use Rattle.mw_model.specs.Terms.Reading.{map2, and_more}
use Rattle.mw_model.specs.Terms.Substitution.{Substitution, substitute_formula, substitution_of, actuals_for, is_substitution}
use Rattle.mw_model.specs.Values.Primitive.{Profile, Primitive, Equality, IsPair, Cons, Car, Cdr, IsSymbol, SymbolLess, IsNatural, Less, Plus, Minus, Times, primitive_named, apply, choose, first_value, second_value, is_pair, is_symbol, name_of}
use Rattle.mw_model.specs.Events.Fate.{is_out_of_range}
use Rattle.mw_model.specs.Laws.Rules.{equal_object, beta_object, is_constant_object, are_constant_objects, unquoted, is_substitution_object, substitute_object, substitute_formula_object}
use Rattle.mw_model.specs.Proofs.Judgment.{constant_values}
use Rattle.mw_model.proofs.Names.{same_object-from}
use Rattle.mw_model.proofs.SameObject.{same_object-swap}
use Rattle.mw_model.proofs.Formed.{formed}
use Rattle.mw_model.proofs.Readable.{Readable, AreReadable, term_readable, formula_readable, not_if}
use Rattle.mw_model.proofs.BaseEvalExact.{is_constant, is_constant_object-is}
use Rattle.mw_model.proofs.SubstituteObject.{substitute_object-is, substitute_formula_object-is, actuals_object-is}
use Rattle.mw_model.proofs.Follows.{substitution_back}
use Rattle.mw_model.proofs.RulesExact.{passes, is_substitution_object-is}
use Rattle.mw_subst.proofs.CallerLemmas.{substitute_object-formula}
use Rattle.mw_heap.specs.declared.vocabulary.primitive.Primitive.{Primitive as Word}
use Rattle.mw_heap.specs.declared.vocabulary.primitive.Primitive.TheVariants as word
use Rattle.mw_heap.specs.PrimitiveNames.{word_of, word_named}
use Rattle.mw_heap.specs.Variants.{primitive_of}
use Rattle.mw_heap.specs.Objects.{object_at, IsIn}
use Rattle.mw_base.specs.Answers.{arity, value_by, value_of, overflows}
use Rattle.mw_bad_steps.specs.Candidates.{IsCandidate, IsValue, beta_of, value_of_call, computed_of}
use Rattle.mw_bad_steps.proofs.EqualCalls.{equation_terms}

-- ---- the first arguments are enough

pub enough : (w : Word) (a b c : Object) → value_of w (take (arity w) (a ∷ b ∷ c ∷ [])) ≡ value_of w (a ∷ b ∷ c ∷ [])
enough word.If a b c = refl
enough word.Equal a b c = refl
enough word.Consp a b c = refl
enough word.Cons a b c = refl
enough word.Car a b c = refl
enough word.Cdr a b c = refl
enough word.Symbolp a b c = refl
enough word.SymbolLess a b c = refl
enough word.Natp a b c = refl
enough word.Less a b c = refl
enough word.Plus a b c = refl
enough word.Minus a b c = refl
enough word.Times a b c = refl

pub past : (w : Word) (a b c : Object) → overflows w (take (arity w) (a ∷ b ∷ c ∷ [])) ≡ true → is_out_of_range (value_of w (a ∷ b ∷ c ∷ [])) ≡ true
past word.Plus a b c h = h
past word.Times a b c h = h
past _ a b c h = cc

-- ---- constants

constants_read : (ts : Terms) → AreReadable ts → are_constant_objects (terms_object ts) ≡ true → constant_values ts ≡ Some (unquoted (terms_object ts))
constants_read NoTerms i h = refl
constants_read (More (Constant c) ts) i h = ap (and_more (Some c)) (constants_read ts i.1 h)
constants_read (More (Variable x) ts) i h = cc
constants_read (More (If a b c) ts) i h = cc
constants_read (More (Call f us) ts) i h =
    let p = and_parts (is_constant_object (term_object (Call f us))) (are_constant_objects (terms_object ts)) h in
    let k = is_constant_object-is (Call f us) i.0 in
    absurd (cc (k, p.0))
constants_read (More (Lambda xs b us) ts) i h =
    let p = and_parts (is_constant_object (term_object (Lambda xs b us))) (are_constant_objects (terms_object ts)) h in
    let k = is_constant_object-is (Lambda xs b us) i.0 in
    absurd (cc (k, p.0))

no_constants : (ts : Terms) → are_constant_objects (terms_object ts) ≡ false → constant_values ts ≡ None
no_constants NoTerms h = cc
no_constants (More (Constant c) ts) h = ap (and_more (Some c)) (no_constants ts h)
no_constants (More (Variable x) ts) h = refl
no_constants (More (If a b c) ts) h = refl
no_constants (More (Call f us) ts) h = refl
no_constants (More (Lambda xs b us) ts) h = refl

first_unquoted : (x : Object) → first_value (unquoted x) ≡ second_of (car x)
first_unquoted (Natural n) = refl
first_unquoted (Symbol s) = refl
first_unquoted (Pair a r) = refl

second_unquoted : (x : Object) → second_value (unquoted x) ≡ second_of (second_of x)
second_unquoted (Natural n) = refl
second_unquoted (Symbol s) = refl
second_unquoted (Pair a r) = first_unquoted r

primitive_back : (p : Primitive) → primitive_of (word_of p) ≡ Some p
primitive_back Equality = refl
primitive_back IsPair = refl
primitive_back Cons = refl
primitive_back Car = refl
primitive_back Cdr = refl
primitive_back IsSymbol = refl
primitive_back SymbolLess = refl
primitive_back IsNatural = refl
primitive_back Less = refl
primitive_back Plus = refl
primitive_back Minus = refl
primitive_back Times = refl

-- the word of a call's name, and the primitive
found_back : (o : Option Primitive) (w : Word) → option_map word_of o ≡ Some w → (p : Primitive) × (o ≡ Some p) × (w ≡ word_of p)
found_back None w h = cc
found_back (Some p) w h = (p, refl, cc)

none_back : (o : Option Primitive) → option_map word_of o ≡ None → o ≡ None
none_back None h = refl
none_back (Some p) h = cc

module _ (P : Profile) where
  not_the_word : (f : Name) → same_name f (named "IF") ≡ false → word_named P f ≡ option_map word_of (primitive_named P f)
  not_the_word f h = ap (λ t. cond t (Some word.If) (option_map word_of (primitive_named P f))) (same_object-swap (symbol "IF") (Symbol f) ∙ h)

  value_at_call : (f : Name) (ts : Terms) (w : Word) → AreReadable ts → same_name f (named "IF") ≡ false → word_named P f ≡ Some w → are_constant_objects (terms_object ts) ≡ true → value_of_call P (Call f ts) ≡ Some (value_of w (second_of (car (terms_object ts)) ∷ second_of (second_of (terms_object ts)) ∷ second_of (third_of (terms_object ts)) ∷ []))
  value_at_call f ts w i n e h =
      let p = found_back (primitive_named P f) w (sym (not_the_word f n) ∙ e) in
      let x = terms_object ts in
      let args = second_of (car x) ∷ second_of (second_of x) ∷ second_of (third_of x) ∷ [] in
      ap₂ (map2 apply) p.1 (constants_read ts i h)
      ∙ ap Some
      (ap₂ (λ a b. apply p.0 (a ∷ b ∷ [])) (first_unquoted x) (second_unquoted x)
      ∙ (sym (ap (λ o. value_by o args) (primitive_back p.0)) ∙ ap (λ v. value_of v args) (sym p.2)))

  -- what is found for a term in a heap
  module _ (os : List Object) where
    pub no_pair_value : (t : Term) (x : Object) → x ≡ term_object t → is_pair x ≡ false → IsValue os (value_of_call P t) None
    no_pair_value (Variable v) x e h = tt
    no_pair_value (Constant c) x e h = tt
    no_pair_value (Lambda xs b ts) x e h = tt
    no_pair_value (If a b c) x e h = let k : true ≡ is_pair x = ap is_pair (sym e) in cc
    no_pair_value (Call f ts) x e h = let k : true ≡ is_pair x = ap is_pair (sym e) in cc

    if_value : (a b c : Term) → value_of_call P (If a b c) ≡ cond (is_constant a && (is_constant b && (is_constant c && true))) (Some (choose (second_of (term_object a)) (second_of (term_object b)) (second_of (term_object c)))) None
    if_value (Constant a) (Constant b) (Constant c) = refl
    if_value (Constant a) (Constant b) (Variable v) = refl
    if_value (Constant a) (Constant b) (If d e f) = refl
    if_value (Constant a) (Constant b) (Call f ts) = refl
    if_value (Constant a) (Constant b) (Lambda xs d ts) = refl
    if_value (Constant a) (Variable v) c = refl
    if_value (Constant a) (If d e f) c = refl
    if_value (Constant a) (Call f ts) c = refl
    if_value (Constant a) (Lambda xs d ts) c = refl
    if_value (Variable v) b c = refl
    if_value (If d e f) b c = refl
    if_value (Call f ts) b c = refl
    if_value (Lambda xs d ts) b c = refl

    value_at_if : (a b c : Term) (all : Bool) → (is_constant a && (is_constant b && (is_constant c && true))) ≡ all → value_of_call P (If a b c) ≡ cond all (Some (choose (second_of (term_object a)) (second_of (term_object b)) (second_of (term_object c)))) None
    value_at_if a b c all h = if_value a b c ∙ ap (λ t. cond t (Some (choose (second_of (term_object a)) (second_of (term_object b)) (second_of (term_object c)))) None) h

    three_constants : (a b c : Term) → Readable a → Readable b → Readable c → are_constant_objects (list3 (term_object a) (term_object b) (term_object c)) ≡ (is_constant a && (is_constant b && (is_constant c && true)))
    three_constants a b c i j k =
        ap₂ (λ p q. p && q) (is_constant_object-is a i) (ap₂ (λ p q. p && q) (is_constant_object-is b j) (ap (λ p. p && true) (is_constant_object-is c k)))

    no_value_of : (o : Option Primitive) → map2 apply o None ≡ None
    no_value_of None = refl
    no_value_of (Some p) = refl

    quote_word : word_named P (named "QUOTE") ≡ None
    quote_word = refl

    if_word : word_named P (named "IF") ≡ Some word.If
    if_word = refl

    module _ (A : ArityTable) (t : Term) (x h r : Object) (i : IsTerm A t) (e : x ≡ term_object t) (f : x ≡ Pair h r) where
      head_is : h ≡ car (term_object t)
      head_is = ap car (sym f ∙ e)

      rest_is : r ≡ cdr (term_object t)
      rest_is = ap cdr (sym f ∙ e)

      readable : Readable t
      readable = term_readable A t (formed A t i)

      pub no_symbol_value : is_symbol h ≡ false → IsValue os (value_of_call P t) None
      no_symbol_value n = go t (sym (ap is_symbol head_is) ∙ n)
        where
          go : (u : Term) → is_symbol (car (term_object u)) ≡ false → IsValue os (value_of_call P u) None
          go (Variable v) k = tt
          go (Constant c) k = tt
          go (If a b c) k = cc
          go (Call g ts) k = cc
          go (Lambda xs b ts) k = tt

      pub no_word_value : word_named P (name_of h) ≡ None → IsValue os (value_of_call P t) None
      no_word_value n = go t readable (sym (ap (λ y. word_named P (name_of y)) head_is) ∙ n)
        where
          go : (u : Term) → Readable u → word_named P (name_of (car (term_object u))) ≡ None → IsValue os (value_of_call P u) None
          go (Variable v) j k = tt
          go (Constant c) j k = tt
          go (If a b c) j k = let m : Some word.If ≡ None = sym if_word ∙ k in cc
          go (Call g ts) j k = subst (λ o. IsValue os o None) (sym (ap (λ o. map2 apply o (constant_values ts)) (none_back (primitive_named P g) (sym (not_the_word g (not_if g j.0)) ∙ k)))) tt
          go (Lambda xs b ts) j k = tt

      pub no_constants_value : are_constant_objects r ≡ false → IsValue os (value_of_call P t) None
      no_constants_value n = go t readable (sym (ap are_constant_objects rest_is) ∙ n)
        where
          go : (u : Term) → Readable u → are_constant_objects (cdr (term_object u)) ≡ false → IsValue os (value_of_call P u) None
          go (Variable v) j k = tt
          go (Constant c) j k = tt
          go (If a b c) j k = subst (λ o. IsValue os o None) (sym (value_at_if a b c false (sym (three_constants a b c j.0 j.1 j.2) ∙ k))) tt
          go (Call g ts) j k = subst (λ o. IsValue os o None) (sym (ap (map2 apply (primitive_named P g)) (no_constants ts k) ∙ no_value_of (primitive_named P g))) tt
          go (Lambda xs b ts) j k = tt

      pub call_value_is : (w : Word) (o : Option ℕ) → is_symbol h ≡ true → Some w ≡ word_named P (name_of h) → are_constant_objects r ≡ true → IsValue os (Some (value_of w (second_of (car r) ∷ second_of (second_of r) ∷ second_of (third_of r) ∷ []))) o → IsValue os (value_of_call P t) o
      call_value_is w o s n k v =
          go t readable (sym (ap is_symbol head_is) ∙ s) (n ∙ ap (λ y. word_named P (name_of y)) head_is) (sym (ap are_constant_objects rest_is) ∙ k)
          (subst (λ y. IsValue os (Some (value_of w (second_of (car y) ∷ second_of (second_of y) ∷ second_of (third_of y) ∷ []))) o) rest_is v) (ap is_pair (sym e ∙ f))
        where
          go : (u : Term) → Readable u → is_symbol (car (term_object u)) ≡ true → Some w ≡ word_named P (name_of (car (term_object u))) → are_constant_objects (cdr (term_object u)) ≡ true → IsValue os (Some (value_of w (second_of (car (cdr (term_object u))) ∷ second_of (second_of (cdr (term_object u))) ∷ second_of (third_of (cdr (term_object u))) ∷ []))) o → is_pair (term_object u) ≡ true → IsValue os (value_of_call P u) o
          go (Variable z) j l m q y d = cc
          go (Constant c) j l m q y d = let d2 : Some w ≡ None = m ∙ quote_word in cc
          go (Lambda xs b ts) j l m q y d = cc
          go (If a b c) j l m q y d =
              let d2 : Some w ≡ Some word.If = m ∙ if_word in
              let d3 : w ≡ word.If = cc d2 in
              subst (λ z. IsValue os z o) (ap (λ z. Some (value_of z (second_of (term_object a) ∷ second_of (term_object b) ∷ second_of (term_object c) ∷ []))) d3 ∙ sym (value_at_if a b c true (sym (three_constants a b c j.0 j.1 j.2) ∙ q))) y
          go (Call g ts) j l m q y d = subst (λ z. IsValue os z o) (sym (value_at_call g ts w j.1 (not_if g j.0) (sym m) q)) y

-- ---- conclusions

module _ (P : Profile) (new : List Object) where
  pub nothing_computed : (F : Formula) (x : Object) → x ≡ formula_object F → ((a b : Object) → same_object x (list3 (symbol "PEQUAL*") a b) ≡ false) → IsCandidate new (computed_of P F) None
  nothing_computed (Equal t u) x e n = absurd (cc (n (term_object t) (term_object u), same_object-from x (equal_object (term_object t) (term_object u)) e))
  nothing_computed (Not F) x e n = tt
  nothing_computed (Or F G) x e n = tt

  value_none : (t : Term) (o : Option Object) → IsValue new o None → IsCandidate new (option_map (λ v. Equal t (Constant v)) o) None
  value_none t None h = tt
  value_none t (Some v) h = go (is_out_of_range (term_object t)) (is_out_of_range v) h
    where
      go : (a b : Bool) → b ≡ true → (a || ((b || false) || false)) ≡ true
      go true b k = refl
      go false true k = refl
      go false false k = cc

  value_some : (t : Term) (o : Option Object) (old : List Object) (q r : ℕ) (y : Object) → IsValue old o (Some q) → IsIn new r → object_at new r ≡ equal_object y (list2 (symbol "QUOTE") (object_at old q)) → y ≡ term_object t → IsCandidate new (option_map (λ v. Equal t (Constant v)) o) (Some r)
  value_some t None old q r y h i e d = absurd h
  value_some t (Some v) old q r y h i e d = (i, e ∙ ap₂ (λ a b. equal_object a (list2 (symbol "QUOTE") b)) d h.1)

  module _ (os : List Object) (A : ArityTable) (F : Formula) (x a b : ℕ) (i : IsFormula A F) (e : object_at os x ≡ formula_object F) (f : object_at os x ≡ list3 (symbol "PEQUAL*") (object_at os a) (object_at os b)) where
    abbrev Value : List Object → Option ℕ → Type 0
    Value old o = (B : ArityTable) (t : Term) → IsTerm B t → object_at os a ≡ term_object t → IsValue old (value_of_call P t) o

    pub none_computed : (old : List Object) → ((B : ArityTable) (t : Term) → IsTerm B t → object_at os a ≡ term_object t → IsValue new (value_of_call P t) None) → IsCandidate new (computed_of P F) None
    none_computed old h =
        let p = equation_terms os new A F (object_at os x) (object_at os a) (object_at os b) i e f in
        subst (λ G. IsCandidate new (computed_of P G) None) (sym p.2) (value_none p.0 (value_of_call P p.0) (h A p.0 p.3 p.5))

    pub one_computed : (old : List Object) (q r : ℕ) → Value old (Some q) → IsIn new r → object_at new r ≡ equal_object (object_at os a) (list2 (symbol "QUOTE") (object_at old q)) → IsCandidate new (computed_of P F) (Some r)
    one_computed old q r h j d =
        let p = equation_terms os new A F (object_at os x) (object_at os a) (object_at os b) i e f in
        subst (λ G. IsCandidate new (computed_of P G) (Some r)) (sym p.2) (value_some p.0 (value_of_call P p.0) old q r (object_at os a) (h A p.0 p.3 p.5) j d p.5)

-- ---- lambda calls

module _ (os new : List Object) where
  pub nothing_reduced : (F : Formula) (x : Object) → x ≡ formula_object F → ((a b : Object) → same_object x (list3 (symbol "PEQUAL*") a b) ≡ false) → IsCandidate new (beta_of F) None
  nothing_reduced (Equal t u) x e n = absurd (cc (n (term_object t) (term_object u), same_object-from x (equal_object (term_object t) (term_object u)) e))
  nothing_reduced (Not F) x e n = tt
  nothing_reduced (Or F G) x e n = tt

  no_lambda_of : (t u : Term) → is_pair (car (term_object t)) ≡ false → IsCandidate new (beta_of (Equal t u)) None
  no_lambda_of (Variable v) u h = tt
  no_lambda_of (Constant c) u h = tt
  no_lambda_of (If a b c) u h = tt
  no_lambda_of (Call f ts) u h = tt
  no_lambda_of (Lambda xs b ts) u h = cc

  lambda_of_call : (t u : Term) (r : ℕ) (y : Object) → Readable t → is_pair (car (term_object t)) ≡ true → IsIn new r → object_at new r ≡ equal_object (term_object t) (beta_object (term_object t)) → IsCandidate new (beta_of (Equal t u)) (Some r)
  lambda_of_call (Variable v) u r y j h i e = cc
  lambda_of_call (Constant c) u r y j h i e = cc
  lambda_of_call (If a b c) u r y j h i e = cc
  lambda_of_call (Call f ts) u r y j h i e = cc
  lambda_of_call (Lambda xs b ts) u r y j h i e =
      (i, e ∙ ap (equal_object (term_object (Lambda xs b ts))) (ap (λ s. substitute_object s (term_object b)) (actuals_object-is xs ts) ∙ substitute_object-is (actuals_for xs ts) b j.0))

  module _ (A : ArityTable) (F : Formula) (x a b : ℕ) (i : IsFormula A F) (e : object_at os x ≡ formula_object F) (f : object_at os x ≡ list3 (symbol "PEQUAL*") (object_at os a) (object_at os b)) where
    pub no_lambda_call : is_pair (car (object_at os a)) ≡ false → IsCandidate new (beta_of F) None
    no_lambda_call h =
        let p = equation_terms os new A F (object_at os x) (object_at os a) (object_at os b) i e f in
        subst (λ G. IsCandidate new (beta_of G) None) (sym p.2) (no_lambda_of p.0 p.1 (sym (ap (λ y. is_pair (car y)) p.5) ∙ h))

    pub lambda_reduced : (r : ℕ) → is_pair (car (object_at os a)) ≡ true → IsIn new r → object_at new r ≡ equal_object (object_at os a) (beta_object (object_at os a)) → IsCandidate new (beta_of F) (Some r)
    lambda_reduced r h j d =
        let p = equation_terms os new A F (object_at os x) (object_at os a) (object_at os b) i e f in
        subst (λ G. IsCandidate new (beta_of G) (Some r)) (sym p.2)
        (lambda_of_call p.0 p.1 r (object_at os a) (term_readable A p.0 (formed A p.0 p.3)) (sym (ap (λ y. is_pair (car y)) p.5) ∙ h) j (d ∙ ap (λ y. equal_object y (beta_object y)) p.5))

  -- an instance
  pub instance_made : (A : ArityTable) (F : Formula) (y : Object) (r : ℕ) → IsFormula A F → IsIn new r → object_at new r ≡ substitute_object y (formula_object F) → is_substitution_object A y ≡ true → IsCandidate new (option_map (λ s. substitute_formula s F) (substitution_of y)) (Some r)
  instance_made A F y r i j e h = go (substitution_of y) refl
    where
      go : (o : Option Substitution) → substitution_of y ≡ o → IsCandidate new (option_map (λ s. substitute_formula s F) o) (Some r)
      go None d = let k : true ≡ false = sym h ∙ (is_substitution_object-is A y ∙ ap (passes (is_substitution A)) d) in cc
      go (Some s) d =
          (j, e ∙ (substitute_object-formula y F ∙ (ap (λ z. substitute_formula_object z (formula_object F)) (sym (substitution_back y s d)) ∙ substitute_formula_object-is s F (formula_readable A F i))))
