-- What an object is, from what its parts are.
use Rattle.std.proofs.Common.{◌≡◌, ℕ, suc, ◌+◌, Bool, true, false, ◌&&◌, ◌||◌, not, cond, eqb, List, length, Option, Some, None, refl, sym, ap, ap₂, ◌∙◌, eqb-true, arith, option_map, is_some}
use Rattle.mw_model.specs.Terms.Object.{Name, Object, Natural, Symbol, Pair, named, symbol, same_name, same_object, nil_name, NIL}
use Rattle.mw_model.specs.Terms.Term.{Term, Terms, Variable, Constant, If, Call, Lambda, NoTerms, More, Formula, Equal, Not, Or, ArityTable, arity_of, has_arity, count, are_formals, is_closed, is_variable, is_term, are_terms, is_formula}
use Rattle.mw_model.specs.Terms.Reading.{names_of, constant_of, if_of, lambda_of, term_of, terms_of, formula_of, when, that, map2}
use Rattle.mw_model.specs.Values.Primitive.{is_pair}
use Rattle.mw_model.specs.Laws.Rules.{is_term_object, is_formula_object}
use Rattle.mw_model.proofs.Names.{same_name-eq}
use Rattle.mw_term.specs.Parts.{is_single}
use Rattle.mw_term.specs.Marking.{ObjectMark, counted, term_count, head_count, formal_count, is_negation, is_binary, mark_of_object}

-- so many actuals are right for an arity, and for IF
abbrev pub takes : Option ℕ → Option ℕ → Bool
takes a None = false
takes a (Some n) = has_arity a n

abbrev pub allows_if : Bool → Option ℕ → Bool
allows_if is_if None = false
allows_if is_if (Some n) = not is_if || eqb n 3

-- how many terms there are with one more object at the front
abbrev pub one_more : Bool → Option ℕ → Option ℕ
one_more true (Some n) = Some (n + 1)
one_more true None = None
one_more false n = None

takes-none : (n : Option ℕ) → takes None n ≡ false
takes-none None = refl
takes-none (Some n) = refl

pub is_present-when : {X : Type 0} (b : Bool) (x : X) → is_some (when b (Some x)) ≡ b
is_present-when true x = refl
is_present-when false x = refl

pub is_term-symbol : (A : ArityTable) (x : Name) → is_term_object A (Symbol x) ≡ is_variable x
is_term-symbol A x = is_present-when (is_variable x) (Variable x)

constant_is : (A : ArityTable) (r : Object) → is_some (that (is_term A) (constant_of r)) ≡ is_single r
constant_is A (Natural n) = refl
constant_is A (Symbol s) = refl
constant_is A (Pair c (Natural n)) = refl
constant_is A (Pair c (Pair a b)) = refl
constant_is A (Pair c (Symbol s)) = go (same_name s nil_name)
  where
    go : (b : Bool) → is_some (that (is_term A) (cond b (Some (Constant c)) None)) ≡ b
    go true = refl
    go false = refl

and_false : (a : Bool) → (a && false) ≡ false
and_false true = refl
and_false false = refl

and_true : (a : Bool) → (a && true) ≡ a
and_true true = refl
and_true false = refl

and_assoc : (a b c : Bool) → ((a && b) && c) ≡ (a && (b && c))
and_assoc true b c = refl
and_assoc false b c = refl

-- the test of a call's actuals, counted where each is a term
counted_test : (a : Option ℕ) (n : ℕ) (are_terms is_if : Bool)
    → (takes a (cond are_terms (Some n) None) && allows_if is_if (cond are_terms (Some n) None)) ≡ (has_arity a n && ((not is_if || eqb n 3) && are_terms))
counted_test a n true is_if = ap (λ b. has_arity a n && b) (sym (and_true (not is_if || eqb n 3)))
counted_test a n false is_if = sym (ap (λ b. has_arity a n && b) (and_false (not is_if || eqb n 3)) ∙ and_false (has_arity a n))

not_three : (a : Option ℕ) (n : ℕ) (are_terms : Bool) → eqb n 3 ≡ false → false ≡ (takes a (cond are_terms (Some n) None) && allows_if true (cond are_terms (Some n) None))
not_three a n ok e = sym (counted_test a n ok true ∙ (ap (λ b. has_arity a n && (b && ok)) e ∙ and_false (has_arity a n)))

four_or_more : (n : ℕ) → eqb (suc (suc (suc (suc n)))) 3 ≡ false
four_or_more n = go (eqb (suc (suc (suc (suc n)))) 3) refl
  where
    go : (b : Bool) → eqb (suc (suc (suc (suc n)))) 3 ≡ b → b ≡ false
    go true e = let h = eqb-true (suc (suc (suc (suc n)))) 3 e in absurd (omega arith)
    go false e = refl

module _ (A : ArityTable) (f : Name) where
  if_is : (o : Option Terms) → same_name f (named "IF") ≡ true → is_some (that (is_term A) (if_of o)) ≡ (takes (arity_of A f) (counted A o) && allows_if true (counted A o))
  if_is None e = refl
  if_is (Some NoTerms) e = not_three (arity_of A f) 0 true refl
  if_is (Some (More a NoTerms)) e = not_three (arity_of A f) 1 (is_term A a && true) refl
  if_is (Some (More a (More b NoTerms))) e = not_three (arity_of A f) 2 (is_term A a && (is_term A b && true)) refl
  if_is (Some (More a (More b (More c NoTerms)))) e =
      is_present-when (is_term A (If a b c)) (If a b c)
      ∙ (ap₂ (λ g p. has_arity (arity_of A g) 3 && (is_term A a && (is_term A b && p))) (sym (same_name-eq f (named "IF") e)) (sym (and_true (is_term A c)))
      ∙ sym (counted_test (arity_of A f) 3 (is_term A a && (is_term A b && (is_term A c && true))) true))
  if_is (Some (More a (More b (More c (More d ts))))) e =
      not_three (arity_of A f) (suc (suc (suc (suc (count ts))))) (is_term A a && (is_term A b && (is_term A c && (is_term A d && are_terms A ts)))) (four_or_more (count ts))

  call_is : (o : Option Terms) → same_name f (named "QUOTE") ≡ false → same_name f (named "IF") ≡ false → is_some (that (is_term A) (option_map (Call f) o)) ≡ (takes (arity_of A f) (counted A o) && allows_if false (counted A o))
  call_is None q i = refl
  call_is (Some ts) q i =
      is_present-when (is_term A (Call f ts)) (Call f ts)
      ∙ (ap₂ (λ x y. (not x && not y) && (has_arity (arity_of A f) (count ts) && are_terms A ts)) q i ∙ sym (counted_test (arity_of A f) (count ts) (are_terms A ts) false))

  -- (f t1 .. tn), IF and QUOTE too
  pub is_term-call : (r : Object) → is_term_object A (Pair (Symbol f) r)
      ≡ cond (same_name f (named "QUOTE")) (is_single r) (takes (arity_of A f) (term_count A r) && allows_if (same_name f (named "IF")) (term_count A r))
  is_term-call r = go (same_name f (named "QUOTE")) (same_name f (named "IF")) refl refl
    where
      go : (q i : Bool) → same_name f (named "QUOTE") ≡ q → same_name f (named "IF") ≡ i
          → is_some (that (is_term A) (cond q (constant_of r) (cond i (if_of (terms_of r)) (option_map (Call f) (terms_of r))))) ≡ cond q (is_single r) (takes (arity_of A f) (term_count A r) && allows_if i (term_count A r))
      go true i e e' = constant_is A r
      go false true e e' = if_is (terms_of r) e'
      go false false e e' = call_is (terms_of r) e e'

lambda_test : (m n : ℕ) (p q r s : Bool) → (p && (q && (eqb m n && (r && s)))) ≡ takes (cond (p && (q && r)) (Some m) None) (cond s (Some n) None)
lambda_test m n true true true true = and_true (eqb m n)
lambda_test m n true true true false = and_false (eqb m n)
lambda_test m n true true false s = and_false (eqb m n) ∙ sym (takes-none (cond s (Some n) None))
lambda_test m n true false r s = sym (takes-none (cond s (Some n) None))
lambda_test m n false q r s = sym (takes-none (cond s (Some n) None))

-- ((lambda (x1 .. xn) b) t1 .. tn)
lambda_is : (A : ArityTable) (t : Bool) (o : Option (List Name)) (p : Option Term) (q : Option Terms) → is_some (that (is_term A) (lambda_of t o p q)) ≡ takes (when t (head_count A o p)) (counted A q)
lambda_is A false o p q = sym (takes-none (counted A q))
lambda_is A true None p q = sym (takes-none (counted A q))
lambda_is A true (Some xs) None q = sym (takes-none (counted A q))
lambda_is A true (Some xs) (Some b) None = refl
lambda_is A true (Some xs) (Some b) (Some ts) =
    is_present-when (is_term A (Lambda xs b ts)) (Lambda xs b ts) ∙ lambda_test (length xs) (count ts) (are_formals xs) (is_closed xs b) (is_term A b) (are_terms A ts)

pub is_term-lambda : (A : ArityTable) (l y r : Object) → is_term_object A (Pair (Pair l y) r) ≡ takes (formal_count A (Pair l y)) (term_count A r)
is_term-lambda A l (Natural n) r = sym (takes-none (term_count A r))
is_term-lambda A l (Symbol s) r = sym (takes-none (term_count A r))
is_term-lambda A l (Pair xs (Natural n)) r = sym (takes-none (term_count A r))
is_term-lambda A l (Pair xs (Symbol s)) r = sym (takes-none (term_count A r))
is_term-lambda A l (Pair xs (Pair b z)) r = lambda_is A (same_object l (symbol "LAMBDA") && same_object z NIL) (names_of xs) (term_of b) (terms_of r)

one_more-none : (b : Bool) → one_more b None ≡ None
one_more-none true = refl
one_more-none false = refl

one_more-counted : (n : ℕ) (b c : Bool) → cond (b && c) (Some (suc n)) None ≡ one_more b (cond c (Some n) None)
one_more-counted n true true = ap Some (let e : suc n ≡ n + 1 = omega arith in e)
one_more-counted n true false = refl
one_more-counted n false c = refl

more_is : (A : ArityTable) (o : Option Term) (p : Option Terms) → counted A (map2 More o p) ≡ one_more (is_some (that (is_term A) o)) (counted A p)
more_is A None p = refl
more_is A (Some t) None = sym (one_more-none (is_some (that (is_term A) (Some t))))
more_is A (Some t) (Some ts) = one_more-counted (count ts) (is_term A t) (are_terms A ts) ∙ ap (λ b. one_more b (cond (are_terms A ts) (Some (count ts)) None)) (sym (is_present-when (is_term A t) t))

pub term_count-pair : (A : ArityTable) (a r : Object) → term_count A (Pair a r) ≡ one_more (is_term_object A a) (term_count A r)
term_count-pair A a r = more_is A (term_of a) (terms_of r)

pub term_count-symbol : (A : ArityTable) (s : Name) → term_count A (Symbol s) ≡ cond (same_name s nil_name) (Some 0) None
term_count-symbol A s = go (same_name s nil_name)
  where
    go : (b : Bool) → counted A (cond b (Some NoTerms) None) ≡ cond b (Some 0) None
    go true = refl
    go false = refl

-- formulas
equal_is : (A : ArityTable) (o p : Option Term) → is_some (that (is_formula A) (map2 Equal o p)) ≡ (is_some (that (is_term A) o) && is_some (that (is_term A) p))
equal_is A None p = refl
equal_is A (Some t) None = sym (and_false (is_some (that (is_term A) (Some t))))
equal_is A (Some t) (Some u) = is_present-when (is_term A t && is_term A u) (Equal t u) ∙ sym (ap₂ (λ b c. b && c) (is_present-when (is_term A t) t) (is_present-when (is_term A u) u))

not_is : (A : ArityTable) (o : Option Formula) → is_some (that (is_formula A) (option_map Not o)) ≡ is_some (that (is_formula A) o)
not_is A None = refl
not_is A (Some F) = is_present-when (is_formula A F) (Not F) ∙ sym (is_present-when (is_formula A F) F)

or_is : (A : ArityTable) (o p : Option Formula) → is_some (that (is_formula A) (map2 Or o p)) ≡ (is_some (that (is_formula A) o) && is_some (that (is_formula A) p))
or_is A None p = refl
or_is A (Some F) None = sym (and_false (is_some (that (is_formula A) (Some F))))
or_is A (Some F) (Some G) = is_present-when (is_formula A F && is_formula A G) (Or F G) ∙ sym (ap₂ (λ b c. b && c) (is_present-when (is_formula A F) F) (is_present-when (is_formula A G) G))

when_is : {X : Type 0} (test : X → Bool) (b : Bool) (o : Option X) → is_some (that test (when b o)) ≡ (b && is_some (that test o))
when_is test true o = refl
when_is test false o = refl

cond_is : {X : Type 0} (test : X → Bool) (b : Bool) (o p : Option X) → is_some (that test (cond b o p)) ≡ cond b (is_some (that test o)) (is_some (that test p))
cond_is test true o p = refl
cond_is test false o p = refl

-- (h a b . z) is a formula where it ends with NIL, and h is PEQUAL* and its parts are terms, or h is POR* and its parts are formulas
pub is_formula-binary : (A : ArityTable) (h a b z : Object) → is_formula_object A (Pair h (Pair a (Pair b z)))
    ≡ (same_object z NIL && cond (same_object h (symbol "PEQUAL*")) (is_term_object A a && is_term_object A b) (same_object h (symbol "POR*") && (is_formula_object A a && is_formula_object A b)))
is_formula-binary A h a b z =
    when_is (is_formula A) (same_object z NIL) (cond (same_object h (symbol "PEQUAL*")) (map2 Equal (term_of a) (term_of b)) (when (same_object h (symbol "POR*")) (map2 Or (formula_of a) (formula_of b))))
    ∙ ap (λ t. same_object z NIL && t)
    (cond_is (is_formula A) (same_object h (symbol "PEQUAL*")) (map2 Equal (term_of a) (term_of b)) (when (same_object h (symbol "POR*")) (map2 Or (formula_of a) (formula_of b)))
    ∙ ap₂ (cond (same_object h (symbol "PEQUAL*"))) (equal_is A (term_of a) (term_of b))
    (when_is (is_formula A) (same_object h (symbol "POR*")) (map2 Or (formula_of a) (formula_of b)) ∙ ap (λ t. same_object h (symbol "POR*") && t) (or_is A (formula_of a) (formula_of b))))

pub is_formula-unary : (A : ArityTable) (h a : Object) (s : Name) → is_formula_object A (Pair h (Pair a (Symbol s))) ≡ ((same_name s nil_name && same_object h (symbol "PNOT*")) && is_formula_object A a)
is_formula-unary A h a s = when_is (is_formula A) (same_name s nil_name && same_object h (symbol "PNOT*")) (option_map Not (formula_of a)) ∙ ap (λ t. (same_name s nil_name && same_object h (symbol "PNOT*")) && t) (not_is A (formula_of a))

-- what ends neither with NIL nor with a pair is none
pub is_formula-no_list : (A : ArityTable) (h x a z : Object) → x ≡ Pair a z → is_pair z ≡ false → same_object z NIL ≡ false → is_formula_object A (Pair h x) ≡ false
is_formula-no_list A h x a z shape no_pair no_nil = ap (λ y. is_formula_object A (Pair h y)) shape ∙ ending z no_pair no_nil
  where
    ending : (z : Object) → is_pair z ≡ false → same_object z NIL ≡ false → is_formula_object A (Pair h (Pair a z)) ≡ false
    ending (Natural n) p q = refl
    ending (Symbol s) p q = is_formula-unary A h a s ∙ ap (λ b. (b && same_object h (symbol "PNOT*")) && is_formula_object A a) q
    ending (Pair b c) p q = cc

-- by the marks of the parts
module _ (A : ArityTable) where
  pub is_negation-marks : (h a : Object) (s : Name) (part : ObjectMark) → part ≡ mark_of_object A a → is_formula_object A (Pair h (Pair a (Symbol s))) ≡ (same_name s nil_name && is_negation h part)
  is_negation-marks h a s part e =
      is_formula-unary A h a s ∙ (and_assoc (same_name s nil_name) (same_object h (symbol "PNOT*")) (is_formula_object A a) ∙ ap (λ m. same_name s nil_name && is_negation h m) (sym e))

  pub is_binary-marks : (h a b z : Object) (first second : ObjectMark) → first ≡ mark_of_object A a → second ≡ mark_of_object A b
      → is_formula_object A (Pair h (Pair a (Pair b z))) ≡ (same_object z NIL && is_binary h first second)
  is_binary-marks h a b z first second e k = is_formula-binary A h a b z ∙ ap₂ (λ m n. same_object z NIL && is_binary h m n) (sym e) (sym k)
