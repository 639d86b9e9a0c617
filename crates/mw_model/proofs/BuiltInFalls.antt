-- What a test finds to fall does fall: a part has fewer pairs than the whole.
use Rattle.std.proofs.Common.{◌≡◌, ◌≢◌, ℕ, ◌<◌, ◌≤◌, Bool, true, false, cond, List, [], ◌∷◌, Option, Some, refl, sym, ap, ◌∙◌, subst, arith}
use Rattle.std.proofs.lemmas.Bool.{and_parts, false≢true}
use Rattle.mw_model.specs.Terms.Object.{Name, Object, Natural, Symbol, Pair, same_name, NIL, truth_of, car, cdr}
use Rattle.mw_model.specs.Terms.Term.{Term, Terms, Variable, Constant, If, Call, Lambda, NoTerms, More}
use Rattle.mw_model.specs.Values.Primitive.{Profile, Primitive, Car, Cdr, IsPair, primitive_named, first_value, is_pair}
use Rattle.mw_model.specs.Values.Value.{Environment, lookup, bind}
use Rattle.mw_model.proofs.Names.{same_name-eq}
use Rattle.mw_model.proofs.BuiltInValue.{Answers, answer_on, value_at, values_at, rest_values, value_for, pairs, takes_part, is_within, first_is_within, is_part, is_pair_test, is_variable_of, first_is_variable, tests_pair, first_term, rest_terms, actual_for}

car_within : (v : Object) → pairs (car v) ≤ pairs v
car_within (Natural n) = omega arith
car_within (Symbol s) = omega arith
car_within (Pair a b) = omega arith

cdr_within : (v : Object) → pairs (cdr v) ≤ pairs v
cdr_within (Natural n) = omega arith
cdr_within (Symbol s) = omega arith
cdr_within (Pair a b) = omega arith

car_fewer : (v : Object) (n : ℕ) → pairs v ≤ n → 0 < n → pairs (car v) < n
car_fewer (Natural m) n h p = omega arith
car_fewer (Symbol s) n h p = omega arith
car_fewer (Pair a b) n h p = omega arith

cdr_fewer : (v : Object) (n : ℕ) → pairs v ≤ n → 0 < n → pairs (cdr v) < n
cdr_fewer (Natural m) n h p = omega arith
cdr_fewer (Symbol s) n h p = omega arith
cdr_fewer (Pair a b) n h p = omega arith

pair_has_pairs : (v : Object) → is_pair v ≡ true → 0 < pairs v
pair_has_pairs (Natural m) h = absurd (false≢true h)
pair_has_pairs (Symbol s) h = absurd (false≢true h)
pair_has_pairs (Pair a b) h = omega arith

-- an environment's value of a formal
value_for-none : (x : Name) (xs : List Name) → value_for x xs [] ≡ NIL
value_for-none x [] = refl
value_for-none x (y ∷ ys) = go (same_name y x) (value_for-none x ys)
  where
    go : (t : Bool) → value_for x ys [] ≡ NIL → cond t NIL (value_for x ys []) ≡ NIL
    go true ih = refl
    go false ih = ih

pub lookup-bind : (x : Name) (xs : List Name) (vs : List Object) → lookup (bind xs vs) x ≡ value_for x xs vs
lookup-bind x [] vs = refl
lookup-bind x (y ∷ ys) [] = sym (value_for-none x (y ∷ ys))
lookup-bind x (y ∷ ys) (v ∷ vs) = ap (cond (same_name y x) v) (lookup-bind x ys vs)

part_within : (o : Option Primitive) (answer : List Object → Object) (vs : List Object) → takes_part o ≡ true → pairs (answer_on o answer vs) ≤ pairs (first_value vs)
part_within (Some Car) answer vs p = car_within (first_value vs)
part_within (Some Cdr) answer vs p = cdr_within (first_value vs)
part_within _ answer vs p = absurd (false≢true p)

part_fewer : (o : Option Primitive) (answer : List Object → Object) (vs : List Object) (n : ℕ) → takes_part o ≡ true → pairs (first_value vs) ≤ n → 0 < n → pairs (answer_on o answer vs) < n
part_fewer (Some Car) answer vs n p = car_fewer (first_value vs) n
part_fewer (Some Cdr) answer vs n p = cdr_fewer (first_value vs) n
part_fewer _ answer vs n p = absurd (false≢true p)

module _ (P : Profile) (R : Answers) where
  mutual
    within_pairs : (e : Environment) (x : Name) (t : Term) → is_within P x t ≡ true → pairs (value_at P R e t) ≤ pairs (lookup e x)
    within_pairs e x (Variable y) h = subst (λ z. pairs (lookup e y) ≤ pairs (lookup e z)) (same_name-eq y x h) (omega arith)
    within_pairs e x (Constant c) h = absurd (false≢true h)
    within_pairs e x (If a b c) h = absurd (false≢true h)
    within_pairs e x (Call f ts) h =
        let p = and_parts (takes_part (primitive_named P f)) (first_is_within P x ts) h in
        let l = part_within (primitive_named P f) (R f) (values_at P R e ts) p.0 in
        let m = first_within_pairs e x ts p.1 in
        omega (arith, l, m)
    within_pairs e x (Lambda xs b ts) h = absurd (false≢true h)

    first_within_pairs : (e : Environment) (x : Name) (ts : Terms) → first_is_within P x ts ≡ true → pairs (first_value (values_at P R e ts)) ≤ pairs (lookup e x)
    first_within_pairs e x NoTerms h = absurd (false≢true h)
    first_within_pairs e x (More t ts) h = within_pairs e x t h

  pub is_part-fewer : (e : Environment) (x : Name) (t : Term) → is_part P x t ≡ true → is_pair (lookup e x) ≡ true → pairs (value_at P R e t) < pairs (lookup e x)
  is_part-fewer e x (Call f ts) h p =
      let q = and_parts (takes_part (primitive_named P f)) (first_is_within P x ts) h in
      part_fewer (primitive_named P f) (R f) (values_at P R e ts) (pairs (lookup e x)) q.0 (first_within_pairs e x ts q.1) (pair_has_pairs (lookup e x) p)
  is_part-fewer e x _ h p = absurd (false≢true h)

  first_term-value : (e : Environment) (ts : Terms) → value_at P R e (first_term ts) ≡ first_value (values_at P R e ts)
  first_term-value e NoTerms = refl
  first_term-value e (More t ts) = refl

  rest_terms-values : (e : Environment) (ts : Terms) → values_at P R e (rest_terms ts) ≡ rest_values (values_at P R e ts)
  rest_terms-values e NoTerms = refl
  rest_terms-values e (More t ts) = refl

  pub actual_for-value : (e : Environment) (x : Name) (xs : List Name) (ts : Terms) → value_at P R e (actual_for x xs ts) ≡ value_for x xs (values_at P R e ts)
  actual_for-value e x [] ts = refl
  actual_for-value e x (y ∷ ys) ts = go (same_name y x) (actual_for-value e x ys (rest_terms ts))
    where
      go : (t : Bool) → value_at P R e (actual_for x ys (rest_terms ts)) ≡ value_for x ys (values_at P R e (rest_terms ts)) → value_at P R e (cond t (first_term ts) (actual_for x ys (rest_terms ts))) ≡ cond t (first_value (values_at P R e ts)) (value_for x ys (rest_values (values_at P R e ts)))
      go true ih = first_term-value e ts
      go false ih = ih ∙ ap (value_for x ys) (rest_terms-values e ts)

  -- the test that x is a pair
  is_pair_test-pair : (o : Option Primitive) (answer : List Object → Object) (vs : List Object) → is_pair_test o ≡ true → answer_on o answer vs ≢ NIL → is_pair (first_value vs) ≡ true
  is_pair_test-pair (Some IsPair) answer vs p h = go (is_pair (first_value vs)) h
    where
      go : (t : Bool) → truth_of t ≢ NIL → t ≡ true
      go true h = refl
      go false h = absurd (h refl)
  is_pair_test-pair _ answer vs p h = absurd (false≢true p)

  variable_value : (e : Environment) (x : Name) (t : Term) → is_variable_of x t ≡ true → value_at P R e t ≡ lookup e x
  variable_value e x (Variable y) h = ap (lookup e) (same_name-eq y x h)
  variable_value e x _ h = absurd (false≢true h)

  first_variable_value : (e : Environment) (x : Name) (ts : Terms) → first_is_variable x ts ≡ true → first_value (values_at P R e ts) ≡ lookup e x
  first_variable_value e x NoTerms h = absurd (false≢true h)
  first_variable_value e x (More t ts) h = variable_value e x t h

  pub tests_pair-pair : (e : Environment) (x : Name) (a : Term) → tests_pair P x a ≡ true → value_at P R e a ≢ NIL → is_pair (lookup e x) ≡ true
  tests_pair-pair e x (Call f ts) h n =
      let p = and_parts (is_pair_test (primitive_named P f)) (first_is_variable x ts) h in
      subst (λ v. is_pair v ≡ true) (first_variable_value e x ts p.1) (is_pair_test-pair (primitive_named P f) (R f) (values_at P R e ts) p.0 n)
  tests_pair-pair e x _ h n = absurd (false≢true h)
