-- When a LET is a term: where its names are formals, and its body and values are terms.
use Rattle.std.proofs.Common.{◌≡◌, ◌+◌, Bool, true, false, ◌&&◌, ◌||◌, not, eqb, cond, List, [], ◌∷◌, ◌++◌, length, filter, refl, sym, ap, ap₂, ◌∙◌, eq-eqb, length-append, arith}
use Rattle.std.proofs.lemmas.Bool.{and_parts, and_from}
use Rattle.mw_model.specs.Terms.Object.{Name, same_name}
use Rattle.mw_model.specs.Terms.Term.{Term, Terms, Variable, Constant, If, Call, Lambda, NoTerms, More, ArityTable, count, is_among, is_variable, are_variables, are_distinct, are_formals, occurrences, all_occurrences, firsts, variables, is_closed, is_term, are_terms}
use Rattle.mw_model.specs.Values.Definition.{variable_terms}
use Rattle.mw_model.specs.Events.Expansion.{without, bound_names, let_actuals, let_term}
use Rattle.mw_model.proofs.Names.{same_name-eq, same_name-refl}
use Rattle.mw_model.proofs.Closed.{closed_exactly}
use Rattle.mw_model.proofs.Formed.{Formed, AreFormed, formed}
use Rattle.mw_term.proofs.Gathered.{names, among-append}
use Rattle.mw_translate.specs.Meaning.{values_of}
use Rattle.mw_translate.specs.Lets.{append_terms, let_lambda}

-- the variables of a term are variables
variables-append : (xs ys : List Name) → are_variables xs ≡ true → are_variables ys ≡ true → are_variables (xs ++ ys) ≡ true
variables-append [] ys h k = k
variables-append (x ∷ xs) ys h k = let p = and_parts (is_variable x) (are_variables xs) h in and_from (is_variable x) (are_variables (xs ++ ys)) p.0 (variables-append xs ys p.1 k)

mutual
  occurrences-variables : (A : ArityTable) (t : Term) → Formed A t → are_variables (occurrences t) ≡ true
  occurrences-variables A (Variable x) h = and_from (is_variable x) true h refl
  occurrences-variables A (Constant c) h = refl
  occurrences-variables A (If a b c) h = variables-append (occurrences a) (occurrences b ++ occurrences c) (occurrences-variables A a h.1) (variables-append (occurrences b) (occurrences c) (occurrences-variables A b h.2) (occurrences-variables A c h.3))
  occurrences-variables A (Call f ts) h = all-variables A ts h.2
  occurrences-variables A (Lambda xs b ts) h = all-variables A ts h.5

  all-variables : (A : ArityTable) (ts : Terms) → AreFormed A ts → are_variables (all_occurrences ts) ≡ true
  all-variables A NoTerms h = refl
  all-variables A (More t ts) h = variables-append (occurrences t) (all_occurrences ts) (occurrences-variables A t h.0) (all-variables A ts h.1)

variables-filter : (test : Name → Bool) (xs : List Name) → are_variables xs ≡ true → are_variables (filter test xs) ≡ true
variables-filter test [] h = refl
variables-filter test (x ∷ xs) h = go (test x) refl (variables-filter test xs (and_parts (is_variable x) (are_variables xs) h).1)
  where
    go : (b : Bool) → test x ≡ b → are_variables (filter test xs) ≡ true → are_variables (filter test (x ∷ xs)) ≡ true
    go true e r = simp (e, (and_parts (is_variable x) (are_variables xs) h).0, r)
    go false e r = simp (e, r)

variables-firsts : (xs : List Name) → are_variables xs ≡ true → are_variables (firsts same_name xs) ≡ true
variables-firsts [] h = refl
variables-firsts (x ∷ xs) h =
    let p = and_parts (is_variable x) (are_variables xs) h in
    and_from (is_variable x) (are_variables (filter (λ y. not (same_name x y)) (firsts same_name xs))) p.0 (variables-filter (λ y. not (same_name x y)) (firsts same_name xs) (variables-firsts xs p.1))

variables-without : (ys xs : List Name) → are_variables ys ≡ true → are_variables (without ys xs) ≡ true
variables-without [] xs h = refl
variables-without (y ∷ ys) xs h = go (is_among y xs) (variables-without ys xs p.1)
  where
    p : (is_variable y ≡ true) × (are_variables ys ≡ true)
    p = and_parts (is_variable y) (are_variables ys) h

    go : (b : Bool) → are_variables (without ys xs) ≡ true → are_variables (cond b (without ys xs) (y ∷ without ys xs)) ≡ true
    go true r = r
    go false r = and_from (is_variable y) (are_variables (without ys xs)) (and_parts (is_variable y) (are_variables ys) h).0 r

-- what is not among a list is not among what is left of it
among-filter : (z : Name) (test : Name → Bool) (xs : List Name) → is_among z xs ≡ false → is_among z (filter test xs) ≡ false
among-filter z test [] h = refl
among-filter z test (x ∷ xs) h = go (same_name z x) (test x) refl refl h (among-filter z test xs)
  where
    go : (b t : Bool) → same_name z x ≡ b → test x ≡ t → (b || is_among z xs) ≡ false → (is_among z xs ≡ false → is_among z (filter test xs) ≡ false) → is_among z (filter test (x ∷ xs)) ≡ false
    go true t e f k r = cc
    go false true e f k r = simp (f, e, r k)
    go false false e f k r = simp (f, r k)

-- what a test fails on is not among what passes it
among-filtered : (z : Name) (test : Name → Bool) (xs : List Name) → test z ≡ false → is_among z (filter test xs) ≡ false
among-filtered z test [] h = refl
among-filtered z test (x ∷ xs) h = go (test x) refl (among-filtered z test xs h)
  where
    apart : (b : Bool) → same_name z x ≡ b → test x ≡ true → b ≡ false
    apart true e t = let k : test z ≡ true = ap test (same_name-eq z x e) ∙ t in cc
    apart false e t = refl

    go : (t : Bool) → test x ≡ t → is_among z (filter test xs) ≡ false → is_among z (filter test (x ∷ xs)) ≡ false
    go true e r = simp (e, apart (same_name z x) refl e, r)
    go false e r = simp (e, r)

distinct-filter : (test : Name → Bool) (xs : List Name) → are_distinct xs ≡ true → are_distinct (filter test xs) ≡ true
distinct-filter test [] h = refl
distinct-filter test (x ∷ xs) h = go (test x) refl (distinct-filter test xs p.1)
  where
    p : (not (is_among x xs) ≡ true) × (are_distinct xs ≡ true)
    p = and_parts (not (is_among x xs)) (are_distinct xs) h

    negated : (b : Bool) → not b ≡ true → b ≡ false
    negated true e = cc
    negated false e = refl

    go : (t : Bool) → test x ≡ t → are_distinct (filter test xs) ≡ true → are_distinct (filter test (x ∷ xs)) ≡ true
    go true e r = simp (e, among-filter x test xs (negated (is_among x xs) (and_parts (not (is_among x xs)) (are_distinct xs) h).0), r)
    go false e r = simp (e, r)

distinct-firsts : (xs : List Name) → are_distinct (firsts same_name xs) ≡ true
distinct-firsts [] = refl
distinct-firsts (x ∷ xs) =
    and_from (not (is_among x (filter (λ y. not (same_name x y)) (firsts same_name xs)))) (are_distinct (filter (λ y. not (same_name x y)) (firsts same_name xs)))
    (ap not (among-filtered x (λ y. not (same_name x y)) (firsts same_name xs) (ap not (same_name-refl x))))
    (distinct-filter (λ y. not (same_name x y)) (firsts same_name xs) (distinct-firsts xs))

among-without : (z : Name) (ys xs : List Name) → is_among z ys ≡ false → is_among z (without ys xs) ≡ false
among-without z [] xs h = refl
among-without z (y ∷ ys) xs h = go (same_name z y) (is_among y xs) h (among-without z ys xs)
  where
    go : (b c : Bool) → (b || is_among z ys) ≡ false → (is_among z ys ≡ false → is_among z (without ys xs) ≡ false) → is_among z (cond c (without ys xs) (y ∷ without ys xs)) ≡ false
    go b true k r = r (second b k)
      where
        second : (b : Bool) → (b || is_among z ys) ≡ false → is_among z ys ≡ false
        second true e = cc
        second false e = e
    go true false k r = cc
    go false false k r = ap₂ (λ p q. p || q) (first (same_name z y) h) (r k)
      where
        first : (b : Bool) → (b || is_among z ys) ≡ false → b ≡ false
        first true e = cc
        first false e = refl

distinct-without : (ys xs : List Name) → are_distinct ys ≡ true → are_distinct (without ys xs) ≡ true
distinct-without [] xs h = refl
distinct-without (y ∷ ys) xs h = go (is_among y xs) (distinct-without ys xs (and_parts (not (is_among y ys)) (are_distinct ys) h).1)
  where
    negated : (b : Bool) → not b ≡ true → b ≡ false
    negated true e = cc
    negated false e = refl

    go : (c : Bool) → are_distinct (without ys xs) ≡ true → are_distinct (cond c (without ys xs) (y ∷ without ys xs)) ≡ true
    go true r = r
    go false r = and_from (not (is_among y (without ys xs))) (are_distinct (without ys xs)) (ap not (among-without y ys xs (negated (is_among y ys) (and_parts (not (is_among y ys)) (are_distinct ys) h).0))) r

-- no name is among those without it
apart-without : (z : Name) (ys xs : List Name) → is_among z xs ≡ true → is_among z (without ys xs) ≡ false
apart-without z [] xs h = refl
apart-without z (y ∷ ys) xs h = go (is_among y xs) refl (apart-without z ys xs h)
  where
    apart : (b : Bool) → same_name z y ≡ b → is_among y xs ≡ false → b ≡ false
    apart true e f = let k : is_among y xs ≡ true = sym (ap (λ n. is_among n xs) (same_name-eq z y e)) ∙ h in cc
    apart false e f = refl

    go : (c : Bool) → is_among y xs ≡ c → is_among z (without ys xs) ≡ false → is_among z (cond c (without ys xs) (y ∷ without ys xs)) ≡ false
    go true e r = r
    go false e r = ap₂ (λ a b. a || b) (apart (same_name z y) refl e) r

kept-without : (z : Name) (ys xs : List Name) → is_among z ys ≡ true → is_among z xs ≡ false → is_among z (without ys xs) ≡ true
kept-without z [] xs h e = cc
kept-without z (y ∷ ys) xs h e = go (same_name z y) (is_among y xs) refl refl h (λ k. kept-without z ys xs k e)
  where
    go : (b c : Bool) → same_name z y ≡ b → is_among y xs ≡ c → (b || is_among z ys) ≡ true → (is_among z ys ≡ true → is_among z (without ys xs) ≡ true) → is_among z (cond c (without ys xs) (y ∷ without ys xs)) ≡ true
    go true true f g k r = let w : is_among z xs ≡ true = ap (λ n. is_among n xs) (same_name-eq z y f) ∙ g in cc
    go true false f g k r = ap (λ b. b || is_among z (without ys xs)) f
    go false true f g k r = r k
    go false false f g k r = ap (λ b. b || is_among z (without ys xs)) f ∙ r k

-- with other names after
distinct-append : (xs ys : List Name) → ((z : Name) → is_among z xs ≡ true → is_among z ys ≡ false) → are_distinct ys ≡ true → are_distinct (xs ++ ys) ≡ are_distinct xs
distinct-append [] ys h d = d
distinct-append (x ∷ xs) ys h d =
    ap₂ (λ a b. not a && b)
    (among-append names x xs ys ∙ (ap (λ b. is_among x xs || b) (h x (ap (λ b. b || is_among x xs) (same_name-refl x))) ∙ or_false (is_among x xs)))
    (distinct-append xs ys (λ z k. h z (later z k)) d)
  where
    or_false : (a : Bool) → (a || false) ≡ a
    or_false true = refl
    or_false false = refl

    later : (z : Name) → is_among z xs ≡ true → (same_name z x || is_among z xs) ≡ true
    later z k = go (same_name z x)
      where
        go : (b : Bool) → (b || is_among z xs) ≡ true
        go true = refl
        go false = k

variables-append-same : (xs ys : List Name) → are_variables ys ≡ true → are_variables (xs ++ ys) ≡ are_variables xs
variables-append-same [] ys h = h
variables-append-same (x ∷ xs) ys h = ap (λ b. is_variable x && b) (variables-append-same xs ys h)

count-append : (ts : Terms) (ys : List Name) → count (append_terms ts (variable_terms ys)) ≡ count ts + length ys
count-append NoTerms [] = refl
count-append NoTerms (y ∷ ys) = let r = count-append NoTerms ys in omega (arith, r)
count-append (More t ts) ys = let r = count-append ts ys in omega (arith, r)

module _ (A : ArityTable) where
  terms-append : (ts : Terms) (ys : List Name) → are_variables ys ≡ true → are_terms A (append_terms ts (variable_terms ys)) ≡ are_terms A ts
  terms-append NoTerms [] h = refl
  terms-append NoTerms (y ∷ ys) h = let p = and_parts (is_variable y) (are_variables ys) h in and_from (is_variable y) (are_terms A (variable_terms ys)) p.0 (terms-append NoTerms ys p.1)
  terms-append (More t ts) ys h = ap (λ b. is_term A t && b) (terms-append ts ys h)

  pub let-term : (xs : List Name) (ts : Terms) (b : Term) → length xs ≡ count ts → is_term A (let_lambda xs ts b) ≡ (are_formals xs && (is_term A b && are_terms A ts))
  let-term xs ts b same = by (is_term A b) refl
    where
      none : (f c e t u g w : Bool) → t ≡ false → (f && (c && (e && (t && u)))) ≡ (g && (t && w))
      none f c e true u g w h = cc
      none true true true false u true w h = refl
      none true true true false u false w h = refl
      none true true false false u true w h = refl
      none true true false false u false w h = refl
      none true false e false u true w h = refl
      none true false e false u false w h = refl
      none false c e false u true w h = refl
      none false c e false u false w h = refl

      all : (f g c e t u v : Bool) → f ≡ g → c ≡ true → e ≡ true → u ≡ v → (f && (c && (e && (t && u)))) ≡ (g && (t && v))
      all f g c e t u v p q r w = ap₂ (λ x y. x && (y && (e && (t && u)))) p q ∙ ap₂ (λ x y. g && (x && (t && y))) r w

      by : (t : Bool) → is_term A b ≡ t → is_term A (let_lambda xs ts b) ≡ (are_formals xs && (is_term A b && are_terms A ts))
      by false e =
          let ys = without (variables b) xs in
          none (are_formals (xs ++ ys)) (is_closed (xs ++ ys) b) (eqb (length (xs ++ ys)) (count (append_terms ts (variable_terms ys)))) (is_term A b) (are_terms A (append_terms ts (variable_terms ys))) (are_formals xs) (are_terms A ts) e
      by true e =
          let ys = without (variables b) xs in
          let are : are_variables ys ≡ true = variables-without (variables b) xs (variables-firsts (occurrences b) (occurrences-variables A b (formed A b e))) in
          let once : are_distinct ys ≡ true = distinct-without (variables b) xs (distinct-firsts (occurrences b)) in
          let formals : are_formals (xs ++ ys) ≡ are_formals xs = ap₂ (λ p q. p && q) (variables-append-same xs ys are) (distinct-append xs ys (λ z k. apart-without z (variables b) xs k) once) in
          let closed : is_closed (xs ++ ys) b ≡ true = (closed_exactly (xs ++ ys) b).1 (λ z k. among-append names z xs ys ∙ found z k (is_among z xs) refl) in
          let length_is : length (xs ++ ys) ≡ count (append_terms ts (variable_terms ys)) = omega (arith, length-append xs ys, count-append ts ys, same) in
          all (are_formals (xs ++ ys)) (are_formals xs) (is_closed (xs ++ ys) b) (eqb (length (xs ++ ys)) (count (append_terms ts (variable_terms ys)))) (is_term A b) (are_terms A (append_terms ts (variable_terms ys))) (are_terms A ts) formals closed (eq-eqb (length (xs ++ ys)) (count (append_terms ts (variable_terms ys))) length_is) (terms-append ts ys are)
        where
          found : (z : Name) → is_among z (variables b) ≡ true → (c : Bool) → is_among z xs ≡ c → (is_among z xs || is_among z (without (variables b) xs)) ≡ true
          found z k true f = ap (λ c. c || is_among z (without (variables b) xs)) f
          found z k false f = ap (λ c. c || is_among z (without (variables b) xs)) f ∙ kept-without z (variables b) xs k f

-- LET by its names and values
pub let_is : (ps : List (Name × Term)) (b : Term) → let_term ps b ≡ let_lambda (bound_names ps) (values_of ps) b
let_is ps b = ap (Lambda (bound_names ps ++ without (variables b) (bound_names ps)) b) (actuals ps (without (variables b) (bound_names ps)))
  where
    rest : (ys : List Name) → let_actuals [] ys ≡ variable_terms ys
    rest [] = refl
    rest (y ∷ ys) = ap (More (Variable y)) (rest ys)

    actuals : (ps : List (Name × Term)) (ys : List Name) → let_actuals ps ys ≡ append_terms (values_of ps) (variable_terms ys)
    actuals [] ys = rest ys
    actuals (p ∷ ps) ys = ap (More p.1) (actuals ps ys)

pub same_length : (ps : List (Name × Term)) → length (bound_names ps) ≡ count (values_of ps)
same_length [] = refl
same_length (p ∷ ps) = let r = same_length ps in omega (arith, r)

pub let_term-term : (A : ArityTable) (ps : List (Name × Term)) (b : Term) → is_term A (let_term ps b) ≡ (are_formals (bound_names ps) && (is_term A b && are_terms A (values_of ps)))
let_term-term A ps b = ap (is_term A) (let_is ps b) ∙ let-term A (bound_names ps) (values_of ps) b (same_length ps)
