-- Calls of functions, places in lists, and calls of lambdas, by their parts.
use Rattle.std.proofs.Common.{◌≡◌, ℕ, zero, suc, Bool, true, false, ◌&&◌, ◌||◌, not, eqb, cond, List, length, Option, Some, None, refl, sym, ap, ap₂, ◌∙◌, subst, eqb-true, arith, option_and_then}
use Rattle.mw_model.specs.Terms.Object.{Name, Object, Natural, Symbol, Pair, named, symbol, same_name, same_object, nil_name, NIL, list1, list2, list3, has_members}
use Rattle.mw_model.specs.Terms.Term.{Term, Terms, NoTerms, More, If, Call, ArityTable, count, names_object, term_object, terms_object, is_term, are_terms, are_formals, is_closed}
use Rattle.mw_model.specs.Terms.Reading.{names_of, lambda_of, when, map2}
use Rattle.mw_model.specs.Values.Primitive.{is_pair}
use Rattle.mw_model.specs.Events.Expansion.{Other, expanded, expanded_each}
use Rattle.mw_model.specs.Events.Expansion.{form}
use Rattle.mw_model.proofs.Names.{same_name-eq, same_object-eq}
use Rattle.mw_model.proofs.ReadBack.{names_back}
use Rattle.mw_translate.specs.Meaning.{Meaning, of_term, of_terms, of_head, head_meaning, meaning}
use Rattle.mw_translate.specs.Checked.{given, takes, call_made, cdrs, place_made, head_of, head_made}
use Rattle.mw_translate.specs.Forms.{with_terms, cdr_terms, place_of}
use Rattle.mw_translate.specs.declared.part.Kind.TheVariants as kind
use Rattle.mw_translate.proofs.Combine.{combine1, combine2, combine2-none, combine1-cond, combine2-cond}

pub other : (m n : ℕ) → (m ≡ n → ⊥) → eqb m n ≡ false
other m n h = go (eqb m n) refl
  where
    go : (b : Bool) → eqb m n ≡ b → b ≡ false
    go true e = absurd (h (eqb-true m n e))
    go false e = refl

and_false : (b : Bool) → (b && false) ≡ false
and_false true = refl
and_false false = refl

module _ (A : ArityTable) where
  abbrev pub call_one : Name → Meaning → Option Meaning
  call_one f m = call_made A f m.0 m.1

  module _ (f : Name) (no_quote : same_name f (named "QUOTE") ≡ false) where
    -- a call of another function than IF, or with another number of actuals than three
    plain : (ts : Terms) → (same_name f (named "IF") && eqb (count ts) 3) ≡ false → of_term A (Some (Call f ts)) ≡ combine1 (call_one f) (of_terms A (Some ts))
    plain ts h =
        go (same_name f (named "QUOTE")) (same_name f (named "IF")) (eqb (count ts) 3) (takes A f (count ts)) (are_terms A ts) no_quote h
        ∙ sym (combine1-cond (call_one f) (are_terms A ts) (terms_object ts, count ts))
      where
        go : (q i e k t : Bool) → q ≡ false → (i && e) ≡ false → cond ((not q && not i) && (k && t)) (Some (Pair (Symbol f) (terms_object ts), 0)) None ≡ cond t (given (k && (not i || e)) (Pair (Symbol f) (terms_object ts))) None
        go true i e k t p r = cc
        go false true true k t p r = cc
        go false true false k false p r = refl
        go false true false true true p r = refl
        go false true false false true p r = refl
        go false false e true true p r = refl
        go false false e true false p r = refl
        go false false e false true p r = refl
        go false false e false false p r = refl

    not_three : (ts : Terms) → (count ts ≡ 3 → ⊥) → of_term A (Some (Call f ts)) ≡ combine1 (call_one f) (of_terms A (Some ts))
    not_three ts h = plain ts (ap (λ e. same_name f (named "IF") && e) (other (count ts) 3 h) ∙ and_false (same_name f (named "IF")))

    -- a call of three actuals
    module _ (a b c : Term) where
      is_if : f ≡ named "IF" → of_term A (Some (If a b c)) ≡ combine1 (call_one f) (of_terms A (Some (More a (More b (More c NoTerms)))))
      is_if e = subst (λ g. of_term A (Some (If a b c)) ≡ combine1 (call_one g) (of_terms A (Some (More a (More b (More c NoTerms)))))) (sym e) (go (takes A (named "IF") 3) (is_term A a) (is_term A b) (is_term A c) ∙ sym (combine1-cond (call_one (named "IF")) (is_term A a && (is_term A b && (is_term A c && true))) (list3 (term_object a) (term_object b) (term_object c), 3)))
        where
          go : (k p q r : Bool) → cond (k && (p && (q && r))) (Some (Pair (symbol "IF") (list3 (term_object a) (term_object b) (term_object c)), 0)) None ≡ cond (p && (q && (r && true))) (given (k && true) (Pair (symbol "IF") (list3 (term_object a) (term_object b) (term_object c)))) None
          go true true true true = refl
          go true true true false = refl
          go true true false r = refl
          go true false q r = refl
          go false true true true = refl
          go false true true false = refl
          go false true false r = refl
          go false false q r = refl

      by_name : (i : Bool) → same_name f (named "IF") ≡ i → of_term A (Some (cond (same_name f (named "IF")) (If a b c) (Call f (More a (More b (More c NoTerms)))))) ≡ combine1 (call_one f) (of_terms A (Some (More a (More b (More c NoTerms)))))
      by_name true e = ap (λ t. of_term A (Some (cond t (If a b c) (Call f (More a (More b (More c NoTerms))))))) e ∙ is_if (same_name-eq f (named "IF") e)
      by_name false e = ap (λ t. of_term A (Some (cond t (If a b c) (Call f (More a (More b (More c NoTerms))))))) e ∙ plain (More a (More b (More c NoTerms))) (ap (λ i. i && true) e)

    of_call : (p : Option Terms) → of_term A (option_and_then (form Other f) p) ≡ combine1 (call_one f) (of_terms A p)
    of_call None = refl
    of_call (Some NoTerms) = not_three NoTerms (λ e. absurd (omega (arith, e)))
    of_call (Some (More a NoTerms)) = not_three (More a NoTerms) (λ e. absurd (omega (arith, e)))
    of_call (Some (More a (More b NoTerms))) = not_three (More a (More b NoTerms)) (λ e. absurd (omega (arith, e)))
    of_call (Some (More a (More b (More c NoTerms)))) = by_name a b c (same_name f (named "IF")) refl
    of_call (Some (More a (More b (More c (More d ts))))) = not_three (More a (More b (More c (More d ts)))) (λ e. absurd (omega (arith, e)))

    pub call-terms : (r : Object) → of_term A (option_and_then (form Other f) (expanded_each r)) ≡ combine1 (call_one f) (meaning A kind.Terms r)
    call-terms r = of_call (expanded_each r)

  -- a place in a list
  abbrev pub place_one : ℕ → Meaning → Option Meaning
  place_one n m = place_made A n m.0

  cdrs-object : (n : ℕ) (t : Term) → term_object (cdr_terms n t) ≡ cdrs n (term_object t)
  cdrs-object zero t = refl
  cdrs-object (suc n) t = ap (list2 (symbol "CDR")) (cdrs-object n t)

  and_true : (a : Bool) → (a && true) ≡ a
  and_true true = refl
  and_true false = refl

  cdrs-term : (n : ℕ) (t : Term) → is_term A (cdr_terms n t) ≡ ((eqb n 0 || takes A (named "CDR") 1) && is_term A t)
  cdrs-term zero t = refl
  cdrs-term (suc n) t =
      ap (λ b. takes A (named "CDR") 1 && (b && true)) (cdrs-term n t)
      ∙ (go (eqb n 0) (takes A (named "CDR") 1) (is_term A t)
      ∙ ap (λ e. (e || takes A (named "CDR") 1) && is_term A t) (sym (other (suc n) 0 (λ e. absurd (omega (arith, e))))))
    where
      go : (e k t : Bool) → (k && (((e || k) && t) && true)) ≡ ((false || k) && t)
      go true true true = refl
      go true true false = refl
      go true false t = refl
      go false true true = refl
      go false true false = refl
      go false false t = refl

  of_place : (n : ℕ) (o : Option Term) → of_term A (with_terms (place_of n) (map2 More o (Some NoTerms))) ≡ combine1 (place_one n) (of_term A o)
  of_place n None = refl
  of_place n (Some t) =
      ap₂ (λ b x. cond (takes A (named "CAR") 1 && (b && true)) (Some (list2 (symbol "CAR") x, 0)) None) (cdrs-term n t) (cdrs-object n t)
      ∙ go (takes A (named "CAR") 1) (eqb n 0 || takes A (named "CDR") 1) (is_term A t)
    where
      go : (k e t' : Bool) → cond (k && ((e && t') && true)) (Some (list2 (symbol "CAR") (cdrs n (term_object t)), 0)) None ≡ combine1 (λ m. given (k && e) (list2 (symbol "CAR") (cdrs n m.0))) (cond t' (Some (term_object t, 0)) None)
      go true true true = refl
      go true true false = refl
      go true false true = refl
      go true false false = refl
      go false e true = refl
      go false e false = refl

  pub place-one : (n : ℕ) (a : Object) → of_term A (with_terms (place_of n) (expanded_each (list1 a))) ≡ combine1 (place_one n) (meaning A kind.Term a)
  place-one n a = of_place n (expanded a)

  -- where there is not one member there is no place
  pub place-shape : (n : ℕ) (r : Object) → has_members 1 r ≡ false → of_term A (with_terms (place_of n) (expanded_each r)) ≡ None
  place-shape n (Natural m) h = refl
  place-shape n (Symbol s) h = go (same_name s nil_name)
    where
      go : (b : Bool) → of_term A (with_terms (place_of n) (cond b (Some NoTerms) None)) ≡ None
      go true = refl
      go false = refl
  place-shape n (Pair a (Natural m)) h = go (expanded a)
    where
      go : (o : Option Term) → of_term A (with_terms (place_of n) (map2 More o None)) ≡ None
      go None = refl
      go (Some t) = refl
  place-shape n (Pair a (Symbol s)) h = ap (λ b. of_term A (with_terms (place_of n) (map2 More (expanded a) (cond b (Some NoTerms) None)))) h ∙ go (expanded a)
    where
      go : (o : Option Term) → of_term A (with_terms (place_of n) (map2 More o None)) ≡ None
      go None = refl
      go (Some t) = refl
  place-shape n (Pair a (Pair b z)) h = go (expanded a) (expanded b) (expanded_each z)
    where
      go : (o p : Option Term) (q : Option Terms) → of_term A (with_terms (place_of n) (map2 More o (map2 More p q))) ≡ None
      go None p q = refl
      go (Some t) None q = refl
      go (Some t) (Some u) None = refl
      go (Some t) (Some u) (Some us) = refl

  -- the head of a lambda call
  abbrev pub lambda_both : Meaning → Meaning → Option Meaning
  lambda_both h m = cond (eqb h.1 m.1) (Some (Pair h.0 m.0, 0)) None

  of_lambda : (w : Bool) (o : Option (List Name)) (p : Option Term) (q : Option Terms) → of_term A (lambda_of w o p q) ≡ combine2 lambda_both (when w (of_head A o p)) (of_terms A q)
  of_lambda false o p q = refl
  of_lambda true None p q = refl
  of_lambda true (Some xs) None q = refl
  of_lambda true (Some xs) (Some b) None = sym (combine2-none lambda_both (of_head A (Some xs) (Some b)))
  of_lambda true (Some xs) (Some b) (Some ts) =
      go (are_formals xs) (is_closed xs b) (eqb (length xs) (count ts)) (is_term A b) (are_terms A ts)
      ∙ sym (combine2-cond lambda_both (are_formals xs && (is_closed xs b && is_term A b)) (are_terms A ts) (list3 (symbol "LAMBDA") (names_object xs) (term_object b), length xs) (terms_object ts, count ts))
    where
      go : (f c e t u : Bool) → cond (f && (c && (e && (t && u)))) (Some (Pair (list3 (symbol "LAMBDA") (names_object xs) (term_object b)) (terms_object ts), 0)) None ≡ cond {A = Option Meaning} (f && (c && t)) (cond {A = Option Meaning} u (cond {A = Option Meaning} e (Some (Pair (list3 (symbol "LAMBDA") (names_object xs) (term_object b)) (terms_object ts), 0)) None) None) None
      go false c e t u = refl
      go true false e t u = refl
      go true true true true true = refl
      go true true true true false = refl
      go true true true false u = refl
      go true true false true true = refl
      go true true false true false = refl
      go true true false false u = refl

  pub lambda-call : (h r : Object) → is_pair h ≡ true → meaning A kind.Term (Pair h r) ≡ combine2 lambda_both (meaning A kind.Head h) (meaning A kind.Terms r)
  lambda-call (Natural n) r e = cc
  lambda-call (Symbol s) r e = cc
  lambda-call (Pair l (Natural n)) r e = refl
  lambda-call (Pair l (Symbol s)) r e = refl
  lambda-call (Pair l (Pair xs (Natural n))) r e = refl
  lambda-call (Pair l (Pair xs (Symbol s))) r e = refl
  lambda-call (Pair l (Pair xs (Pair b z))) r e = of_lambda (same_object l (symbol "LAMBDA") && same_object z NIL) (names_of xs) (expanded b) (expanded_each r)

  -- a term that was made
  pub body_of : (o : Option Term) (m : Meaning) → of_term A o ≡ Some m → (t : Term) × (o ≡ Some t) × (is_term A t ≡ true) × (term_object t ≡ m.0) × (m.1 ≡ 0)
  body_of None m h = cc
  body_of (Some t) m h = go (is_term A t) refl h
    where
      go : (b : Bool) → is_term A t ≡ b → cond b (Some (term_object t, 0)) None ≡ Some m → (u : Term) × (Some t ≡ Some u) × (is_term A u ≡ true) × (term_object u ≡ m.0) × (m.1 ≡ 0)
      go true e k = (t, refl, e, ap (λ z. z.0) (some_meaning k), ap (λ z. z.1) (sym (some_meaning k)))
        where
          some_meaning : Some (term_object t, 0) ≡ Some m → (term_object t, 0) ≡ m
          some_meaning z = cc
      go false e k = cc

  pub head-none : (l xs b : Object) → of_term A (expanded b) ≡ None → head_meaning A (Pair l (list2 xs b)) ≡ None
  head-none l xs b h = go (same_object l (symbol "LAMBDA")) (names_of xs) (expanded b) h
    where
      go : (w : Bool) (o : Option (List Name)) (p : Option Term) → of_term A p ≡ None → when (w && true) (of_head A o p) ≡ None
      go false o p k = refl
      go true None p k = refl
      go true (Some ys) None k = refl
      go true (Some ys) (Some t) k = by (are_formals ys) (is_closed ys t) (is_term A t) k
        where
          by : (f c u : Bool) → cond {A = Option Meaning} u (Some (term_object t, 0)) None ≡ None → cond {A = Option Meaning} (f && (c && u)) (Some (list3 (symbol "LAMBDA") (names_object ys) (term_object t), length ys)) None ≡ None
          by f c true e = cc
          by true true false e = refl
          by true false false e = refl
          by false c false e = refl

  pub head-body : (l xs b m : Object) (t : Term) → same_object l (symbol "LAMBDA") ≡ true → expanded b ≡ Some t → is_term A t ≡ true → term_object t ≡ m → head_meaning A (Pair l (list2 xs b)) ≡ head_made l xs m t
  head-body l xs b m t w e k o =
      ap₂ (λ u p. when (u && true) (of_head A (names_of xs) p)) w e ∙ go (names_of xs) refl
    where
      go : (q : Option (List Name)) → names_of xs ≡ q → of_head A q (Some t) ≡ head_of l xs q t m
      go None n = refl
      go (Some ys) n =
          ap (λ u. cond (are_formals ys && (is_closed ys t && u)) (Some (list3 (symbol "LAMBDA") (names_object ys) (term_object t), length ys)) None) k
          ∙ (ap (λ c. cond (are_formals ys && c) (Some (list3 (symbol "LAMBDA") (names_object ys) (term_object t), length ys)) None) (and_true (is_closed ys t))
          ∙ ap (λ z. cond (are_formals ys && is_closed ys t) (Some (z, length ys)) None) (ap₂ (λ x y. list3 x y (term_object t)) (sym (same_object-eq l (symbol "LAMBDA") w)) (names_back xs ys n) ∙ ap (list3 l xs) o))
