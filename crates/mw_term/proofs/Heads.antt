-- The head of a lambda call, by its parts.
use Rattle.std.proofs.Common.{◌≡◌, Bool, true, false, ◌&&◌, cond, List, [], ◌∷◌, length, Option, Some, None, is_some, refl, sym, ap, ap₂, ◌∙◌, subst}
use Rattle.std.specs.List.{list_all}
use Rattle.mw_model.specs.Terms.Object.{Name, Object, Pair, symbol, same_name, same_object, NIL}
use Rattle.mw_model.specs.Terms.Term.{Term, ArityTable, is_among, firsts, variables, are_formals, is_closed, is_term}
use Rattle.mw_model.specs.Terms.Reading.{names_of, term_of, when, that}
use Rattle.mw_model.specs.Laws.Rules.{is_term_object}
use Rattle.mw_model.proofs.Closed.{each_among, closed_variables}
use Rattle.mw_model.proofs.ReadBack.{some_one}
use Rattle.mw_term.specs.Parts.{if_formals, formals_of}
use Rattle.mw_term.specs.Occurrences.{is_closed_object}
use Rattle.mw_term.proofs.TermOccurrences.{object_occurrences-term}
use Rattle.mw_term.specs.Marking.{head_count, formal_count}

and_true : (a : Bool) → (a && true) ≡ a
and_true true = refl
and_true false = refl

each_listed : (xs ys : List Name) → list_all (λ y. is_among y xs) ys ≡ each_among ys xs
each_listed xs [] = refl
each_listed xs (y ∷ ys) = ap (λ b. is_among y xs && b) (each_listed xs ys)

-- on the object of a term, closed is what it is on the term
pub closed-object : (xs : List Name) (x : Object) (t : Term) → term_of x ≡ Some t → is_closed_object xs x ≡ is_closed xs t
closed-object xs x t h = ap (λ l. list_all (λ y. is_among y xs) (firsts same_name l)) (object_occurrences-term x t h) ∙ (each_listed xs (variables t) ∙ sym (closed_variables xs t))

pub formals_are : (o : Option (List Name)) (xs : List Name) → if_formals o ≡ Some xs → (o ≡ Some xs) × (are_formals xs ≡ true)
formals_are None xs h = cc
formals_are (Some ys) xs h = go (are_formals ys) refl h
  where
    go : (b : Bool) → are_formals ys ≡ b → cond b (Some ys) None ≡ Some xs → (Some ys ≡ Some xs) × (are_formals xs ≡ true)
    go true e k = (k, subst (λ l. are_formals l ≡ true) (some_one k) e)
    go false e k = cc

-- of a term object, the term
term_is : (A : ArityTable) (x : Object) → is_term_object A x ≡ true → (t : Term) × (term_of x ≡ Some t) × (is_term A t ≡ true)
term_is A x h = go (term_of x) refl h
  where
    go : (o : Option Term) → term_of x ≡ o → is_some (that (is_term A) o) ≡ true → (t : Term) × (term_of x ≡ Some t) × (is_term A t ≡ true)
    go None e k = cc
    go (Some t) e k = (t, e, given (is_term A t) k)
      where
        given : (b : Bool) → is_some (when b (Some t)) ≡ true → b ≡ true
        given true q = refl
        given false q = cc

head-no_term : (A : ArityTable) (o : Option (List Name)) (p : Option Term) → is_some (that (is_term A) p) ≡ false → head_count A o p ≡ None
head-no_term A None p h = refl
head-no_term A (Some xs) None h = refl
head-no_term A (Some xs) (Some b) h = go (are_formals xs) (is_closed xs b) (is_term A b) h
  where
    go : (f c t : Bool) → is_some (when t (Some b)) ≡ false → cond (f && (c && t)) (Some (length xs)) None ≡ None
    go true true true k = cc
    go true true false k = refl
    go true false t k = refl
    go false c t k = refl

head-no_formals : (A : ArityTable) (o : Option (List Name)) (p : Option Term) → if_formals o ≡ None → head_count A o p ≡ None
head-no_formals A None p h = refl
head-no_formals A (Some xs) None h = refl
head-no_formals A (Some xs) (Some b) h = go (are_formals xs) h
  where
    go : (f : Bool) → cond f (Some xs) None ≡ None → cond (f && (is_closed xs b && is_term A b)) (Some (length xs)) None ≡ None
    go true k = cc
    go false k = refl

module _ (A : ArityTable) (word x l b z : Object) (shape : x ≡ Pair l (Pair b z)) where
  count_is : formal_count A (Pair word x) ≡ when (same_object word (symbol "LAMBDA") && same_object z NIL) (head_count A (names_of l) (term_of b))
  count_is = ap (λ y. formal_count A (Pair word y)) shape

  none_when : {X : Type 0} (t : Bool) (o : Option X) → o ≡ None → when t o ≡ None
  none_when true o h = h
  none_when false o h = refl

  pub formal_count-long : same_object z NIL ≡ false → formal_count A (Pair word x) ≡ None
  formal_count-long h = count_is ∙ (ap (λ e. when (same_object word (symbol "LAMBDA") && e) (head_count A (names_of l) (term_of b))) h ∙ never (same_object word (symbol "LAMBDA")))
    where
      never : (t : Bool) → when (t && false) (head_count A (names_of l) (term_of b)) ≡ None
      never true = refl
      never false = refl

  pub formal_count-no_term : is_term_object A b ≡ false → formal_count A (Pair word x) ≡ None
  formal_count-no_term h = count_is ∙ none_when (same_object word (symbol "LAMBDA") && same_object z NIL) (head_count A (names_of l) (term_of b)) (head-no_term A (names_of l) (term_of b) h)

  pub formal_count-no_formals : formals_of l ≡ None → formal_count A (Pair word x) ≡ None
  formal_count-no_formals h = count_is ∙ none_when (same_object word (symbol "LAMBDA") && same_object z NIL) (head_count A (names_of l) (term_of b)) (head-no_formals A (names_of l) (term_of b) h)

  -- where there are formals and a body
  module _ (xs : List Name) (formals : formals_of l ≡ Some xs) (body : is_term_object A b ≡ true) where
    head_is : head_count A (names_of l) (term_of b) ≡ cond (is_closed_object xs b) (Some (length xs)) None
    head_is =
        let p = formals_are (names_of l) xs formals in
        let t = term_is A b body in
        ap₂ (head_count A) p.0 t.1
        ∙ (ap₂ (λ g h. cond (g && (is_closed xs t.0 && h)) (Some (length xs)) None) p.1 t.2
        ∙ ap (λ c. cond c (Some (length xs)) None) (and_true (is_closed xs t.0) ∙ sym (closed-object xs b t.0 t.1)))

    pub formal_count-closes : same_object word (symbol "LAMBDA") ≡ true → same_object z NIL ≡ true → is_some (formal_count A (Pair word x)) ≡ is_closed_object xs b
    formal_count-closes n e = ap is_some (count_is ∙ (ap₂ (λ s t. when (s && t) (head_count A (names_of l) (term_of b))) n e ∙ head_is)) ∙ some_cond (is_closed_object xs b)
      where
        some_cond : (t : Bool) → is_some (cond t (Some (length xs)) None) ≡ t
        some_cond true = refl
        some_cond false = refl
