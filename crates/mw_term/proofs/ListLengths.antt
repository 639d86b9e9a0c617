-- A list of terms has as many terms as it is long, and a list of formals as many formals: so a call's actuals are counted by a walk.
use Rattle.std.proofs.Common.{◌≡◌, ℕ, suc, Bool, true, false, ◌&&◌, cond, eqb, List, [], length, Option, Some, None, is_some, refl, sym, ap, ap₂, ◌∙◌, subst, not, ◌+◌, arith, eqb-true, eq-eqb}
use Rattle.mw_model.specs.Terms.Object.{Name, Object, Natural, Symbol, Pair, named, symbol, same_name, same_object, nil_name, NIL}
use Rattle.mw_model.specs.Terms.Term.{Term, Terms, NoTerms, ArityTable, arity_of, count, are_formals, is_closed, is_term, are_terms, More}
use Rattle.mw_model.specs.Terms.Reading.{names_of, and_more, term_of, terms_of, when, map2}
use Rattle.mw_model.specs.Values.Primitive.{is_pair, is_symbol, name_of}
use Rattle.mw_model.specs.Laws.Rules.{is_term_object}
use Rattle.mw_model.proofs.ReadBack.{some_one}
use Rattle.mw_term.specs.Parts.{is_single, length_of, wanted}
use Rattle.mw_term.specs.Marking.{counted, term_count, head_count, formal_count}
use Rattle.mw_term.proofs.Marked.{takes, allows_if, is_term-call, is_term-lambda}

pub no_members : (x : Object) → is_pair x ≡ false → length_of x ≡ 0
no_members (Natural n) h = refl
no_members (Symbol s) h = refl
no_members (Pair a r) h = cc

-- numbers that differ
pub differ : (m n : ℕ) → (m ≡ n → ⊥) → false ≡ eqb m n
differ m n f = go (eqb m n) refl
  where
    go : (b : Bool) → eqb m n ≡ b → false ≡ b
    go true e = absurd (f (eqb-true m n e))
    go false e = refl

pub eqb-suc : (m n : ℕ) → eqb (suc m) (suc n) ≡ eqb m n
eqb-suc m n = go (eqb m n) refl
  where
    go : (b : Bool) → eqb m n ≡ b → eqb (suc m) (suc n) ≡ b
    go true e = eq-eqb (suc m) (suc n) (ap suc (eqb-true m n e))
    go false e = sym (differ (suc m) (suc n) (λ k. let same : m ≡ n = omega (arith, k) in let both = sym (eq-eqb m n same) ∙ e in cc))

-- after m members the list ends exactly when it has so many
pub ends_at : (m l : ℕ) (x : Object) → l ≡ m + length_of x → not (is_pair x) ≡ eqb m l
ends_at m l (Natural n) e = sym (eq-eqb m l (omega (arith, e)))
ends_at m l (Symbol s) e = sym (eq-eqb m l (omega (arith, e)))
ends_at m l (Pair a r) e = differ m l (λ k. omega (arith, k, e))

terms_length : (x : Object) (ts : Terms) → terms_of x ≡ Some ts → count ts ≡ length_of x
terms_length (Natural n) ts h = cc
terms_length (Symbol s) ts h = go (same_name s nil_name) h
  where
    go : (b : Bool) → cond b (Some NoTerms) None ≡ Some ts → count ts ≡ 0
    go true k = ap count (sym (some_one k))
    go false k = cc
terms_length (Pair a r) ts h = go (term_of a) (terms_of r) (terms_length r) h
  where
    go : (o : Option Term) (p : Option Terms) → ((us : Terms) → p ≡ Some us → count us ≡ length_of r) → map2 More o p ≡ Some ts → count ts ≡ suc (length_of r)
    go None p rest k = cc
    go (Some t) None rest k = cc
    go (Some t) (Some us) rest k = ap count (sym (some_one k)) ∙ ap suc (rest us refl)

names_length : (x : Object) (xs : List Name) → names_of x ≡ Some xs → length xs ≡ length_of x
names_length (Natural n) xs h = cc
names_length (Symbol s) xs h = go (same_name s nil_name) h
  where
    go : (b : Bool) → cond b (Some []) None ≡ Some xs → length xs ≡ 0
    go true k = ap length (sym (some_one k))
    go false k = cc
names_length (Pair (Natural n) r) xs h = cc
names_length (Pair (Pair a b) r) xs h = cc
names_length (Pair (Symbol y) r) xs h = go (names_of r) (names_length r) h
  where
    go : (o : Option (List Name)) → ((ys : List Name) → o ≡ Some ys → length ys ≡ length_of r) → and_more (Some y) o ≡ Some xs → length xs ≡ suc (length_of r)
    go None rest k = cc
    go (Some ys) rest k = ap length (sym (some_one k)) ∙ ap suc (rest ys refl)

-- a count, where it is there, is this
at_length : (t : Bool) (m n : ℕ) → m ≡ n → cond t (Some m) None ≡ cond (is_some (cond t (Some m) None)) (Some n) None
at_length true m n e = ap Some e
at_length false m n e = refl

module _ (A : ArityTable) where
  term_count-step : (x : Object) (o : Option Terms) → terms_of x ≡ o → counted A o ≡ cond (is_some (counted A o)) (Some (length_of x)) None
  term_count-step x None e = refl
  term_count-step x (Some ts) e = at_length (are_terms A ts) (count ts) (length_of x) (terms_length x ts e)

  term_count-length : (x : Object) (b : Bool) → b ≡ is_some (term_count A x) → term_count A x ≡ cond b (Some (length_of x)) None
  term_count-length x b h = term_count-step x (terms_of x) refl ∙ ap (λ c. cond c (Some (length_of x)) None) (sym h)

  formal_count-step : (xs : Object) (w : Bool) (o : Option (List Name)) (p : Option Term) → names_of xs ≡ o → when w (head_count A o p) ≡ cond (is_some (when w (head_count A o p))) (Some (length_of xs)) None
  formal_count-step xs false o p e = refl
  formal_count-step xs true None p e = refl
  formal_count-step xs true (Some ns) None e = refl
  formal_count-step xs true (Some ns) (Some u) e = at_length (are_formals ns && (is_closed ns u && is_term A u)) (length ns) (length_of xs) (names_length xs ns e)

  formal_count-length : (l xs y : Object) (b : Bool) → b ≡ is_some (formal_count A (Pair l (Pair xs y))) → formal_count A (Pair l (Pair xs y)) ≡ cond b (Some (length_of xs)) None
  formal_count-length l xs (Natural n) b h = ap (λ c. cond c (Some (length_of xs)) None) (sym h)
  formal_count-length l xs (Symbol s) b h = ap (λ c. cond c (Some (length_of xs)) None) (sym h)
  formal_count-length l xs (Pair u z) b h =
      formal_count-step xs (same_object l (symbol "LAMBDA") && same_object z NIL) (names_of xs) (term_of u) refl ∙ ap (λ c. cond c (Some (length_of xs)) None) (sym h)

-- so long a list of terms is what is wanted
abbrev pub fits : Option ℕ → Bool → ℕ → Bool
fits None t n = false
fits (Some m) t n = t && eqb m n

no_terms : (w : Option ℕ) (n : ℕ) → fits w false n ≡ false
no_terms None n = refl
no_terms (Some m) n = refl

and_true : (a : Bool) → (a && true) ≡ a
and_true true = refl
and_true false = refl

three : (m n : ℕ) (b c : Bool) → eqb m 3 ≡ b → eqb m n ≡ c → fits (cond b (Some m) None) true n ≡ (eqb m n && eqb n 3)
three m n true true e k = k ∙ sym (ap₂ (λ p q. p && q) k (subst (λ x. eqb x 3 ≡ true) (eqb-true m n k) e))
three m n true false e k = k ∙ sym (ap (λ p. p && eqb n 3) k)
three m n false true e k = sym (ap₂ (λ p q. p && q) k (subst (λ x. eqb x 3 ≡ false) (eqb-true m n k) e))
three m n false false e k = sym (ap (λ p. p && eqb n 3) k)

fits-takes : (a : Option ℕ) (i t : Bool) (n : ℕ) → fits (wanted a i) t n ≡ (takes a (cond t (Some n) None) && allows_if i (cond t (Some n) None))
fits-takes None i true n = refl
fits-takes None i false n = refl
fits-takes (Some m) i false n = no_terms (wanted (Some m) i) n
fits-takes (Some m) false true n = sym (and_true (eqb m n))
fits-takes (Some m) true true n = three m n (eqb m 3) (eqb m n) refl refl

module _ (A : ArityTable) where
  -- a call, by how many actuals its function wants and how long they are
  is_term-fits : (f : Name) (r : Object) (t : Bool) → t ≡ is_some (term_count A r) → same_name f (named "QUOTE") ≡ false → is_term_object A (Pair (Symbol f) r) ≡ fits (wanted (arity_of A f) (same_name f (named "IF"))) t (length_of r)
  is_term-fits f r t h no_quote =
      is_term-call A f r
      ∙ (ap₂ (λ q c. cond q (is_single r) (takes (arity_of A f) c && allows_if (same_name f (named "IF")) c)) no_quote (term_count-length A r t h)
      ∙ sym (fits-takes (arity_of A f) (same_name f (named "IF")) t (length_of r)))

  pub is_term-symbol_fits : (x r : Object) (t : Bool) → is_symbol x ≡ true → t ≡ is_some (term_count A r) → same_object x (symbol "QUOTE") ≡ false → is_term_object A (Pair x r) ≡ fits (wanted (arity_of A (name_of x)) (same_object x (symbol "IF"))) t (length_of r)
  is_term-symbol_fits (Natural n) r t s h no_quote = cc
  is_term-symbol_fits (Symbol f) r t s h no_quote = is_term-fits f r t h no_quote
  is_term-symbol_fits (Pair a b) r t s h no_quote = cc

  -- and one whose actuals are no terms
  pub is_term-no_actuals : (x r : Object) → is_symbol x ≡ true → false ≡ is_some (term_count A r) → same_object x (symbol "QUOTE") ≡ false → is_term_object A (Pair x r) ≡ false
  is_term-no_actuals x r s h no_quote = is_term-symbol_fits x r false s h no_quote ∙ no_terms (wanted (arity_of A (name_of x)) (same_object x (symbol "IF"))) (length_of r)

  -- a constant
  pub is_term-quoted : (x r : Object) → same_object x (symbol "QUOTE") ≡ true → is_term_object A (Pair x r) ≡ is_single r
  is_term-quoted (Natural n) r h = cc
  is_term-quoted (Symbol f) r h = is_term-call A f r ∙ ap (λ q. cond q (is_single r) (takes (arity_of A f) (term_count A r) && allows_if (same_name f (named "IF")) (term_count A r))) h
  is_term-quoted (Pair a b) r h = cc

  lambda_lengths : (m n : ℕ) (h t : Bool) → takes (cond h (Some m) None) (cond t (Some n) None) ≡ (h && (t && eqb m n))
  lambda_lengths m n true true = refl
  lambda_lengths m n true false = refl
  lambda_lengths m n false true = refl
  lambda_lengths m n false false = refl

  -- a lambda call, by how long its formals and its actuals are
  pub is_term-lambda_lengths : (l xs y r : Object) (h t : Bool) → h ≡ is_some (formal_count A (Pair l (Pair xs y))) → t ≡ is_some (term_count A r)
      → is_term_object A (Pair (Pair l (Pair xs y)) r) ≡ (h && (t && eqb (length_of xs) (length_of r)))
  is_term-lambda_lengths l xs y r h t e k =
      is_term-lambda A l (Pair xs y) r ∙ (ap₂ takes (formal_count-length A l xs y h e) (term_count-length A r t k) ∙ lambda_lengths (length_of xs) (length_of r) h t)

  no_takes : (n : Option ℕ) → takes None n ≡ false
  no_takes None = refl
  no_takes (Some n) = refl

  -- what has no such head, or no such actuals, is none
  pub is_term-no_head : (l y r : Object) → false ≡ is_some (formal_count A (Pair l y)) → is_term_object A (Pair (Pair l y) r) ≡ false
  is_term-no_head l y r h = is_term-lambda A l y r ∙ (ap (λ o. takes o (term_count A r)) (absent (formal_count A (Pair l y)) h) ∙ no_takes (term_count A r))
    where
      absent : (o : Option ℕ) → false ≡ is_some o → o ≡ None
      absent None k = refl
      absent (Some n) k = cc

  pub is_term-no_terms : (l y r : Object) → false ≡ is_some (term_count A r) → is_term_object A (Pair (Pair l y) r) ≡ false
  is_term-no_terms l y r h = is_term-lambda A l y r ∙ ap (takes (formal_count A (Pair l y))) (absent (term_count A r) h)
    where
      absent : (o : Option ℕ) → false ≡ is_some o → o ≡ None
      absent None k = refl
      absent (Some n) k = cc

  -- a head has its formals
  pub no_head-no_pair : (l y : Object) → is_pair y ≡ false → is_some (formal_count A (Pair l y)) ≡ false
  no_head-no_pair l (Natural n) h = refl
  no_head-no_pair l (Symbol s) h = refl
  no_head-no_pair l (Pair a b) h = cc
