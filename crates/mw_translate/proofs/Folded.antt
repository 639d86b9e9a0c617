-- Members of AND, OR, LIST and COND by their first and the rest.
use Rattle.std.proofs.Common.{◌≡◌, Bool, true, false, ◌&&◌, cond, Option, Some, None, option_map, refl, sym, ap, ◌∙◌}
use Rattle.mw_model.specs.Terms.Object.{Object, Natural, Symbol, Pair, named, symbol, same_object, NIL, list2, list3}
use Rattle.mw_model.specs.Terms.Term.{Term, Terms, NoTerms, More, If, Constant, ArityTable, term_object, is_term}
use Rattle.mw_model.specs.Terms.Reading.{map2}
use Rattle.std.specs.Option.{option_zip}
use Rattle.mw_model.specs.Events.Expansion.{expanded, expanded_each, and_term, or_term, list_term, cond_term, clauses}
use Rattle.mw_translate.specs.Meaning.{Meaning, of_term, meaning}
use Rattle.mw_translate.specs.Checked.{if_made, given, takes}
use Rattle.mw_translate.specs.Folds.{fold_kind, keeps_last, joined}
use Rattle.mw_translate.specs.declared.folds.Fold.{Fold}
use Rattle.mw_translate.specs.declared.folds.Fold.TheVariants as fold
use Rattle.mw_translate.specs.declared.part.Kind.TheVariants as kind
use Rattle.mw_translate.proofs.Combine.{combine2, combine3, combine2-none, combine3-second, combine3-third}

abbrev pub quoted_nil : Object
quoted_nil = list2 (symbol "QUOTE") NIL

-- where there is a member, there is no empty list
none_empty : (o : Option Term) (p : Option Terms) → map2 More o p ≡ Some NoTerms → ⊥
none_empty None p h = cc
none_empty (Some t) None h = cc
none_empty (Some t) (Some ts) h = absurd (apart h)
  where
    is_empty : Option Terms → Bool
    is_empty None = false
    is_empty (Some NoTerms) = true
    is_empty (Some (More u us)) = false

    apart : Some (More t ts) ≡ Some NoTerms → ⊥
    apart e = let k : false ≡ true = ap is_empty e in cc

not_empty : (r : Object) → same_object r NIL ≡ false → expanded_each r ≡ Some NoTerms → ⊥
not_empty (Natural n) h e = cc
not_empty (Symbol s) h e = let k : None ≡ Some NoTerms = ap (λ t. cond t (Some NoTerms) None) (sym h) ∙ e in cc
not_empty (Pair a r) h e = none_empty (expanded a) (expanded_each r) e

nil_each : (r : Object) → same_object r NIL ≡ true → expanded_each r ≡ Some NoTerms
nil_each (Natural n) h = cc
nil_each (Symbol s) h = ap (λ t. cond t (Some NoTerms) None) h
nil_each (Pair a r) h = cc

module _ (A : ArityTable) where
  abbrev pub join_both : Fold → Meaning → Meaning → Option Meaning
  join_both f a b = joined A f a.0 b.0

  abbrev pub if_three : Meaning → Meaning → Meaning → Option Meaning
  if_three a b c = if_made A a.0 b.0 c.0

  -- a call of IF by its parts
  if-parts : (a b c : Term) → of_term A (Some (If a b c)) ≡ combine3 if_three (of_term A (Some a)) (of_term A (Some b)) (of_term A (Some c))
  if-parts a b c = go (takes A (named "IF") 3) (is_term A a) (is_term A b) (is_term A c)
    where
      go : (i p q r : Bool) → cond (i && (p && (q && r))) (Some (term_object (If a b c), 0)) None ≡ combine3 (λ x y z. given i (Pair (symbol "IF") (list3 x.0 y.0 z.0))) (cond p (Some (term_object a, 0)) None) (cond q (Some (term_object b, 0)) None) (cond r (Some (term_object c, 0)) None)
      go true true true true = refl
      go true true true false = refl
      go true true false r = refl
      go true false q r = refl
      go false false q r = refl
      go false true false r = refl
      go false true true false = refl
      go false true true true = refl

  -- a part that stands twice
  combine3-twice : (f : Meaning → Meaning → Meaning → Option Meaning) (o p : Option Meaning) → combine3 f o o p ≡ combine2 (λ a b. f a a b) o p
  combine3-twice f None p = refl
  combine3-twice f (Some a) p = refl

  and_of : (o : Option Term) (p : Option Terms) → (p ≡ Some NoTerms → ⊥) → of_term A (option_map and_term (map2 More o p)) ≡ combine2 (join_both fold.And) (of_term A o) (of_term A (option_map and_term p))
  and_of None p h = refl
  and_of (Some t) None h = sym (combine2-none (join_both fold.And) (of_term A (Some t)))
  and_of (Some t) (Some NoTerms) h = absurd (h refl)
  and_of (Some t) (Some (More u us)) h = if-parts t (and_term (More u us)) (Constant NIL) ∙ third (of_term A (Some t)) (of_term A (Some (and_term (More u us))))
    where
      third : (o p : Option Meaning) → combine3 if_three o p (Some (quoted_nil, 0)) ≡ combine2 (join_both fold.And) o p
      third None p = refl
      third (Some a) None = refl
      third (Some a) (Some b) = refl

  or_of : (o : Option Term) (p : Option Terms) → (p ≡ Some NoTerms → ⊥) → of_term A (option_map or_term (map2 More o p)) ≡ combine2 (join_both fold.Or) (of_term A o) (of_term A (option_map or_term p))
  or_of None p h = refl
  or_of (Some t) None h = sym (combine2-none (join_both fold.Or) (of_term A (Some t)))
  or_of (Some t) (Some NoTerms) h = absurd (h refl)
  or_of (Some t) (Some (More u us)) h = if-parts t t (or_term (More u us)) ∙ combine3-twice if_three (of_term A (Some t)) (of_term A (Some (or_term (More u us))))

  list_of : (o : Option Term) (p : Option Terms) → of_term A (option_map list_term (map2 More o p)) ≡ combine2 (join_both fold.List) (of_term A o) (of_term A (option_map list_term p))
  list_of None p = refl
  list_of (Some t) None = sym (combine2-none (join_both fold.List) (of_term A (Some t)))
  list_of (Some t) (Some ts) = go (takes A (named "CONS") 2) (is_term A t) (is_term A (list_term ts))
    where
      go : (i p q : Bool) → cond (i && (p && (q && true))) (Some (list3 (symbol "CONS") (term_object t) (term_object (list_term ts)), 0)) None ≡ combine2 (λ x y. given i (list3 (symbol "CONS") x.0 y.0)) (cond p (Some (term_object t, 0)) None) (cond q (Some (term_object (list_term ts), 0)) None)
      go true true true = refl
      go true true false = refl
      go true false q = refl
      go false true true = refl
      go false true false = refl
      go false false q = refl

  -- one member that stands for itself
  alone : (make : Terms → Term) (o : Option Term) → ((t : Term) → make (More t NoTerms) ≡ t) → of_term A (option_map make (map2 More o (Some NoTerms))) ≡ of_term A o
  alone make None h = refl
  alone make (Some t) h = ap (λ u. of_term A (Some u)) (h t)

  cond_of : (o p q : Option Term) → of_term A (cond_term (option_zip o p) q) ≡ combine3 if_three (of_term A o) (of_term A p) (of_term A q)
  cond_of None p q = refl
  cond_of (Some a) None q = sym (combine3-second if_three (of_term A (Some a)) (of_term A q))
  cond_of (Some a) (Some b) None = sym (combine3-third if_three (of_term A (Some a)) (of_term A (Some b)))
  cond_of (Some a) (Some b) (Some c) = if-parts a b c

  -- the first member is joined to the others
  pub fold-more : (f : Fold) (a r : Object) → (keeps_last f && same_object r NIL) ≡ false → meaning A (fold_kind f) (Pair a r) ≡ combine2 (join_both f) (meaning A kind.Term a) (meaning A (fold_kind f) r)
  fold-more fold.And a r h = and_of (expanded a) (expanded_each r) (not_empty r h)
  fold-more fold.Or a r h = or_of (expanded a) (expanded_each r) (not_empty r h)
  fold-more fold.List a r h = list_of (expanded a) (expanded_each r)

  -- the last member alone
  pub fold-one : (f : Fold) (a r : Object) → (keeps_last f && same_object r NIL) ≡ true → meaning A (fold_kind f) (Pair a r) ≡ meaning A kind.Term a
  fold-one fold.And a r h = ap (λ p. of_term A (option_map and_term (map2 More (expanded a) p))) (nil_each r h) ∙ alone and_term (expanded a) (λ t. refl)
  fold-one fold.Or a r h = ap (λ p. of_term A (option_map or_term (map2 More (expanded a) p))) (nil_each r h) ∙ alone or_term (expanded a) (λ t. refl)
  fold-one fold.List a r h = cc

  pub cond-pair : (c e r : Object) → meaning A kind.Cond (Pair (list2 c e) r) ≡ combine3 if_three (meaning A kind.Term c) (meaning A kind.Term e) (meaning A kind.Cond r)
  cond-pair c e r = cond_of (expanded c) (expanded e) (clauses r)
