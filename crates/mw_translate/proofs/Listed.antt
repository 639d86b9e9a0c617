-- Lists of terms, and of the names and values of bindings, by their first and the rest.
use Rattle.std.proofs.Common.{◌≡◌, ℕ, suc, ◌+◌, Bool, true, false, ◌&&◌, cond, List, [], Option, Some, None, option_map, refl, sym, ap, ap₂, ◌∙◌, subst, add-one}
use Rattle.mw_model.specs.Terms.Object.{Name, Object, Natural, Symbol, Pair, same_object, NIL, list1, has_members}
use Rattle.mw_model.specs.Terms.Term.{Term, Terms, ArityTable, count, term_object, terms_object, is_term, are_terms, More}
use Rattle.mw_model.specs.Terms.Reading.{and_more, when, map2}
use Rattle.mw_model.specs.Values.Primitive.{is_symbol}
use Rattle.mw_model.specs.Events.Expansion.{expanded, expanded_each, bindings}
use Rattle.mw_translate.specs.Meaning.{Meaning, of_term, of_terms, of_names, binding_names, values_of, meaning}
use Rattle.mw_heap.specs.Objects.{object_at, IsIn}
use Rattle.mw_translate.specs.Lists.{IsEnd, IsNoBinding}
use Rattle.mw_translate.specs.Memo.{Entries, IsStepOf}
use Rattle.mw_translate.specs.Shapes.{is_headed_by_symbol}
use Rattle.mw_translate.specs.declared.progress.Progress.{Progress}
use Rattle.mw_translate.specs.declared.progress.Progress.TheVariants as progress
use Rattle.mw_translate.specs.declared.part.Kind.{Kind}
use Rattle.mw_translate.specs.declared.part.Kind.TheVariants as kind
use Rattle.mw_translate.proofs.Combine.{combine1, combine2}

-- one more in front
abbrev pub put : Meaning → Meaning → Option Meaning
put a b = Some (Pair a.0 b.0, b.1 + 1)

abbrev pub put_name : Object → Meaning → Option Meaning
put_name x m = Some (Pair x m.0, 0)

module _ (A : ArityTable) where
  more-put : (o : Option Term) (p : Option Terms) → of_terms A (map2 More o p) ≡ combine2 put (of_term A o) (of_terms A p)
  more-put None p = refl
  more-put (Some t) None = go (is_term A t)
    where
      go : (b : Bool) → None ≡ combine2 put (cond b (Some (term_object t, 0)) None) None
      go true = refl
      go false = refl
  more-put (Some t) (Some ts) = go (is_term A t) (are_terms A ts)
    where
      go : (b c : Bool) → cond (b && c) (Some (Pair (term_object t) (terms_object ts), suc (count ts))) None ≡ combine2 put (cond b (Some (term_object t, 0)) None) (cond c (Some (terms_object ts, count ts)) None)
      go true true = ap (λ n. Some (Pair (term_object t) (terms_object ts), n)) (sym (add-one (count ts)))
      go true false = refl
      go false c = refl

  pub terms-pair : (a r : Object) → meaning A kind.Terms (Pair a r) ≡ combine2 put (meaning A kind.Term a) (meaning A kind.Terms r)
  terms-pair a r = more-put (expanded a) (expanded_each r)

  pub names-pair : (x : Name) (z r : Object) → meaning A kind.Names (Pair (Pair (Symbol x) z) r) ≡ combine1 (put_name (Symbol x)) (meaning A kind.Names r)
  names-pair x z r = go (binding_names r)
    where
      go : (o : Option (List Name)) → of_names A (and_more (Some x) o) ≡ combine1 (put_name (Symbol x)) (of_names A o)
      go None = refl
      go (Some xs) = refl

  pub values-pair : (x : Name) (e r : Object) → meaning A kind.Values (Pair (Pair (Symbol x) (list1 e)) r) ≡ combine2 put (meaning A kind.Term e) (meaning A kind.Values r)
  values-pair x e r = given (expanded e) (bindings r)
    where
      given : (o : Option Term) (p : Option (List (Name × Term))) → of_terms A (option_map values_of (and_more (option_map (λ t. (x, t)) o) p)) ≡ combine2 put (of_term A o) (of_terms A (option_map values_of p))
      given None p = refl
      given (Some t) None = more-put (Some t) None
      given (Some t) (Some ps) = more-put (Some t) (Some (values_of ps))

  pub values-long : (x : Name) (z r : Object) → has_members 1 z ≡ false → meaning A kind.Values (Pair (Pair (Symbol x) z) r) ≡ None
  values-long x (Natural n) r h = refl
  values-long x (Symbol s) r h = refl
  values-long x (Pair e (Natural n)) r h = refl
  values-long x (Pair e (Symbol s)) r h = ap (λ t. of_terms A (option_map values_of (and_more (when t (option_map (λ t. (x, t)) (expanded e))) (bindings r)))) h
  values-long x (Pair e (Pair a b)) r h = refl

-- a binding of another shape, and an end that is not NIL
pub unnamed : (b r : Object) → is_headed_by_symbol b ≡ false → (binding_names (Pair b r) ≡ None) × (bindings (Pair b r) ≡ None)
unnamed (Natural n) r h = (refl, refl)
unnamed (Symbol s) r h = (refl, refl)
unnamed (Pair (Natural n) z) r h = (refl, refl)
unnamed (Pair (Symbol s) z) r h = cc
unnamed (Pair (Pair a b) z) r h = (refl, refl)

pub no_end : (x : Object) → is_symbol x ≡ true → same_object x NIL ≡ false → (binding_names x ≡ None) × (bindings x ≡ None)
no_end (Natural n) h e = (refl, refl)
no_end (Symbol s) h e = (ap (λ t. cond t (Some []) None) e, ap (λ t. cond t (Some []) None) e)
no_end (Pair a b) h e = cc

pub end-unbound : (os : List Object) (x : ℕ) (s : Progress) → is_symbol (object_at os x) ≡ true → IsEnd os x s → IsNoBinding os x s
end-unbound os x (progress.Made m) h e = e
end-unbound os x (progress.Wants p) h e = e
end-unbound os x progress.Fails h e = no_end (object_at os x) h e

-- where no binding begins, a list of names or of values is empty, or there is none
pub unbound-step : (A : ArityTable) (os : List Object) (es : Entries) (x : ℕ) (k : Kind) (s : Progress) → IsIn os x → meaning A k NIL ≡ Some (NIL, 0) → ((o : Object) → binding_names o ≡ None → bindings o ≡ None → meaning A k o ≡ None) → IsNoBinding os x s → IsStepOf A os os es k x s
unbound-step A os es x k (progress.Made m) within nil none h =
    (subst (IsIn os) (sym h.1) within, ap (meaning A k) h.0 ∙ (nil ∙ ap₂ (λ o n. Some (o, n)) (sym (ap (object_at os) h.1 ∙ h.0)) (sym h.2)))
unbound-step A os es x k (progress.Wants p) within nil none h = absurd h
unbound-step A os es x k progress.Fails within nil none h = none (object_at os x) h.0 h.1
