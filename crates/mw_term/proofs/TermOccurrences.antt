-- The variables of a term's object are those of the term.
use Rattle.std.proofs.Common.{◌≡◌, Bool, true, false, ◌&&◌, cond, List, [], ◌∷◌, ◌++◌, map, Option, Some, None, ℕ, refl, sym, ap, ap₂, ◌∙◌, option_map}
use Rattle.std.proofs.lemmas.List.{append-nil}
use Rattle.mw_model.specs.Terms.Object.{Name, Object, Natural, Symbol, Pair, named, symbol, same_name, same_object, nil_name, NIL}
use Rattle.mw_model.specs.Terms.Term.{Term, Terms, Constant, NoTerms, More, occurrences, all_occurrences, firsts, variables, Call}
use Rattle.mw_model.specs.Terms.Reading.{names_of, constant_of, if_of, lambda_of, term_of, terms_of, map2}
use Rattle.mw_model.proofs.ReadBack.{some_one, cond_some}
use Rattle.mw_heap.specs.Objects.{object_at}
use Rattle.mw_term.specs.Parts.{names_at, AreSymbols}
use Rattle.mw_term.specs.Occurrences.{object_occurrences, objects_occurrences, object_variables}
use Rattle.mw_term.proofs.Symbols.{symbol_is}

constant_has_none : (r : Object) (t : Term) → constant_of r ≡ Some t → occurrences t ≡ []
constant_has_none (Natural n) t h = cc
constant_has_none (Symbol s) t h = cc
constant_has_none (Pair c (Natural n)) t h = cc
constant_has_none (Pair c (Pair a b)) t h = cc
constant_has_none (Pair c (Symbol s)) t h = ap occurrences (sym (some_one (cond_some (same_name s nil_name) (Some (Constant c)) t h).1))

if_has : (o : Option Terms) (t : Term) → if_of o ≡ Some t → (ts : Terms) × (o ≡ Some ts) × (all_occurrences ts ≡ occurrences t)
if_has None t h = cc
if_has (Some NoTerms) t h = cc
if_has (Some (More a NoTerms)) t h = cc
if_has (Some (More a (More b NoTerms))) t h = cc
if_has (Some (More a (More b (More c NoTerms)))) t h =
    (More a (More b (More c NoTerms)), refl, ap (λ l. occurrences a ++ (occurrences b ++ l)) (append-nil (occurrences c)) ∙ ap occurrences (some_one h))
if_has (Some (More a (More b (More c (More d ts))))) t h = cc

call_has : (f : Name) (o : Option Terms) (t : Term) → option_map (Call f) o ≡ Some t → (ts : Terms) × (o ≡ Some ts) × (all_occurrences ts ≡ occurrences t)
call_has f None t h = cc
call_has f (Some ts) t h = (ts, refl, ap occurrences (some_one h))

lambda_has : (b : Bool) (o : Option (List Name)) (p : Option Term) (q : Option Terms) (t : Term) → lambda_of b o p q ≡ Some t → (ts : Terms) × (q ≡ Some ts) × (all_occurrences ts ≡ occurrences t)
lambda_has true (Some xs) (Some b) (Some ts) t h = (ts, refl, ap occurrences (some_one h))
lambda_has true (Some xs) (Some b) None t h = cc
lambda_has true (Some xs) None q t h = cc
lambda_has true None p q t h = cc
lambda_has false o p q t h = cc

more_has : (o : Option Term) (p : Option Terms) (ts : Terms) → map2 More o p ≡ Some ts → (u : Term) × (us : Terms) × (o ≡ Some u) × (p ≡ Some us) × (occurrences u ++ all_occurrences us ≡ all_occurrences ts)
more_has None p ts h = cc
more_has (Some u) None ts h = cc
more_has (Some u) (Some us) ts h = (u, us, refl, refl, ap all_occurrences (some_one h))

mutual
  pub object_occurrences-term : (x : Object) (t : Term) → term_of x ≡ Some t → object_occurrences x ≡ occurrences t
  object_occurrences-term (Natural n) t h = cc
  object_occurrences-term (Symbol s) t h = ap occurrences (some_one h)
  object_occurrences-term (Pair (Natural n) r) t h = cc
  object_occurrences-term (Pair (Symbol f) r) t h = go (same_name f (named "QUOTE")) (same_name f (named "IF")) (objects_occurrences-terms r) h
    where
      go : (s q : Bool) → ((ts : Terms) → terms_of r ≡ Some ts → objects_occurrences r ≡ all_occurrences ts) → cond s (constant_of r) (cond q (if_of (terms_of r)) (option_map (Call f) (terms_of r))) ≡ Some t → cond s [] (objects_occurrences r) ≡ occurrences t
      go true q rest k = sym (constant_has_none r t k)
      go false true rest k = let p = if_has (terms_of r) t k in rest p.0 p.1 ∙ p.2
      go false false rest k = let p = call_has f (terms_of r) t k in rest p.0 p.1 ∙ p.2
  object_occurrences-term (Pair (Pair l (Natural n)) r) t h = cc
  object_occurrences-term (Pair (Pair l (Symbol s)) r) t h = cc
  object_occurrences-term (Pair (Pair l (Pair xs (Natural n))) r) t h = cc
  object_occurrences-term (Pair (Pair l (Pair xs (Symbol s))) r) t h = cc
  object_occurrences-term (Pair (Pair l (Pair xs (Pair b z))) r) t h =
      let p = lambda_has (same_object l (symbol "LAMBDA") && same_object z NIL) (names_of xs) (term_of b) (terms_of r) t h in
      objects_occurrences-terms r p.0 p.1 ∙ p.2

  objects_occurrences-terms : (x : Object) (ts : Terms) → terms_of x ≡ Some ts → objects_occurrences x ≡ all_occurrences ts
  objects_occurrences-terms (Natural n) ts h = cc
  objects_occurrences-terms (Symbol s) ts h = ap all_occurrences (some_one (cond_some (same_name s nil_name) (Some NoTerms) ts h).1)
  objects_occurrences-terms (Pair a r) ts h =
      let p = more_has (term_of a) (terms_of r) ts h in
      ap₂ (λ k l. k ++ l) (object_occurrences-term a p.0 p.2) (objects_occurrences-terms r p.1 p.3) ∙ p.4

symbols_of_names : (os : List Object) (rs : List ℕ) → AreSymbols os rs → map (object_at os) rs ≡ map Symbol (names_at os rs)
symbols_of_names os [] h = refl
symbols_of_names os (r ∷ rs) h = ap₂ (λ x l. x ∷ l) (symbol_is (object_at os r) h.1) (symbols_of_names os rs h.2)

pub variables_of_term : (os : List Object) (rs : List ℕ) (x : Object) (t : Term) → AreSymbols os rs → names_at os rs ≡ object_variables x → term_of x ≡ Some t → map (object_at os) rs ≡ map Symbol (variables t)
variables_of_term os rs x t h e k = symbols_of_names os rs h ∙ ap (map Symbol) (e ∙ ap (firsts same_name) (object_occurrences-term x t k))
