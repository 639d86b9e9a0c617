-- What is made of each part of a raw term: an object, and a count of its members where it is a list of terms.
use Rattle.std.specs.Prelude.{ℕ, ◌&&◌, cond, List, [], ◌∷◌, length, Option, Some, None, option_map}
use Rattle.mw_model.specs.Terms.Object.{Name, Object, Symbol, Pair, symbol, same_object, list3, NIL}
use Rattle.mw_model.specs.Terms.Term.{Term, Terms, NoTerms, More, ArityTable, count, names_object, term_object, terms_object, are_formals, is_closed, is_term, are_terms}
use Rattle.mw_model.specs.Terms.Reading.{names_of, and_more, if_nil, when}
use Rattle.mw_model.specs.Events.Expansion.{and_term, or_term, list_term, expanded, expanded_each, clauses, bindings}
use Rattle.mw_translate.specs.declared.part.Kind.{Kind}
use Rattle.mw_translate.specs.declared.part.Kind.TheVariants as kind

-- an object and a count
abbrev pub Meaning : Type 0
Meaning = Object × ℕ

-- the names of bindings
abbrev pub binding_names : Object → Option (List Name)
binding_names (Pair (Pair (Symbol x) z) r) = and_more (Some x) (binding_names r)
binding_names (Symbol s) = if_nil s []
binding_names _ = None

-- the values of bindings
abbrev pub values_of : List (Name × Term) → Terms
values_of [] = NoTerms
values_of (p ∷ ps) = More p.1 (values_of ps)

module _ (A : ArityTable) where
  -- terms and lists of terms, where they are such under the arity table
  abbrev pub of_term : Option Term → Option Meaning
  of_term None = None
  of_term (Some t) = cond (is_term A t) (Some (term_object t, 0)) None

  abbrev pub of_terms : Option Terms → Option Meaning
  of_terms None = None
  of_terms (Some ts) = cond (are_terms A ts) (Some (terms_object ts, count ts)) None

  abbrev pub of_names : Option (List Name) → Option Meaning
  of_names None = None
  of_names (Some xs) = Some (names_object xs, 0)

  -- the head of a lambda call, whose body has no variables but its formals
  abbrev pub of_head : Option (List Name) → Option Term → Option Meaning
  of_head (Some xs) (Some b) = cond (are_formals xs && (is_closed xs b && is_term A b)) (Some (list3 (symbol "LAMBDA") (names_object xs) (term_object b), length xs)) None
  of_head _ _ = None

  abbrev pub head_meaning : Object → Option Meaning
  head_meaning (Pair l (Pair xs (Pair b z))) = when (same_object l (symbol "LAMBDA") && same_object z NIL) (of_head (names_of xs) (expanded b))
  head_meaning _ = None

  -- what is made of an object as a part of this kind
  abbrev pub meaning : Kind → Object → Option Meaning
  meaning kind.Term x = of_term (expanded x)
  meaning kind.Terms x = of_terms (expanded_each x)
  meaning kind.And x = of_term (option_map and_term (expanded_each x))
  meaning kind.Or x = of_term (option_map or_term (expanded_each x))
  meaning kind.List x = of_term (option_map list_term (expanded_each x))
  meaning kind.Cond x = of_term (clauses x)
  meaning kind.Names x = of_names (binding_names x)
  meaning kind.Values x = of_terms (option_map values_of (bindings x))
  meaning kind.Head x = head_meaning x
