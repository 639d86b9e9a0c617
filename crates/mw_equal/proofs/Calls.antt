-- Whether two objects are calls of one function, by their first members.
use Rattle.std.proofs.Common.{◌≡◌, Bool, true, false, ◌&&◌, refl, sym, ap₂, ◌∙◌}
use Rattle.mw_model.specs.Terms.Object.{Object, Natural, Symbol, Pair, NIL, same_object}
use Rattle.mw_model.specs.Values.Primitive.{is_symbol, name_of}
use Rattle.mw_model.specs.Terms.Term.{is_function_name}
use Rattle.mw_model.specs.Laws.Rules.{are_calls_of_one}

and-false : (b : Bool) → (b && false) ≡ false
and-false true = refl
and-false false = refl

pairs : (f ts g us : Object) → are_calls_of_one (Pair f ts) (Pair g us) ≡ ((is_symbol f && is_function_name (name_of f)) && same_object f g)
pairs (Natural n) ts g us = refl
pairs (Pair a b) ts g us = refl
pairs (Symbol f) ts (Natural n) us = sym (and-false (is_function_name f))
pairs (Symbol f) ts (Symbol g) us = refl
pairs (Symbol f) ts (Pair a b) us = sym (and-false (is_function_name f))

pub calls_of_pairs : (x y f ts g us : Object) → x ≡ Pair f ts → y ≡ Pair g us → are_calls_of_one x y ≡ ((is_symbol f && is_function_name (name_of f)) && same_object f g)
calls_of_pairs x y f ts g us p q = ap₂ are_calls_of_one p q ∙ pairs f ts g us

pub no_calls : (x : Object) → are_calls_of_one x NIL ≡ false
no_calls (Natural n) = refl
no_calls (Symbol s) = refl
no_calls (Pair (Natural n) b) = refl
no_calls (Pair (Symbol f) b) = refl
no_calls (Pair (Pair c d) b) = refl
