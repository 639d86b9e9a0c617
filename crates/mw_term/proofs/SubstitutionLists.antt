-- A substitution's object, one pair after another.
use Rattle.std.proofs.Common.{◌≡◌, Bool, true, false, ◌&&◌, refl, ap, ◌∙◌}
use Rattle.mw_model.specs.Terms.Object.{Object, Natural, Symbol, Pair, car, cdr, same_object, NIL}
use Rattle.mw_model.specs.Terms.Term.{ArityTable}
use Rattle.mw_model.specs.Values.Primitive.{is_pair}
use Rattle.mw_model.specs.Laws.Rules.{is_variable_object, is_term_object, is_substitution_object}

and_regroup : (a b c d : Bool) → (a && (b && (c && d))) ≡ ((a && (b && c)) && d)
and_regroup true true c d = refl
and_regroup true false c d = refl
and_regroup false b c d = refl

pub is_substitution_object-pair : (A : ArityTable) (x p r : Object) → x ≡ Pair p r → is_substitution_object A x ≡ ((is_pair p && (is_variable_object (car p) && is_term_object A (cdr p))) && is_substitution_object A r)
is_substitution_object-pair A x p r e = ap (is_substitution_object A) e ∙ and_regroup (is_pair p) (is_variable_object (car p)) (is_term_object A (cdr p)) (is_substitution_object A r)

pub is_substitution_object-end : (A : ArityTable) (x : Object) → is_pair x ≡ false → is_substitution_object A x ≡ same_object x NIL
is_substitution_object-end A (Natural n) h = refl
is_substitution_object-end A (Symbol s) h = refl
is_substitution_object-end A (Pair a b) h = cc
