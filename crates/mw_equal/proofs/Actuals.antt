-- The pairs of formals and arguments, one after another.
use Rattle.std.proofs.Common.{◌≡◌, ℕ, false, ◌&&◌, List, [], ◌∷◌, ◌++◌, refl, sym, ap, ap₂, ◌∙◌}
use Rattle.mw_model.specs.Terms.Object.{Object, Natural, Symbol, Pair, NIL}
use Rattle.mw_model.specs.Values.Primitive.{is_pair}
use Rattle.mw_model.specs.Laws.Rules.{actuals_object}
use Rattle.mw_heap.specs.Objects.{object_at}
use Rattle.mw_subst.proofs.PairLists.{pairs_before, pairs_before-push}

pub actuals_next : (os : List Object) (s : List (ℕ × ℕ)) (x t : ℕ) (xs ts formals arguments whole : Object) → formals ≡ Pair (object_at os x) xs → arguments ≡ Pair (object_at os t) ts → pairs_before os s (actuals_object formals arguments) ≡ whole → pairs_before os (s ++ (x, t) ∷ []) (actuals_object xs ts) ≡ whole
actuals_next os s x t xs ts formals arguments whole d e h =
    pairs_before-push os s (x, t) (actuals_object xs ts) ∙ (ap (pairs_before os s) (sym (ap₂ actuals_object d e)) ∙ h)

pub actuals_end : (x y : Object) → (is_pair x && is_pair y) ≡ false → actuals_object x y ≡ NIL
actuals_end (Natural n) y h = refl
actuals_end (Symbol s) y h = refl
actuals_end (Pair a b) (Natural n) h = refl
actuals_end (Pair a b) (Symbol s) h = refl
actuals_end (Pair a b) (Pair c d) h = cc
