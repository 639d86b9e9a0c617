-- What one turn of comparing tells of two pairs.
use Rattle.std.proofs.Common.{◌≡◌, ℕ, ◌<◌, true, false, cond, ltb, List, ap, ap₂, ◌∙◌, arith}
use Rattle.mw_model.specs.Terms.Object.{Object, Pair, same_object, car, cdr}
use Rattle.mw_model.specs.Values.Primitive.{number}
use Rattle.mw_model.specs.Laws.Ordinal.{is_below}
use Rattle.mw_ordinal.specs.declared.turn.Turn.{Turn}
use Rattle.mw_ordinal.specs.declared.turn.Turn.TheVariants.{Decided, Next}
use Rattle.mw_ordinal.specs.Turns.{Turns}
use Rattle.mw_descent.proofs.Ordinals.{pairs_compare}

module _ (x y p r q s : Object) (is_x : x ≡ Pair p r) (is_y : y ≡ Pair q s) where
  compared : is_below x y ≡ cond (same_object (car p) (car q)) (cond (same_object (cdr p) (cdr q)) (is_below r s) (ltb (number (cdr p)) (number (cdr q)))) (is_below (car p) (car q))
  compared = ap₂ is_below is_x is_y ∙ pairs_compare p r q s

  pub by_exponents : same_object (car p) (car q) ≡ false → is_below x y ≡ is_below (car p) (car q)
  by_exponents e = compared ∙ ap (λ t. cond t (cond (same_object (cdr p) (cdr q)) (is_below r s) (ltb (number (cdr p)) (number (cdr q)))) (is_below (car p) (car q))) e

  past_exponents : same_object (car p) (car q) ≡ true → is_below x y ≡ cond (same_object (cdr p) (cdr q)) (is_below r s) (ltb (number (cdr p)) (number (cdr q)))
  past_exponents e = compared ∙ ap (λ t. cond t (cond (same_object (cdr p) (cdr q)) (is_below r s) (ltb (number (cdr p)) (number (cdr q)))) (is_below (car p) (car q))) e

  pub by_coefficients : same_object (car p) (car q) ≡ true → same_object (cdr p) (cdr q) ≡ false → is_below x y ≡ ltb (number (cdr p)) (number (cdr q))
  by_coefficients e f = past_exponents e ∙ ap (λ t. cond t (is_below r s) (ltb (number (cdr p)) (number (cdr q)))) f

  pub by_rests : same_object (car p) (car q) ≡ true → same_object (cdr p) (cdr q) ≡ true → is_below x y ≡ is_below r s
  by_rests e f = past_exponents e ∙ ap (λ t. cond t (is_below r s) (ltb (number (cdr p)) (number (cdr q)))) f

-- a turn of two that are below as x and y are
pub Turns-along : (os : List Object) (m n : ℕ) (a b x y : Object) (t : Turn) → m < n → is_below x y ≡ is_below a b → Turns os m a b t → Turns os n x y t
Turns-along os m n a b x y (Decided below) l e h = e ∙ h
Turns-along os m n a b x y (Next e' f) l e h = (h.0, h.1, omega (arith, h.2, l), e ∙ h.3)
