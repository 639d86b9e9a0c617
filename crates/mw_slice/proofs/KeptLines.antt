-- Lines of data one after another: one line more.
use Rattle.std.proofs.Common.{List, ℕ, [], ◌∷◌, ◌++◌, refl, sym, ap, ◌∙◌, append-nil, append_assoc}
use Rattle.mw_model.specs.Terms.Object.{Object}
use Rattle.mw_model.specs.Texts.Written.{IsDatumLine}
use Rattle.mw_model.specs.Texts.Pieces.{InOrder}

pub line_more : (xs : List Object) (x : Object) (body line : List ℕ) → InOrder IsDatumLine xs body → IsDatumLine x line → InOrder IsDatumLine (xs ++ x ∷ []) (body ++ line)
line_more [] x body line h d = (line, [], ap (λ t. t ++ line) h ∙ sym (append-nil line), d, refl)
line_more (y ∷ xs) x body line h d = (h.0, h.1 ++ line, ap (λ t. t ++ line) h.2 ∙ append_assoc h.0 h.1 line, h.3, line_more xs x h.1 line h.4 d)
