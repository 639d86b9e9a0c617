-- The text of a symbol is that of its name.
use Rattle.std.proofs.Common.{◌≡◌, ℕ, true, List, ◌∷◌, [], ◌++◌, sym, ap, ◌∙◌, subst, if◌then◌else◌}
use Rattle.mw_model.specs.Values.Primitive.{is_symbol, name_of}
use Rattle.mw_model.specs.Terms.Object.{Object, Natural, Symbol, Pair, name_of_bytes}
use Rattle.mw_model.specs.Texts.Printing.{is_bare, name_text, text_of}
use Rattle.mw_model.proofs.Names.{name_of_bytes-bytes}

pub text_of-symbol : (x : Object) (t : List ℕ) → is_symbol x ≡ true → (name_of x).bytes ≡ t → text_of x ≡ name_text (name_of_bytes t)
text_of-symbol (Symbol s) t h e = ap name_text (sym (name_of_bytes-bytes s) ∙ ap name_of_bytes e)
text_of-symbol (Natural n) t h e = cc
text_of-symbol (Pair a b) t h e = cc

-- a bare name is the text of its symbol
pub bare-text : (x : Object) (t : List ℕ) → is_symbol x ≡ true → (name_of x).bytes ≡ t → is_bare (name_of_bytes t) ≡ true → t ≡ text_of x
bare-text (Symbol s) t h e b =
    let bare : is_bare s ≡ true = subst (λ n. is_bare n ≡ true) (sym (ap name_of_bytes e) ∙ name_of_bytes-bytes s) b in
    sym (ap (λ c. if c then s.bytes else 124 ∷ (s.bytes ++ 124 ∷ [])) bare ∙ e)
bare-text (Natural n) t h e b = cc
bare-text (Pair x y) t h e b = cc
