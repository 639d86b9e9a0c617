-- A symbol is a word where it has the word's name.
use Rattle.std.proofs.Common.{◌≡◌, true, refl}
use Rattle.mw_model.specs.Terms.Object.{Name, Object, Symbol, Natural, Pair, same_object, same_name}
use Rattle.mw_model.specs.Values.Primitive.{is_symbol, name_of}

pub head_word : (x : Object) (w : Name) → is_symbol x ≡ true → same_object x (Symbol w) ≡ same_name (name_of x) w
head_word (Symbol f) w s = refl
head_word (Natural n) w s = cc
head_word (Pair a b) w s = cc
