-- Names by their bytes: when they differ, and which symbol has them.
use Rattle.std.proofs.Common.{◌≡◌, ℕ, Bool, true, false, List, refl, sym, ap, ◌∙◌}
use Rattle.mw_model.specs.Terms.Object.{Object, Natural, Symbol, Pair, name_of_bytes, same_bytes}
use Rattle.mw_model.specs.Values.Primitive.{is_symbol, name_of}
use Rattle.mw_model.proofs.Names.{same_bytes-eq, name_of_bytes-bytes}

pub not_same_bytes : (x y : List ℕ) → (x ≡ y → ⊥) → false ≡ same_bytes x y
not_same_bytes x y h = go (same_bytes x y) refl
  where
    go : (v : Bool) → same_bytes x y ≡ v → false ≡ v
    go true e = absurd (h (same_bytes-eq x y e))
    go false e = refl

pub symbol_by_name : (x : Object) (b : List ℕ) → is_symbol x ≡ true → (name_of x).bytes ≡ b → x ≡ Symbol (name_of_bytes b)
symbol_by_name (Natural n) b h e = cc
symbol_by_name (Symbol s) b h e = ap Symbol (sym (name_of_bytes-bytes s) ∙ ap name_of_bytes e)
symbol_by_name (Pair x y) b h e = cc
