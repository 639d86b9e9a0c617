-- Symbols by their references: equal names have equal references.
use Rattle.std.proofs.Common.{◌≡◌, ℕ, Bool, true, ◌&&◌, ◌||◌, eqb, List, [], ◌∷◌, All, refl, sym, ap, ap₂, ◌∙◌, eqb-true, eq-eqb}
use Rattle.std.specs.List.{list_any, list_all}
use Rattle.std.proofs.lemmas.List.Elements.{All-nil, All-cons}
use Rattle.std.proofs.lemmas.Bool.Decides.{same_from_decides}
use Rattle.mw_model.specs.Terms.Object.{Name, Object, Natural, Symbol, Pair, same_name}
use Rattle.mw_model.specs.Terms.Term.{is_among}
use Rattle.mw_model.specs.Values.Primitive.{is_symbol, name_of}
use Rattle.mw_model.proofs.Names.{same_name-eq, same_name-from}
use Rattle.mw_heap.specs.Objects.{object_at, IsIn, AreDistinct}
use Rattle.mw_term.specs.Parts.{names_at, AreSymbols}

pub symbol_is : (x : Object) → is_symbol x ≡ true → x ≡ Symbol (name_of x)
symbol_is (Natural n) h = cc
symbol_is (Symbol s) h = refl
symbol_is (Pair a b) h = cc

module _ (os : List Object) (distinct : AreDistinct os) (x : ℕ) (within : IsIn os x) (symbol : is_symbol (object_at os x) ≡ true) where
  one : (y : ℕ) → IsIn os y → is_symbol (object_at os y) ≡ true → eqb x y ≡ same_name (name_of (object_at os x)) (name_of (object_at os y))
  one y in_y symbol_y =
      same_from_decides {P = x ≡ y} (eqb x y) (same_name (name_of (object_at os x)) (name_of (object_at os y))) ((λ h. eqb-true x y h), (λ e. eq-eqb x y e)) (
        (λ h. distinct x y within in_y (symbol_is (object_at os x) symbol ∙ (ap Symbol (same_name-eq (name_of (object_at os x)) (name_of (object_at os y)) h) ∙ sym (symbol_is (object_at os y) symbol_y)))),
        (λ e. same_name-from (name_of (object_at os x)) (name_of (object_at os y)) (ap (λ r. name_of (object_at os r)) e)),
      )

  -- a symbol is among some exactly where its name is among theirs
  pub is_among-symbols : (rs : List ℕ) → AreSymbols os rs → list_any (eqb x) rs ≡ is_among (name_of (object_at os x)) (names_at os rs)
  is_among-symbols [] h = refl
  is_among-symbols (r ∷ rs) h = ap₂ (λ a b. a || b) (one r h.0 h.1) (is_among-symbols rs h.2)

abbrev pub IsSymbolIn : List Object → ℕ → Type 0
IsSymbolIn os r = IsIn os r × (is_symbol (object_at os r) ≡ true)

pub symbols_each : (os : List Object) (rs : List ℕ) → AreSymbols os rs → All (IsSymbolIn os) rs
symbols_each os [] h = All-nil (IsSymbolIn os)
symbols_each os (r ∷ rs) h = All-cons (IsSymbolIn os) r rs (h.0, h.1) (symbols_each os rs h.2)

-- a test of each name
pub list_all-names_at : (os : List Object) (test : Name → Bool) (rs : List ℕ) → list_all test (names_at os rs) ≡ list_all (λ r. test (name_of (object_at os r))) rs
list_all-names_at os test [] = refl
list_all-names_at os test (r ∷ rs) = ap (λ b. test (name_of (object_at os r)) && b) (list_all-names_at os test rs)
