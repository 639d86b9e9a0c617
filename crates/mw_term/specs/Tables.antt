-- The arity table that a map of arities stands for: its last entry comes first.
use Rattle.std.specs.Prelude.{◌≡◌, ℕ, Bool, true, List, [], ◌∷◌, Vec, nat_eq}
use Rattle.std.specs.Coded.{Coded, code_by, coded_list, coded×, coded_ℕ}
use Rattle.std.specs.List.{IsDistinct}
use Rattle.std.specs.Map.{keys_of}
use Rattle.std.specs.Cmp.Lexicographic.{pointwise}
use Rattle.mw_model.specs.Terms.Object.{Name, is_name, name_of_bytes}
use Rattle.mw_model.specs.Terms.Term.{ArityTable}
use Rattle.mw_model.proofs.Names.{name_of_bytes-bytes}

abbrev pub coded_name : Coded Name
coded_name = code_by (List ℕ) (coded_list coded_ℕ) (λ s. s.bytes) name_of_bytes name_of_bytes-bytes

abbrev pub coded_table : Coded ArityTable
coded_table = coded_list (coded× coded_name coded_ℕ)

module _ {A : Type 0} where
  -- the entries, turned round, before a table
  abbrev pub entries_before : List (Vec ℕ A × ℕ) → ArityTable → ArityTable
  entries_before [] older = older
  entries_before (e ∷ es) older = entries_before es ((name_of_bytes e.0.items, e.1) ∷ older)

  abbrev pub table_of : List (Vec ℕ A × ℕ) → ArityTable
  table_of es = entries_before es []

  -- each key is a name
  abbrev pub AreNamed : List (Vec ℕ A × ℕ) → Type 0
  AreNamed [] = Unit {0}
  AreNamed (e ∷ es) = (is_name e.0.items ≡ true) × AreNamed es

  abbrev pub same_key : Vec ℕ A → Vec ℕ A → Bool
  same_key x y = pointwise nat_eq x.items y.items

  -- what stays true of the entries: their keys are names, and no two are equal
  pub record AreArities (es : List (Vec ℕ A × ℕ)) : Type 0 where
    pub named : AreNamed es
    pub distinct : IsDistinct same_key (keys_of es)
