-- A datum that is a list of a name and a formula, by their references.
use Rattle.std.specs.Prelude.{◌≡◌, ℕ, true, false, List}
use Rattle.mw_model.specs.Terms.Object.{Object, list2}
use Rattle.mw_model.specs.Values.Primitive.{is_symbol}
use Rattle.mw_model.specs.Events.Fate.{is_out_of_range}
use Rattle.mw_heap.specs.Objects.{object_at, IsIn}

-- The datum is a list of these two, of which the first is a symbol.
pub record IsNamed (os : List Object) (x : Object) (name formula : ℕ) : Type 0 where
  pub name_in : IsIn os name
  pub formula_in : IsIn os formula
  pub symbol : is_symbol (object_at os name) ≡ true
  pub list : x ≡ list2 (object_at os name) (object_at os formula)
  pub in_range : is_out_of_range x ≡ false
