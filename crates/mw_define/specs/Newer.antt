-- The arities of the functions that drafts give.
use Rattle.std.specs.Prelude.{◌≡◌, ◌++◌, List, Some, None, ◌⊎◌}
use Rattle.mw_model.specs.Terms.Object.{Name}
use Rattle.mw_model.specs.Terms.Term.{ArityTable}
use Rattle.mw_model.specs.Events.Admission.{Draft, add_names}
use Rattle.mw_define.specs.BlockTests.{the_names, the_formal_lists}

-- a name is not new or comes twice, or there is no list of formals
abbrev pub HasNoArities : ArityTable → List Draft → Type 0
HasNoArities A ds = (the_names A ds ≡ None) ⊎ (the_formal_lists A ds ≡ None)

-- the new functions in front of the table
pub record AreArities (A : ArityTable) (ds : List Draft) (newer : ArityTable) : Type 0 where
  pub names : List Name
  pub formals : List (List Name)
  pub are_new : the_names A ds ≡ Some names
  pub are_formals : the_formal_lists A ds ≡ Some formals
  pub table : newer ++ A ≡ add_names names formals A
