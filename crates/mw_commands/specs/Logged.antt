-- What holds of an event of a log at a theory.
use Rattle.std.specs.Prelude.{◌≡◌, List, None}
use Rattle.mw_model.specs.Terms.Object.{Object}
use Rattle.mw_model.specs.Values.Truth.{AreTrueIn}
use Rattle.mw_model.specs.Events.Theory.{Theory, IsSound}
use Rattle.mw_commands.specs.Commands.Log.{Objection, No, logged}
use Rattle.mw_commands.specs.Headlines.{formulas_answered}

pub record LoggedKeeps (t : Theory) (steps : List Object) (e : Object) : Type 0 where
  -- each formula with a yes, and each axiom that it adds, is true in the standard model of the definitions then admitted
  pub true_formulas : AreTrueIn (logged t steps e).1.definitions (formulas_answered (logged t steps e).0 (logged t steps e).1 e)
  -- without a yes the theory stays as it was
  pub unchanged : (o : Objection) → (logged t steps e).0 ≡ No o → (logged t steps e).1 ≡ t
  -- the theory stays sound, and its checker the built-in one
  pub sound : IsSound (logged t steps e).1
  pub built_in : (logged t steps e).1.checker ≡ None
