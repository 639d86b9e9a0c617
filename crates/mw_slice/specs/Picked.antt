-- What is picked of a list of events for a name.
use Rattle.std.specs.Prelude.{◌≡◌, ℕ, List, Some, None}
use Rattle.mw_model.specs.Terms.Object.{Name, Object}
use Rattle.mw_commands.specs.Commands.Slice.{target, IsSlice}
use Rattle.mw_slice.specs.declared.picked.Picked.{Picked as Pick}
use Rattle.mw_slice.specs.declared.picked.Picked.TheVariants.{Events, Absent, Memory}

abbrev pub IsPicked : List Object → Name → Pick → Type 0
IsPicked es name (Events places) = (goal : ℕ) × (target es name ≡ Some goal) × IsSlice es goal places
IsPicked es name Absent = target es name ≡ None
IsPicked es name Memory = Unit {0}
