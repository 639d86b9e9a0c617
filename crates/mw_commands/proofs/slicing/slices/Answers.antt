-- Going down from the goal, each place is kept that those above it rest on.
use Rattle.std.proofs.Common.{◌≡◌, true}
use Rattle.mw_commands.proofs.SlicePlaces.{slice_places, slice_exists, slice_unique, needed_least}
use Rattle.mw_commands.proofs.slicing.slices.Goals as goal

pub returns-clause-some : goal.returns-clause-some
returns-clause-some c = λ es goal. (slice_places es goal, slice_exists es goal)

pub returns-clause-one : goal.returns-clause-one
returns-clause-one c = slice_unique

pub returns-clause-least : goal.returns-clause-least
returns-clause-least c = λ es goal S. needed_least es goal (λ j. S j ≡ true)
