-- What reading more of a book leaves as it was.
use Rattle.std.specs.Prelude.{◌≡◌, List}
use Rattle.mw_model.specs.Terms.Object.{Object}
use Rattle.mw_kernel.specs.Knowledge.{Knowledge, theory_of}
use Rattle.mw_flat.specs.Going.{Going, HasCollected}
use Rattle.mw_flat.specs.Going.{theory_of as theory_of_log}

-- the theory, and the step limit
abbrev pub KeepsTheory : Knowledge → Knowledge → Type 0
KeepsTheory old new = (theory_of new ≡ theory_of old) × (new.steps ≡ old.steps)

-- the theory, and the steps that wait for their event
abbrev pub KeepsSteps : Going → Going → Type 0
KeepsSteps old new = (theory_of_log new ≡ theory_of_log old) × ((steps : List Object) → HasCollected old steps → HasCollected new steps)
