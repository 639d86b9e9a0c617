-- What printing does, by its answer.
use Rattle.std.specs.Prelude.{◌≡◌, ℕ, ◌<◌, ◌≤◌, List, ◌++◌, length}
use Rattle.mw_model.specs.Events.Fate.{longest}
use Rattle.mw_print.specs.declared.printing.Printed.{Printed}
use Rattle.mw_print.specs.declared.printing.Printed.TheVariants.{Ok, Long, Memory}

-- the text is added to the old bytes where it's short enough and there is memory
abbrev pub Prints : List ℕ → Printed → List ℕ → List ℕ → Type 0
Prints text Ok old new = (length text ≤ longest) × (new ≡ old ++ text)
Prints text Long old new = (longest < length text) × (new ≡ old)
Prints text Memory old new = (length text ≤ longest) × (new ≡ old)
