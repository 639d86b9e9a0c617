-- The numbers with which the program ends.
use Rattle.std.specs.Prelude.{ℕ}
use Rattle.mw_answers.specs.declared.status.Status.{Status}
use Rattle.mw_answers.specs.declared.status.Status.TheVariants.{Done, SomeRefused, Help, Usage, Syntax, ReadFault, WriteFault, Memory}

abbrev pub status_number : Status → ℕ
status_number Done = 0
status_number SomeRefused = 1
status_number Help = 0
status_number Usage = 2
status_number (Syntax k o) = 3
status_number ReadFault = 4
status_number WriteFault = 5
status_number Memory = 6
