-- The status of a program that makes one run.
use Rattle.std.specs.Prelude.{◌≡◌, ℕ, List, Option}
use Rattle.mw_request.specs.Commands.{asked}
use Rattle.mw_answers.specs.Numbers.{status_number}
use Rattle.mw_book.specs.Runs.{Fulfils}
use Rattle.mw_answers.specs.declared.status.Status.{Status as Ending}

-- it is the number of an ending for which the clauses of a run on these words hold
abbrev pub ExitsWith : List (List ℕ) → (status : ℕ) → (old_book new_book old new : Option (List ℕ)) → (old_reads new_reads old_writes new_writes old_shortages new_shortages : ℕ) → Type 0
ExitsWith words status old_book new_book old new old_reads new_reads old_writes new_writes old_shortages new_shortages =
    (e : Ending) × (status ≡ status_number e) × Fulfils (asked words) e old_book new_book old new old_reads new_reads old_writes new_writes old_shortages new_shortages
