-- What is true after the program has done what a request asks for.
use Rattle.std.specs.Prelude.{◌≡◌, ◌≢◌, ◌⊎◌, ℕ, true, false, List, Option, IfSome}
use Rattle.mw_model.specs.Reports.Request.{Request, Help, Usage}
use Rattle.mw_request.specs.Commands.{help_text}
use Rattle.mw_port.specs.Ports.{Rises, Takes, HasEnded}
use Rattle.mw_answers.specs.Statuses.{TakesSome, report_status, reads_book, Keeps, IsPartOf, WritesFirst, WritesSoFar}
use Rattle.mw_answers.specs.Checks.{IsHalt, SinkCounts, SinkShortages}
use Rattle.mw_answers.specs.declared.status.Status.{Status as Ending}
use Rattle.mw_answers.specs.declared.status.Status.TheVariants as ending

-- The clauses of a run, of its request: of what the source had left, of what the sink had taken, of what both counted of faults, and the sink of
-- shortages, before and afterwards.
pub record Fulfils (q : Request) (e : Ending) (old_book new_book old new : Option (List ℕ)) (old_reads new_reads old_writes new_writes old_shortages new_shortages : ℕ) : Type 0 where
  pub report : IfSome (report_status e) (Keeps q old_book old new)
  pub read_whole : reads_book q ≡ true → (e ≡ ending.Done) ⊎ (e ≡ ending.SomeRefused) → HasEnded new_book
  pub unread : reads_book q ≡ false → new_book ≡ old_book
  pub help : e ≡ ending.Help → (q ≡ Help) × Takes old new help_text
  pub usage : e ≡ ending.Usage → (q ≡ Usage) × Takes old new help_text
  pub read_fault : e ≡ ending.ReadFault → Rises old_reads new_reads × WritesSoFar q old_book new_book old new × IsPartOf q old_book old new
  pub write_fault : e ≡ ending.WriteFault → Rises old_writes new_writes × IsPartOf q old_book old new
  pub memory : e ≡ ending.Memory → IsPartOf q old_book old new
  pub answers : e ≡ ending.Memory → Rises old_shortages new_shortages ⊎ WritesFirst q old_book old new
  pub source_steady : e ≢ ending.ReadFault → new_reads ≡ old_reads
  pub sink_steady : e ≢ ending.WriteFault → new_writes ≡ old_writes

-- the help text was written and the program ends as it was to, or the sink took a part of that
abbrev pub HelpEnds : (expected e : Ending) → (old new : Option (List ℕ)) → (old_writes new_writes old_shortages new_shortages : ℕ) → Type 0
HelpEnds expected e old new old_writes new_writes old_shortages new_shortages =
    ((e ≡ expected) × Takes old new help_text × (new_writes ≡ old_writes)) ⊎ (IsHalt e × TakesSome old new help_text × SinkCounts e old_writes new_writes × SinkShortages e old_shortages new_shortages)
