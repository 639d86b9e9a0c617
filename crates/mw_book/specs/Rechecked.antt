-- Where the judging of a log stands.
use Rattle.std.specs.Prelude.{◌≡◌, ℕ, ◌+◌, List, [], ◌∷◌, ◌++◌, length, Option, Some, None}
use Rattle.mw_model.specs.Terms.Object.{Object}
use Rattle.mw_model.specs.Reports.Request.{Request, Recheck}
use Rattle.mw_commands.specs.Commands.Log.{Answer, Yes, No}
use Rattle.mw_commands.specs.Commands.LogReport.{answer_text, denied, last_logged, log_of}
use Rattle.std.proofs.Common.{◌∙◌}
use Rattle.mw_flat.specs.Going.{Going, HasCollected, theory_of}
use Rattle.mw_answers.specs.Answering.{AnsweredBy}
use Rattle.mw_book.specs.Keeping.{KeepsSteps}
use Rattle.mw_book.specs.declared.recheck.Rechecking.{Rechecking}

-- These data were answered: the theory is the one to which their events lead, the steps after the last event wait, and the numbers count the data,
-- the events, and those that got a no.
pub record Rechecked (r : Rechecking) (g : Going) (given : List Object) : Type 0 where
  pub theory : theory_of g ≡ last_logged (log_of given)
  pub collected : HasCollected g (log_of given).left
  pub counted : r.taken ≡ length given
  pub events_counted : r.events ≡ length (log_of given).entered
  pub denied_counted : r.denied ≡ denied (log_of given)

-- the request is to judge the log, and these data were answered
abbrev pub RecheckedFor : Rechecking → Going → Request → List Object → Type 0
RecheckedFor r g = AnsweredBy {P = Unit {0}} (λ u. Recheck) (λ u. Rechecked r g)

-- what has read more has the same theory and the same steps
pub rechecked_still : (r : Rechecking) (old new : Going) → KeepsSteps old new → (q : Request) (given : List Object) → RecheckedFor r old q given → RecheckedFor r new q given
rechecked_still r old new kept q given h =
    let k = h.2 in (
      h.0,
      h.1,
      record {
        theory = kept.0 ∙ k.theory;
        collected = kept.1 (log_of given).left k.collected;
        counted = k.counted;
        events_counted = k.events_counted;
        denied_counted = k.denied_counted;
      },
    )

-- what ends the line of a datum of which this was said: nothing of a step, which has no line
abbrev pub said_text : Option Answer → List ℕ
said_text None = []
said_text (Some a) = answer_text a ++ 10 ∷ []

-- how many events it is
abbrev pub events_said : Option Answer → ℕ
events_said None = 0
events_said (Some a) = 1

-- how many events that got a no
abbrev pub denied_said : Option Answer → ℕ
denied_said None = 0
denied_said (Some Yes) = 0
denied_said (Some (No o)) = 1

-- A datum was counted of which this was said.
pub record HasCounted (old new : Rechecking) (said : Option Answer) : Type 0 where
  pub counted : new.taken ≡ old.taken + 1
  pub events_counted : new.events ≡ old.events + events_said said
  pub denied_counted : new.denied ≡ old.denied + denied_said said
