-- Where the turning of a book to a log stands.
use Rattle.std.specs.Prelude.{◌≡◌, ℕ, ◌+◌, Bool, true, false, ◌&&◌, ◌||◌, not, nat_lt, List, length, Result, Ok, Err, IsOk}
use Rattle.std.proofs.Common.{◌∙◌}
use Rattle.mw_model.specs.Terms.Object.{Object}
use Rattle.mw_model.specs.Reports.Request.{Request, Flat}
use Rattle.mw_model.specs.Texts.Pieces.{how_many}
use Rattle.mw_commands.specs.Commands.Transition.{Transition, last_theory, is_acceptance}
use Rattle.mw_commands.specs.Commands.Slice.{some_passes}
use Rattle.mw_commands.specs.Commands.Flattening.{flat_events, is_switch, plain_course}
use Rattle.mw_kernel.specs.Knowledge.{Knowledge, theory_of}
use Rattle.mw_answers.specs.Answering.{AnsweredBy}
use Rattle.mw_book.specs.Keeping.{KeepsTheory}
use Rattle.mw_book.specs.declared.flat.Flattening.{Flattening}

-- a refused event and a switch have no place in a log
abbrev pub has_no_place : Transition → Bool
has_no_place s = not (is_acceptance s && not (is_switch s))

-- These data were judged, or only counted after the first switch: up to there the kernel has the theory that they lead to, and the numbers count them and
-- those that were written; it is known whether some has no place in a log, and whether a switch was accepted.
pub record Flattened (f : Flattening) (k : Knowledge) (N : ℕ) (given : List Object) : Type 0 where
  pub theory : f.switched ≡ false → theory_of k ≡ last_theory (plain_course given N)
  pub steps : k.steps ≡ N
  pub counted : f.events ≡ length given
  pub written_counted : f.written ≡ length (flat_events (plain_course given N))
  pub some_other : (f.refused || f.switched) ≡ nat_lt 0 (how_many has_no_place (plain_course given N))
  pub switched : f.switched ≡ some_passes is_switch (plain_course given N)

-- the request is to turn the book to a log, and these data were judged
abbrev pub FlattenedFor : Flattening → Knowledge → Request → List Object → Type 0
FlattenedFor f k = AnsweredBy Flat (Flattened f k)

-- a kernel that has read more has the same theory
pub flattened_still : (f : Flattening) (old new : Knowledge) → KeepsTheory old new → (q : Request) (given : List Object) → FlattenedFor f old q given → FlattenedFor f new q given
flattened_still f old new kept q given h =
    let k = h.2 in (
      h.0,
      h.1,
      record {
        theory = λ p. kept.0 ∙ k.theory p;
        steps = kept.1 ∙ k.steps;
        counted = k.counted;
        written_counted = k.written_counted;
        some_other = k.some_other;
        switched = k.switched;
      },
    )

-- is it known that the event is one of a log?
abbrev pub is_known_logged : {E : Type 0} → Result Bool E → Bool
is_known_logged (Ok b) = b
is_known_logged (Err e) = false

-- An event was counted, that was accepted or not, and a switch or not. It is known whether it is one of the log, for which the word of one that is
-- accepted and no switch has to be known.
pub record HasEndedEvent {E : Type 0} (old new : Flattening) (accepted : Bool) (logged : Result Bool E) (switch : Bool) (put : Bool) : Type 0 where
  pub counted : new.events ≡ old.events + 1
  pub written : new.written ≡ old.written
  pub refused : new.refused ≡ (old.refused || not accepted)
  pub switched : new.switched ≡ (old.switched || (accepted && switch))
  pub put_is : put ≡ (accepted && (not switch && is_known_logged logged))
  pub certain : (accepted && not switch) ≡ true → IsOk logged
