-- The promises of the further commands, for the bytes of a book: what was written, with this status, is what is owed;
-- and what it is worth when it is read again, which a text past the limit of books cannot be.
use Rattle.std.specs.Prelude.{◌≡◌, ℕ, ◌≤◌, List, [], ◌∷◌, ◌++◌, length, map, None, Some}
use Rattle.mw_model.specs.Terms.Object.{Name, Object}
use Rattle.mw_model.specs.Terms.Term.{Formula}
use Rattle.mw_model.specs.Values.Primitive.{One}
use Rattle.mw_model.specs.Values.Truth.{AreTrueIn, Each}
use Rattle.mw_model.specs.Texts.Grammar.{book, limit, trees}
use Rattle.mw_model.specs.Events.Theory.{Theory, initial, IsSound}
use Rattle.mw_model.specs.Events.Fate.{event_word, after}
use Rattle.mw_model.specs.Reports.Report.{Status, Done, report, accepted_among}
use Rattle.mw_model.specs.Reports.Keeping.{formulas_of_word}
use Rattle.mw_model.specs.Reports.Headline.{Headline, TrialHeadline}
use Rattle.mw_model.specs.Reports.Request.{Request, Check, Trial, Taut, Lower, Slice, Flat, Recheck, Explain}
use Rattle.mw_model.specs.Texts.Pieces.{how_many}
use Rattle.mw_commands.specs.Commands.Transition.{last_theory, last_theory_from, is_acceptance}
use Rattle.mw_commands.specs.Commands.TautologyBook.{TautologiesWritten, tautology_status, is_proved}
use Rattle.mw_commands.specs.Commands.Lowering.{derived_course, LoweredWritten, lowering_status}
use Rattle.mw_commands.specs.Commands.Slice.{target, event_at}
use Rattle.mw_commands.specs.Commands.Slicing.{accepted_events, AreKept, SliceWritten, slicing_status}
use Rattle.mw_commands.specs.Commands.Log.{Objection, Answer, Yes, No}
use Rattle.mw_commands.specs.Commands.LogReport.{Entered, log_of, denied, last_logged, log_report}
use Rattle.mw_commands.specs.Commands.ExplanationBook.{ExplanationHeadline}
use Rattle.mw_commands.specs.Commands.Flattening.{plain_course, flat_events, flat_event, before_switch, FlatWritten, flattening_status}

-- read as a book, the text has this number of events, and each is accepted
pub record AcceptsAll (text : List ℕ) (N events : ℕ) : Type 0 where
  pub ends : (report text N).status ≡ Done
  pub accepted : accepted_among (initial One) (trees text).events N ≡ events

-- The theorems written are proved, whatever the step limit.
pub record TautologyHeadline (bytes written : List ℕ) (status : Status) : Type 0 where
  pub exact : TautologiesWritten (trees bytes) written
  pub ends : status ≡ tautology_status (trees bytes)
  pub again : length written ≤ limit → (N : ℕ) → AcceptsAll written N (how_many is_proved (trees bytes).events)

-- The book written leads to the theory to which the derivations lead.
pub record LoweringHeadline (bytes : List ℕ) (N : ℕ) (written : List ℕ) (status : Status) : Type 0 where
  pub exact : LoweredWritten (trees bytes) N written
  pub ends : status ≡ lowering_status (trees bytes) N
  pub again : length written ≤ limit → AcceptsAll written N (how_many is_acceptance (derived_course (trees bytes).events N))
  pub theory : length written ≤ limit → after (initial One) (trees written).events N ≡ last_theory (derived_course (trees bytes).events N)

-- what is read again in a slice: events all of which are accepted, the last being the goal
pub record SliceAccepted (accepted : List Object) (goal : ℕ) (N : ℕ) (text : List ℕ) : Type 0 where
  pub earlier : List Object
  pub kept : AreKept accepted goal (earlier ++ event_at accepted goal ∷ [])
  pub read : trees text ≡ book (earlier ++ event_at accepted goal ∷ []) None
  pub again : AcceptsAll text N (length (earlier ++ event_at accepted goal ∷ []))

pub record SliceHeadline (bytes : List ℕ) (N : ℕ) (name : Name) (written : List ℕ) (status : Status) : Type 0 where
  pub exact : SliceWritten (trees bytes) N name written
  pub ends : status ≡ slicing_status (trees bytes) N name
  pub again : status ≡ Done → length written ≤ limit → (goal : ℕ) → target (accepted_events (trees bytes).events N) name ≡ Some goal →
      SliceAccepted (accepted_events (trees bytes).events N) goal N written

-- what is read again in a log: just these events, each with a yes, no step left, and this theory at the end
pub record LogAccepted (events : List Object) (t : Theory) (text : List ℕ) : Type 0 where
  pub read : (trees text).fault ≡ None
  pub each : map (λ s. s.event) (log_of (trees text).events).entered ≡ events
  pub yes : denied (log_of (trees text).events) ≡ 0
  pub none_left : (log_of (trees text).events).left ≡ []
  pub theory : last_logged (log_of (trees text).events) ≡ t

-- The log has the events before the first switch, and leads to the theory that the book had there.
pub record FlatHeadline (bytes : List ℕ) (N : ℕ) (written : List ℕ) (status : Status) : Type 0 where
  pub exact : FlatWritten (trees bytes) N written
  pub ends : status ≡ flattening_status (trees bytes) N
  pub again : length written ≤ limit → LogAccepted (map flat_event (flat_events (plain_course (trees bytes).events N)))
      (last_theory_from (initial One) (before_switch (plain_course (trees bytes).events N))) written

-- the formulas that an event of a log brings, with the theory after it
abbrev pub formulas_answered : Answer → Theory → Object → List Formula
formulas_answered Yes after e = formulas_of_word (event_word e) after e
formulas_answered (No o) after e = []

-- what holds of each event of a log
pub record EntryKeeps (s : Entered) : Type 0 where
  -- each formula with a yes, and each axiom that it adds, is true in the standard model of the definitions then admitted
  pub true_formulas : AreTrueIn s.next.definitions (formulas_answered s.answer s.next s.event)
  pub unchanged : (o : Objection) → s.answer ≡ No o → s.next ≡ s.before
  pub sound : IsSound s.next

pub record LogHeadline (bytes written : List ℕ) (status : Status) : Type 0 where
  pub exact : written ≡ (log_report bytes).text
  pub ends : status ≡ (log_report bytes).status
  pub events_keep : Each EntryKeeps (log_of (trees bytes).events).entered

-- the promise of each request that judges a book
abbrev pub Promised : Request → List ℕ → List ℕ → Status → Type 0
Promised (Check N) bytes written status = Headline bytes N written status
Promised (Trial m N) bytes written status = TrialHeadline m N written status
Promised Taut bytes written status = TautologyHeadline bytes written status
Promised (Lower N) bytes written status = LoweringHeadline bytes N written status
Promised (Slice name N) bytes written status = SliceHeadline bytes N name written status
Promised (Flat N) bytes written status = FlatHeadline bytes N written status
Promised Recheck bytes written status = LogHeadline bytes written status
Promised (Explain N) bytes written status = ExplanationHeadline bytes N written status
Promised _ bytes written status = ⊥

-- Of a request that judges a book: a prefix of a text that it allows. That is what was written where the program was stopped.
abbrev pub IsBegun : Request → List ℕ → List ℕ → Type 0
IsBegun request bytes written = (rest : List ℕ) × (status : Status) × Promised request bytes (written ++ rest) status
