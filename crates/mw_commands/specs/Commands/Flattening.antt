-- What is owed where a book is turned to a log: what it accepts before its first switch, with steps in place of proofs.
use Rattle.std.specs.Prelude.{◌≡◌, ℕ, suc, Bool, true, false, ◌&&◌, not, cond, List, [], ◌∷◌, ◌++◌, length, map, filter, codes, Option, Some, None}
use Rattle.mw_model.specs.Terms.Object.{Object, Natural, Pair, symbol, same_object, NIL, car, second_of, third_of, fourth_of, list4}
use Rattle.mw_model.specs.Events.Fate.{EventWord, Verify, Define, Skolem, DefineAll, SetProfile, event_word, happens}
use Rattle.mw_model.specs.Events.Demand.{proofs_of, with_proofs}
use Rattle.mw_model.specs.Texts.Grammar.{Book}
use Rattle.mw_model.specs.Texts.Printing.{numeral}
use Rattle.mw_model.specs.Reports.Report.{Status, status_of, spaced}
use Rattle.mw_model.specs.Texts.Written.{AreWritten, IsDatumLine}
use Rattle.mw_model.specs.Texts.Pieces.{InOrder, numbered, how_many, comment_ending}
use Rattle.mw_commands.specs.Commands.Transition.{Transition, course, is_acceptance}
use Rattle.mw_commands.specs.Commands.Subproofs.{distinct_proofs}
use Rattle.mw_commands.specs.Commands.Slice.{begins_with, proofs_by_word}

-- the number of p among distinct proofs, counted from 1
abbrev pub number_among : List Object → Object → ℕ
number_among [] p = 0
number_among (q ∷ qs) p = cond (same_object q p) 1 (suc (number_among qs p))

-- the numbers of the members of a list
abbrev pub numbers_among : List Object → Object → Object
numbers_among qs (Pair p ps) = Pair (Natural (number_among qs p)) (numbers_among qs ps)
numbers_among qs _ = NIL

-- n method conclusion (i1 .. ik) extras, for the proof with number n
abbrev pub step_members : List Object → ℕ × Object → List Object
step_members qs np = Natural np.0 ∷ car np.1 ∷ second_of np.1 ∷ numbers_among qs (third_of np.1) ∷ fourth_of np.1 ∷ []

abbrev pub step_datum : List Object → ℕ × Object → Object
step_datum qs np = Pair (symbol "STEP") (Pair (Natural np.0) (list4 (car np.1) (second_of np.1) (numbers_among qs (third_of np.1)) (fourth_of np.1)))

-- the members after STEP, on a line of its own
abbrev pub IsStepLine : List Object → ℕ × Object → List ℕ → Type 0
IsStepLine qs np line = (members : List ℕ) × AreWritten (step_members qs np) 1 members × (line ≡ codes "(STEP" ++ (members ++ codes ")" ++ 10 ∷ []))

-- one step for each distinct proof, in the order in which they are complete
abbrev pub StepsWritten : Object → List ℕ → Type 0
StepsWritten ps text = let qs = distinct_proofs ps in InOrder (IsStepLine qs) (numbered 1 qs) text

-- the event with the numbers of its proofs in their place
abbrev pub flat_event_by : Option EventWord → Object → Object
flat_event_by None e = e
flat_event_by (Some w) e = let ps = proofs_of w e in with_proofs w e (numbers_among (distinct_proofs ps) ps)

abbrev pub flat_event : Object → Object
flat_event e = flat_event_by (event_word e) e

-- the steps of an event, and then the event
abbrev pub OwesFlat : Object → List ℕ → Type 0
OwesFlat e piece = (steps line : List ℕ) × (piece ≡ steps ++ line) × StepsWritten (proofs_by_word (event_word e) e) steps × IsDatumLine (flat_event e) line

abbrev pub is_switch : Transition → Bool
is_switch s = is_acceptance s && begins_with "SWITCH" s.event

-- up to the first accepted switch
abbrev pub before_switch : List Transition → List Transition
before_switch [] = []
before_switch (s ∷ r) = cond (is_switch s) [] (s ∷ before_switch r)

abbrev pub is_logged_word : Option EventWord → Bool
is_logged_word (Some Verify) = true
is_logged_word (Some Define) = true
is_logged_word (Some DefineAll) = true
is_logged_word (Some Skolem) = true
is_logged_word (Some SetProfile) = true
is_logged_word _ = false

abbrev pub plain_course : List Object → ℕ → List Transition
plain_course es N = course (λ t e. happens t N e) es

-- the events that are written
abbrev pub flat_events : List Transition → List Object
flat_events ss = map (λ s. s.event) (filter (λ s. is_acceptance s && is_logged_word (event_word s.event)) (before_switch ss))

-- events E flat F
abbrev pub flat_summary : List Transition → List ℕ
flat_summary ss = spaced (codes "events") (spaced (numeral (length ss)) (spaced (codes "flat") (numeral (length (flat_events ss)))))

abbrev pub FlatWritten : Book → ℕ → List ℕ → Type 0
FlatWritten b N text =
    let ss = plain_course b.events N in (body : List ℕ) × InOrder OwesFlat (flat_events ss) body × (text ≡ body ++ comment_ending b.fault (flat_summary ss))

-- a refused event and a switch have no place in a log
abbrev pub flattening_status : Book → ℕ → Status
flattening_status b N = status_of b.fault (how_many (λ s. not (is_acceptance s && not (is_switch s))) (plain_course b.events N))
