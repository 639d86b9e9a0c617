-- What is owed for a book of derivations: each accepted event with proofs in their place, and why another is refused.
use Rattle.std.specs.Prelude.{◌≡◌, ℕ, not, List, ◌++◌, length, Option, Some, None, codes}
use Rattle.mw_model.specs.Terms.Object.{Name, Object, Natural, Symbol, Pair}
use Rattle.mw_model.specs.Values.Definition.{arity_table}
use Rattle.mw_model.specs.Events.Theory.{Theory}
use Rattle.mw_model.specs.Events.Refusal.{Fate, Accepted, Refused}
use Rattle.mw_model.specs.Events.Fate.{EventWord, event_word}
use Rattle.mw_model.specs.Events.Demand.{proofs_of, with_proofs, happens_under}
use Rattle.mw_model.specs.Texts.Grammar.{Book}
use Rattle.mw_model.specs.Texts.Printing.{numeral}
use Rattle.mw_model.specs.Reports.Report.{Status, status_of, spaced, line}
use Rattle.mw_model.specs.Texts.Written.{IsDatumLine}
use Rattle.mw_model.specs.Texts.Pieces.{InOrder, how_many, comment_ending}
use Rattle.mw_commands.specs.Commands.Transition.{Transition, course, last_theory, is_acceptance}
use Rattle.mw_commands.specs.Commands.Derivation.{Turns}
use Rattle.mw_commands.specs.Commands.DerivationTest.{derived_as}

-- the course of a book where derivations are as good as proofs
abbrev pub derived_course : List Object → ℕ → List Transition
derived_course es N = course (λ t e. happens_under derived_as t N e) es

-- each derivation of a list turns to the proof in its place
abbrev pub EachTurns : Theory → Object → Object → Type 0
EachTurns t (Pair p ps) x = (q qs : Object) × (x ≡ Pair q qs) × Turns t.axioms t.theorems (arity_table t.definitions) t.definitions.profile p q × EachTurns t ps qs
EachTurns t (Natural n) x = x ≡ Natural n
EachTurns t (Symbol s) x = x ≡ Symbol s

-- An accepted event as it is written. Only the built-in checker takes derivations: under another one the event stays.
abbrev pub IsLoweredBy : Option Name → Option EventWord → Theory → Object → Object → Type 0
IsLoweredBy None (Some w) t e lowered = (qs : Object) × EachTurns t (proofs_of w e) qs × (lowered ≡ with_proofs w e qs)
IsLoweredBy _ _ t e lowered = lowered ≡ e

abbrev pub IsLowered : Transition → Object → Type 0
IsLowered s lowered = IsLoweredBy s.before.checker (event_word s.event) s.before s.event lowered

abbrev pub OwesByFate : Fate → Transition → List ℕ → Type 0
OwesByFate (Accepted value) s piece = (lowered : Object) × IsLowered s lowered × IsDatumLine lowered piece
OwesByFate (Refused r) s piece = piece ≡ codes "; " ++ line s.number s.event (Refused r)

abbrev pub OwesLowered : Transition → List ℕ → Type 0
OwesLowered s piece = OwesByFate s.fate s piece

abbrev pub refused_in : List Transition → ℕ
refused_in ss = how_many (λ s. not (is_acceptance s)) ss

-- events E accepted A refused R level L
abbrev pub course_summary : List Transition → List ℕ
course_summary ss =
    spaced (codes "events") (spaced (numeral (length ss)) (spaced (codes "accepted") (spaced (numeral (how_many is_acceptance ss)) (spaced (codes "refused") (spaced (numeral (refused_in ss)) (spaced (codes "level") (numeral (last_theory ss).level)))))))

abbrev pub LoweredWritten : Book → ℕ → List ℕ → Type 0
LoweredWritten b N text =
    let ss = derived_course b.events N in (body : List ℕ) × InOrder OwesLowered ss body × (text ≡ body ++ comment_ending b.fault (course_summary ss))

abbrev pub lowering_status : Book → ℕ → Status
lowering_status b N = status_of b.fault (refused_in (derived_course b.events N))
