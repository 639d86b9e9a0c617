-- What may be written for a book that is explained: it computes.
use Rattle.std.proofs.Common.{ℕ, List, [], ◌∷◌, ◌++◌, refl, codes}
use Rattle.mw_model.specs.Events.Refusal.{Fate, Accepted, Refused}
use Rattle.mw_model.specs.Reports.Report.{line}
use Rattle.mw_model.specs.Texts.Pieces.{InOrder}
use Rattle.mw_commands.specs.Commands.Transition.{Transition}
use Rattle.mw_commands.specs.Commands.Explanation.{why}
use Rattle.mw_commands.specs.Commands.ExplanationBook.{OwesWhy, OwesExplained}
use Rattle.mw_commands.proofs.OwedText.{owed_text, owed_next, owed_text_is_written}
use Rattle.mw_commands.proofs.FlatData.{joined_by}

abbrev pub why_text : ℕ → Transition → Fate → List ℕ
why_text N s (Accepted value) = []
why_text N s (Refused r) = codes "; " ++ (line s.number s.event (Refused r) ++ (owed_text (why s.number r s.before N s.event) 1 ++ 10 ∷ []))

abbrev pub explained_text : ℕ → Transition → List ℕ
explained_text N s = why_text N s s.fate

pub why_owed : (N : ℕ) (s : Transition) (f : Fate) → OwesWhy N s f (why_text N s f)
why_owed N s (Accepted value) = refl
why_owed N s (Refused r) =
    let x = why s.number r s.before N s.event in
    (owed_text x 1 ++ 10 ∷ [], (owed_text x 1, owed_next x 1, owed_text_is_written x 1, refl), refl)

pub explained_owed : (N : ℕ) (ss : List Transition) → InOrder (OwesExplained N) ss (joined_by (explained_text N) ss)
explained_owed N [] = refl
explained_owed N (s ∷ ss) = (explained_text N s, joined_by (explained_text N) ss, refl, why_owed N s s.fate, explained_owed N ss)
