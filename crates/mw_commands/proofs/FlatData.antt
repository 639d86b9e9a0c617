-- What may be written for a book that is turned to a log: it computes.
use Rattle.std.proofs.Common.{ℕ, List, [], ◌∷◌, ◌++◌, refl, codes}
use Rattle.mw_model.specs.Terms.Object.{Object}
use Rattle.mw_model.specs.Events.Fate.{event_word}
use Rattle.mw_model.specs.Texts.Written.{AreWritten}
use Rattle.mw_model.specs.Texts.Pieces.{InOrder, numbered}
use Rattle.mw_commands.specs.Commands.Subproofs.{distinct_proofs}
use Rattle.mw_commands.specs.Commands.Slice.{proofs_by_word}
use Rattle.mw_commands.specs.Commands.Flattening.{step_members, IsStepLine, flat_event, OwesFlat}
use Rattle.mw_commands.proofs.OwedText.{owed_text, owed_next, owed_text_is_written}

-- pieces, each as it has to be
abbrev pub joined_by : {X : Type 0} → (X → List ℕ) → List X → List ℕ
joined_by piece [] = []
joined_by piece (x ∷ xs) = piece x ++ joined_by piece xs

in_order : {X : Type 0} (P : X → List ℕ → Type 0) (piece : X → List ℕ) → ((x : X) → P x (piece x)) → (xs : List X) → InOrder P xs (joined_by piece xs)
in_order P piece f [] = refl
in_order P piece f (x ∷ xs) = (piece x, joined_by piece xs, refl, f x, in_order P piece f xs)

-- members of a datum
abbrev pub members_text : List Object → ℕ → List ℕ
members_text [] first = []
members_text (x ∷ xs) first = 32 ∷ (owed_text x first ++ members_text xs (owed_next x first))

members_written : (xs : List Object) (first : ℕ) → AreWritten xs first (members_text xs first)
members_written [] first = refl
members_written (x ∷ xs) first =
    let next = owed_next x first in
    (owed_text x first, members_text xs next, next, refl, owed_text_is_written x first, members_written xs next)

-- steps
abbrev pub step_text : List Object → ℕ × Object → List ℕ
step_text qs np = codes "(STEP" ++ (members_text (step_members qs np) 1 ++ codes ")" ++ 10 ∷ [])

step_line : (qs : List Object) (np : ℕ × Object) → IsStepLine qs np (step_text qs np)
step_line qs np = (members_text (step_members qs np) 1, members_written (step_members qs np) 1, refl)

-- events
abbrev pub steps_of_event : Object → List Object
steps_of_event e = distinct_proofs (proofs_by_word (event_word e) e)

abbrev pub flat_text : Object → List ℕ
flat_text e = let qs = steps_of_event e in joined_by (step_text qs) (numbered 1 qs) ++ (owed_text (flat_event e) 1 ++ 10 ∷ [])

pub flat_written : (e : Object) → OwesFlat e (flat_text e)
flat_written e =
    let qs = steps_of_event e in
    let x = flat_event e in
    (joined_by (step_text qs) (numbered 1 qs), owed_text x 1 ++ 10 ∷ [], refl, in_order (IsStepLine qs) (step_text qs) (step_line qs) (numbered 1 qs), (owed_text x 1, owed_next x 1, owed_text_is_written x 1, refl))

pub flat_owed : (es : List Object) → InOrder OwesFlat es (joined_by flat_text es)
flat_owed es = in_order OwesFlat flat_text flat_written es
