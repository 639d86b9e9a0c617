-- Each event of a course of derivations has a piece.
use Rattle.std.proofs.Common.{◌≡◌, ℕ, true, List, [], ◌∷◌, ◌++◌, codes, refl, ap}
use Rattle.mw_model.specs.Terms.Object.{Object}
use Rattle.mw_model.specs.Values.Truth.{Each}
use Rattle.mw_model.specs.Events.Refusal.{Fate, Accepted, Refused}
use Rattle.mw_model.specs.Reports.Report.{is_accepted, line}
use Rattle.mw_model.specs.Texts.Pieces.{InOrder}
use Rattle.mw_commands.specs.Commands.Transition.{Transition, is_acceptance}
use Rattle.mw_commands.specs.Commands.Lowering.{IsLowered, OwesByFate, OwesLowered}
use Rattle.mw_answers.proofs.Pieces.{LabelledTexts, may_be_written}

-- an event that is accepted has a lowered form
abbrev pub HasLowered : Transition → Type 0
HasLowered s = is_acceptance s ≡ true → (lowered : Object) × IsLowered s lowered

pub each_later : (ss more : List Transition) → Each HasLowered (ss ++ more) → Each HasLowered more
each_later [] more h = h
each_later (s ∷ ss) more h = each_later ss more h.1

piece_by_fate : LabelledTexts → (s : Transition) → HasLowered s → (f : Fate) → s.fate ≡ f → (piece : List ℕ) × OwesByFate f s piece
piece_by_fate labelled s h (Accepted value) e =
    let l = h (ap is_accepted e) in
    let w = may_be_written labelled l.0 in
    (w.0 ++ 10 ∷ [], (l.0, l.1, (w.0, w.1, w.2, refl)))
piece_by_fate labelled s h (Refused r) e = (codes "; " ++ line s.number s.event (Refused r), refl)

pub all_lowered : LabelledTexts → (ss : List Transition) → Each HasLowered ss → (text : List ℕ) × InOrder OwesLowered ss text
all_lowered labelled [] h = ([], refl)
all_lowered labelled (s ∷ ss) h =
    let p = piece_by_fate labelled s h.0 s.fate refl in
    let r = all_lowered labelled ss h.1 in
    (p.0 ++ r.0, (p.0, r.0, refl, p.1, r.1))
