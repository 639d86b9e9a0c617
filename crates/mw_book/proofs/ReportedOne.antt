-- One event more in a report, and its last line.
use Rattle.std.proofs.Common.{◌≡◌, ℕ, suc, ◌+◌, true, cond, List, [], ◌∷◌, ◌++◌, length, refl, sym, ap, ◌∙◌}
use Rattle.mw_model.specs.Terms.Object.{Object}
use Rattle.mw_model.specs.Values.Primitive.{One}
use Rattle.mw_model.specs.Events.Theory.{Theory, initial}
use Rattle.mw_model.specs.Events.Refusal.{RANGE, Fate, Refused}
use Rattle.mw_model.specs.Events.Fate.{is_out_of_range, fate, next, after}
use Rattle.mw_model.specs.Reports.Report.{accepted_among, fate_text, is_accepted, line, lines, refused_among, summary}
use Rattle.mw_model.specs.Reports.Request.{Check}
use Rattle.mw_model.specs.Texts.Pieces.{how_many}
use Rattle.mw_commands.specs.Commands.Transition.{course, course_from, is_acceptance, last_theory}
use Rattle.mw_commands.specs.Commands.Lowering.{course_summary, refused_in}
use Rattle.mw_kernel.specs.Knowledge.{Knowledge, theory_of}
use Rattle.mw_book.specs.Lines.{line_begun}
use Rattle.mw_answers.specs.Effects.{plain, refused_as_reported}
use Rattle.mw_book.specs.Judged.{Tells}
use Rattle.mw_book.proofs.Appending.{lines-append}
use Rattle.mw_answers.proofs.CallerLemmas.{course_leads, length-course}
use Rattle.mw_book.proofs.OneEvent.{same_text, tells_plain}
use Rattle.mw_book.proofs.OneMore.{line-parts}
use Rattle.mw_book.proofs.Showing.{fate-large, next-large}

pub reported_one : (k l : Knowledge) (number : ℕ) (y : Object) (f : Fate) (begun piece : List ℕ) →
    f ≡ fate (theory_of k) y k.steps →
    theory_of l ≡ next (theory_of k) y k.steps →
    l.steps ≡ k.steps →
    begun ≡ line_begun number y →
    piece ≡ begun ++ (fate_text f ++ 10 ∷ []) →
    Tells Check plain k number y f l piece
reported_one k l number y f begun piece comes goes kept first whole =
    tells_plain Check k l number y f piece comes goes kept
    (λ N given stands steps count fate_is written expected.
    let i = initial One in
    let here : f ≡ fate (after i given N) y N = fate_is ∙ ap (λ t. fate t y N) (course_leads N 1 i given) in
    ap (λ l. written ++ l) (whole ∙ ap (λ l. l ++ (fate_text f ++ 10 ∷ [])) first ∙ line-parts number y f)
    ∙ ap (λ l. l ++ line number y f) expected
    ∙ ap (λ n. lines 1 i given N ++ line n y f) count
    ∙ ap (λ v. lines 1 i given N ++ line (1 + length given) y v) here
    ∙ sym (lines-append 1 i given y N))

-- the same where the event has a natural past the range
pub reported_large : (k : Knowledge) (number : ℕ) (y : Object) (begun piece : List ℕ) → is_out_of_range y ≡ true →
    begun ≡ line_begun number y →
    piece ≡ begun ++ (fate_text (Refused RANGE) ++ 10 ∷ []) →
    Tells Check plain k number y (Refused RANGE) k piece
reported_large k number y begun piece large = reported_one k k number y (Refused RANGE) begun piece (sym (fate-large (theory_of k) y k.steps large)) (sym (next-large (theory_of k) y k.steps large)) refl

-- ---- the last line

accepted_as_reported : (N k : ℕ) (t : Theory) (es : List Object) → how_many is_acceptance (course_from (plain N) k t es) ≡ accepted_among t es N
accepted_as_reported N k t [] = refl
accepted_as_reported N k t (e ∷ es) = ap (λ n. cond (is_accepted (fate t e N)) 1 0 + n) (accepted_as_reported N (suc k) (next t e N) es)

pub reported_summary : (N : ℕ) (given : List Object) → course_summary (course (plain N) given) ++ 10 ∷ [] ≡ summary given N
reported_summary N given =
    let i = initial One in
    let ss = course (plain N) given in
    same_text (length ss) (how_many is_acceptance ss) (refused_in ss) (last_theory ss).level (length given) (accepted_among i given N) (refused_among i given N) (after i given N).level
    (length-course (plain N) 1 i given) (accepted_as_reported N 1 i given) (refused_as_reported N given) (ap (λ (t : Theory). t.level) (course_leads N 1 i given))
