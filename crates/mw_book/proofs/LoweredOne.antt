-- One event more of a lowered book.
use Rattle.std.proofs.Common.{◌≡◌, ℕ, ◌+◌, true, false, not, List, [], ◌∷◌, ◌++◌, Some, codes, refl, sym, ap, ◌∙◌, subst}
use Rattle.mw_model.specs.Terms.Object.{Object, Member}
use Rattle.mw_model.specs.Terms.Term.{formula_object}
use Rattle.mw_model.specs.Proofs.Axioms.{axiom_1, axiom_2}
use Rattle.mw_model.specs.Reports.Request.{Lower}
use Rattle.mw_model.specs.Events.Theory.{Theory}
use Rattle.mw_model.specs.Events.Refusal.{RANGE, EVENT, Fate, Accepted, Refused, refuse, need}
use Rattle.mw_model.specs.Events.Fate.{is_out_of_range, happens, event_word}
use Rattle.mw_model.specs.Events.Demand.{happens_under, happens_by_under}
use Rattle.mw_model.specs.Laws.Rewriting.{IsRewritten}
use Rattle.mw_model.specs.Terms.Reading.{when}
use Rattle.mw_model.specs.Reports.Report.{fate_text, is_accepted}
use Rattle.mw_model.specs.Texts.Written.{IsDatumLine}
use Rattle.mw_commands.specs.Commands.DerivationTest.{derived_as}
use Rattle.mw_commands.specs.Commands.Derivation.{Turns}
use Rattle.mw_commands.specs.Commands.Transition.{Transition, last_theory}
use Rattle.mw_commands.specs.Commands.Lowering.{IsLoweredBy, OwesByFate, OwesLowered, derived_course}
use Rattle.mw_kernel.specs.Knowledge.{Knowledge, theory_of}
use Rattle.mw_book.specs.Lines.{line_begun}
use Rattle.mw_answers.specs.Effects.{derived}
use Rattle.mw_book.specs.Judged.{Tells, Told}
use Rattle.mw_book.specs.Pieces.{lowered_piece}
use Rattle.mw_answers.proofs.CallerLemmas.{event_after}
use Rattle.mw_book.proofs.OneEvent.{pieces_more, refused_text}

piece_owed : (f : Fate) (s : Transition) (datum begun : List ℕ) (lowered : Object) →
    (is_accepted f ≡ true → IsLoweredBy s.before.checker (event_word s.event) s.before s.event lowered) →
    IsDatumLine lowered datum →
    begun ≡ codes "; " ++ line_begun s.number s.event →
    OwesByFate f s (lowered_piece f datum begun)
piece_owed (Accepted value) s datum begun lowered low written first = (lowered, low refl, written)
piece_owed (Refused r) s datum begun lowered low written first = refused_text r s begun first

-- the theory has the first two axioms
abbrev pub HasFirst : Theory → Type 0
HasFirst t = Member (formula_object axiom_1) t.axioms × Member (formula_object axiom_2) t.axioms

-- that a lowered event comes to the same
abbrev pub ComesToSame : Type 0
ComesToSame = (t : Theory) (N : ℕ) (e lowered : Object) → Member (formula_object axiom_1) t.axioms → Member (formula_object axiom_2) t.axioms → is_out_of_range e ≡ false → IsRewritten Turns t e lowered → happens t N lowered ≡ happens_under derived_as t N e

abbrev pub IsAsWritten : Type 0
IsAsWritten = (t : Theory) (N : ℕ) (e lowered : Object) → Member (formula_object axiom_1) t.axioms → Member (formula_object axiom_2) t.axioms → IsRewritten Turns t e lowered → is_accepted (happens_under derived_as t N e).0 ≡ true → IsLoweredBy t.checker (event_word e) t e lowered

-- the fate is that of the course, and what is owed for the event is what was written
told_lowered : (N : ℕ) (given : List Object) (y : Object) (f : Fate) (l : Knowledge) (piece : List ℕ) →
    let s = event_after (derived N) given y in
    f ≡ s.fate → theory_of l ≡ s.next → l.steps ≡ N → OwesByFate f s piece → Told Lower derived N given y f l piece
told_lowered N given y f l piece comes goes steps owed = record {
  fate = comes;
  theory = goes;
  steps = steps;
  expected = λ text expected. let s = event_after (derived N) given y in pieces_more (derived N) given y OwesLowered text piece expected (subst (λ g. OwesByFate g s piece) comes owed);
}

-- An event was lowered, and the kernel judged what it became.
module _ (same : ComesToSame) (written : IsAsWritten) (first : (es : List Object) (N : ℕ) → HasFirst (last_theory (derived_course es N))) where
  pub lowered_one : (k m l : Knowledge) (number : ℕ) (y lowered : Object) (f : Fate) (datum begun piece : List ℕ) →
      is_out_of_range y ≡ false → IsRewritten Turns (theory_of k) y lowered → IsDatumLine lowered datum →
      theory_of m ≡ theory_of k → m.steps ≡ k.steps → f ≡ (happens (theory_of m) m.steps lowered).0 → theory_of l ≡ (happens (theory_of m) m.steps lowered).1 → l.steps ≡ m.steps →
      begun ≡ codes "; " ++ line_begun number y →
      piece ≡ lowered_piece f datum begun →
      Tells Lower derived k number y f l piece
  lowered_one k m l number y lowered f datum begun piece in_range rewritten line theory limit comes goes kept begins whole N given stands steps count =
      let t = last_theory (derived_course given N) in
      let s = event_after (derived N) given y in
      let a = first given N in
      let turned = subst (λ v. IsRewritten Turns v y lowered) stands rewritten in
      let equal = ap (λ v. happens v m.steps lowered) (theory ∙ stands) ∙ ap (λ n. happens t n lowered) (limit ∙ steps) ∙ same t N y lowered a.0 a.1 in_range turned in
      let fate_is : f ≡ s.fate = comes ∙ ap (λ p. p.0) equal in
      told_lowered N given y f l piece fate_is (goes ∙ ap (λ p. p.1) equal) (kept ∙ limit ∙ steps)
      (subst (OwesByFate f s) (sym whole)
      (piece_owed f s datum begun lowered (λ e. written t N y lowered a.0 a.1 turned (ap is_accepted (sym fate_is) ∙ e)) line (begins ∙ ap (λ n. codes "; " ++ line_begun n y) count)))

large_under : (t : Theory) (N : ℕ) (y : Object) → is_out_of_range y ≡ true → happens_under derived_as t N y ≡ refuse t RANGE
unfolding need
large_under t N y large = ap (λ b. need t RANGE (when (not b) (Some y)) (λ x. need t EVENT (event_word x) (λ w. happens_by_under derived_as w t N x))) large

-- An event with a natural past the range is refused.
pub lowered_large : (k : Knowledge) (number : ℕ) (y : Object) (begun piece : List ℕ) → is_out_of_range y ≡ true →
    begun ≡ codes "; " ++ line_begun number y →
    piece ≡ begun ++ (fate_text (Refused RANGE) ++ 10 ∷ []) →
    Tells Lower derived k number y (Refused RANGE) k piece
lowered_large k number y begun piece large begins whole N given stands steps count =
    let t = last_theory (derived_course given N) in
    let s = event_after (derived N) given y in
    let refused = sym (large_under t N y large) in
    told_lowered N given y (Refused RANGE) k piece (ap (λ p. p.0) refused) (stands ∙ ap (λ p. p.1) refused) steps
    (whole ∙ refused_text RANGE s begun (begins ∙ ap (λ n. codes "; " ++ line_begun n y) count))
