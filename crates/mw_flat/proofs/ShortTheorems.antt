-- Theorems with a number in the place of the proof: on a line where the text is short, and after the steps.
use Rattle.std.proofs.Common.{◌≡◌, ℕ, ◌≤◌, List, [], ◌∷◌, ◌++◌, length, refl, sym, ap, ◌∙◌, subst, arith}
use Rattle.std.proofs.lemmas.Bool.{le-ltb}
use Rattle.mw_model.specs.Terms.Object.{Object, Natural, list1}
use Rattle.mw_model.specs.Values.Value.{pick}
use Rattle.mw_model.specs.Events.Fate.{longest}
use Rattle.mw_model.specs.Texts.Printing.{text_of}
use Rattle.mw_model.specs.Texts.Written.{IsLabelled, IsDatumLine}
use Rattle.mw_commands.specs.Commands.Subproofs.{distinct_proofs}
use Rattle.mw_commands.specs.Commands.Flattening.{number_among, StepsWritten, OwesFlat}
use Rattle.mw_theory.specs.Words.{verify_event}

pub short_line : (x : Object) → length (text_of x) ≤ longest → IsDatumLine x (text_of x ++ 10 ∷ [])
short_line x few = (
  text_of x,
  1,
  (subst (λ b. pick b (IsLabelled x 1 (text_of x) 1) ((text_of x ≡ text_of x) × ◌≡◌ {A = ℕ} 1 1)) (sym (le-ltb longest (length (text_of x)) few)) (refl, refl), λ long room. absurd (omega (arith, few, long))),
  refl,
)

pub theorem_after : (name formula p : Object) (number : ℕ) (was steps now : List ℕ) (f : (text : List ℕ) × StepsWritten (list1 p) text × (steps ≡ was ++ text)) (l : (line : List ℕ) × IsDatumLine (verify_event name formula (Natural number)) line × (now ≡ steps ++ line)) → was ≡ [] → number ≡ number_among (distinct_proofs (list1 p)) p → OwesFlat (verify_event name formula p) now
theorem_after name formula p number was steps now f l empty same =
    (f.0, l.0, l.2 ∙ ap (λ u. u ++ l.0) (f.2 ∙ ap (λ u. u ++ f.0) empty), f.1, subst (λ n. IsDatumLine (verify_event name formula (Natural n)) l.0) same l.1)
