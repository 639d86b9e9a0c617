-- What is owed for a datum, by the length of its text.
use Rattle.std.proofs.Common.{true, false, ltb, ◌&&◌, ◌++◌, ltb-false, ap, ◌∙◌, ◌≡◌, ℕ, ◌<◌, ◌≤◌, Bool, List, length, sym, subst, lt-ltb}
use Rattle.mw_model.specs.Terms.Object.{Object}
use Rattle.mw_model.specs.Values.Value.{pick}
use Rattle.mw_model.specs.Values.Primitive.{is_pair}
use Rattle.mw_model.specs.Events.Fate.{longest}
use Rattle.mw_model.specs.Texts.Printing.{text_of}
use Rattle.mw_model.specs.Texts.Written.{IsLabelled, IsCompact}
use Rattle.mw_print.specs.Labelling.{labelled_text, labelled_next}
use Rattle.mw_print.specs.Waiting.{is_one_of}
use Rattle.mw_print.specs.Repeats.{AreRepeats, stands}
use Rattle.mw_print.specs.Datum.{WritesDatum}
use Rattle.mw_print.proofs.LabelledText.{labelled_text_is}
use Rattle.mw_print.proofs.Compact.{labelled_texts_are_compact}

pub written_long : (os : List Object) (x : Object) (refs : List ℕ) (first : ℕ) (text : List ℕ) (next : ℕ) (old new : List ℕ) → longest < length (text_of x) → AreRepeats os x refs → text ≡ labelled_text (is_one_of os refs) x first → next ≡ labelled_next (is_one_of os refs) x first → new ≡ old ++ text → WritesDatum x first old new next
written_long os x refs first text next old new long repeats e f g = (
  text,
  g,
  (
    subst (λ (b : Bool). pick b (IsLabelled x first text next) ((text ≡ text_of x) × (next ≡ first))) (sym (lt-ltb longest (length (text_of x)) long))
        (subst (λ t. IsLabelled x first t next) (sym e) (subst (λ n. IsLabelled x first (labelled_text (is_one_of os refs) x first) n) (sym f) (labelled_text_is (is_one_of os refs) x first))),
    subst (IsCompact x first) (sym e) (labelled_texts_are_compact (is_one_of os refs) x first few),
  ),
)
  where
    few : (p : Object) → is_pair p ≡ true → is_one_of os refs p ≡ false → stands p x ≤ 1
    few p pair h = ltb-false 1 (stands p x) (sym (ap (λ b. b && ltb 1 (stands p x)) pair) ∙ (sym (repeats p) ∙ h))
