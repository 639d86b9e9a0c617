-- What may be written for any object: its text where that is short, and else a text in which each pair has a label.
use Rattle.std.proofs.Common.{◌≡◌, ℕ, Bool, true, false, cond, ltb, List, length, refl, sym, ◌∙◌, lt-ltb}
use Rattle.std.proofs.lemmas.Bool.{true≢false}
use Rattle.mw_model.specs.Terms.Object.{Object}
use Rattle.mw_model.specs.Values.Value.{pick}
use Rattle.mw_model.specs.Events.Fate.{longest}
use Rattle.mw_model.specs.Texts.Printing.{text_of}
use Rattle.mw_model.specs.Texts.Written.{IsLabelled, IsCompact, IsWritten}
use Rattle.mw_print.specs.Labelling.{labelled_text, labelled_next}
use Rattle.mw_print.proofs.LabelledText.{labelled_text_is}
use Rattle.mw_print.proofs.Compact.{labelled_texts_are_compact}

abbrev all_pairs : Object → Bool
all_pairs p = true

abbrev is_long : Object → Bool
is_long x = ltb longest (length (text_of x))

abbrev pub owed_text : Object → ℕ → List ℕ
owed_text x first = cond (is_long x) (labelled_text all_pairs x first) (text_of x)

-- the first label that is unused then
abbrev pub owed_next : Object → ℕ → ℕ
owed_next x first = cond (is_long x) (labelled_next all_pairs x first) first

pub owed_text_is_written : (x : Object) (first : ℕ) → IsWritten x first (owed_text x first) (owed_next x first)
owed_text_is_written x first = go (is_long x) refl
  where
    text : Bool → List ℕ
    text b = cond b (labelled_text all_pairs x first) (text_of x)

    next : Bool → ℕ
    next b = cond b (labelled_next all_pairs x first) first

    go : (b : Bool) → is_long x ≡ b → pick b (IsLabelled x first (text b) (next b)) ((text b ≡ text_of x) × (next b ≡ first)) × IsCompact x first (text b)
    go true e = (labelled_text_is all_pairs x first, labelled_texts_are_compact all_pairs x first (λ p pair h. cc))
    go false e = ((refl, refl), λ long few. absurd (true≢false (sym (lt-ltb longest (length (text_of x)) long) ∙ e)))
