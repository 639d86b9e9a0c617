-- The line of an event, in two parts.
use Rattle.std.proofs.Common.{◌≡◌, ℕ, List, [], ◌∷◌, ◌++◌, ap, ◌∙◌, append_assoc}
use Rattle.mw_model.specs.Terms.Object.{Object}
use Rattle.mw_model.specs.Events.Refusal.{Fate}
use Rattle.mw_model.specs.Texts.Printing.{numeral}
use Rattle.mw_model.specs.Reports.Report.{fate_text, word_text, label_text, line}
use Rattle.mw_book.specs.Lines.{line_begun}

pub joined : (a b c d : List ℕ) → (a ++ 32 ∷ (b ++ 32 ∷ (c ++ 32 ∷ []))) ++ (d ++ 10 ∷ []) ≡ (a ++ 32 ∷ (b ++ 32 ∷ (c ++ 32 ∷ d))) ++ 10 ∷ []
joined a b c d = simp append_assoc

pub line-parts : (k : ℕ) (y : Object) (f : Fate) → line_begun k y ++ (fate_text f ++ 10 ∷ []) ≡ line k y f
line-parts k y f = joined (numeral k) (word_text y) (label_text y) (fate_text f)

-- a line that was made in two parts, in place of nothing
pub two_parts : (none begun first rest whole : List ℕ) → none ≡ [] → begun ≡ none ++ first → whole ≡ begun ++ rest → whole ≡ first ++ rest
two_parts none begun first rest whole e b w = w ∙ ap (λ l. l ++ rest) (b ∙ ap (λ l. l ++ first) e)

-- what was written after nothing is the whole
pub after_nothing : {none whole text : List ℕ} → none ≡ [] → whole ≡ none ++ text → whole ≡ text
after_nothing {none} {whole} {text} e w = w ∙ ap (λ l. l ++ text) e
