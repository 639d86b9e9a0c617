-- What the words of the logic begin: an abbreviation, or another form.
use Rattle.std.proofs.Common.{◌≡◌, false, cond, refl, sym, ap, ◌∙◌}
use Rattle.mw_model.specs.Terms.Object.{Name, name_of_bytes, same_name}
use Rattle.mw_model.specs.Events.Expansion.{Abbreviation, AND, OR, COND, LIST, LET, LETSTAR, FIRST, SECOND, THIRD, FOURTH, FIFTH, QUOTE, Other, abbreviation_of}
use Rattle.mw_heap.specs.Words.{word_bytes}
use Rattle.mw_heap.specs.declared.vocabulary.word.Word.{Word}
use Rattle.mw_heap.specs.declared.vocabulary.word.Word.TheVariants as word

-- a word that is none of these begins another form
pub other_word : (w : Word) → (w ≡ word.And → ⊥) → (w ≡ word.Or → ⊥) → (w ≡ word.Cond → ⊥) → (w ≡ word.List → ⊥) → (w ≡ word.Let → ⊥) → (w ≡ word.LetStar → ⊥) → (w ≡ word.First → ⊥) → (w ≡ word.Second → ⊥) → (w ≡ word.Third → ⊥) → (w ≡ word.Fourth → ⊥) → (w ≡ word.Fifth → ⊥) → (w ≡ word.Quote → ⊥) → Other ≡ abbreviation_of (name_of_bytes (word_bytes w))
other_word word.And differs _ _ _ _ _ _ _ _ _ _ _ = absurd (differs refl)
other_word word.Or _ differs _ _ _ _ _ _ _ _ _ _ = absurd (differs refl)
other_word word.Cond _ _ differs _ _ _ _ _ _ _ _ _ = absurd (differs refl)
other_word word.List _ _ _ differs _ _ _ _ _ _ _ _ = absurd (differs refl)
other_word word.Let _ _ _ _ differs _ _ _ _ _ _ _ = absurd (differs refl)
other_word word.LetStar _ _ _ _ _ differs _ _ _ _ _ _ = absurd (differs refl)
other_word word.First _ _ _ _ _ _ differs _ _ _ _ _ = absurd (differs refl)
other_word word.Second _ _ _ _ _ _ _ differs _ _ _ _ = absurd (differs refl)
other_word word.Third _ _ _ _ _ _ _ _ differs _ _ _ = absurd (differs refl)
other_word word.Fourth _ _ _ _ _ _ _ _ _ differs _ _ = absurd (differs refl)
other_word word.Fifth _ _ _ _ _ _ _ _ _ _ differs _ = absurd (differs refl)
other_word word.Quote _ _ _ _ _ _ _ _ _ _ _ differs = absurd (differs refl)
other_word _ _ _ _ _ _ _ _ _ _ _ _ _ = refl

-- and so does a symbol that is no word
module _ (f : Name) (differ : (w : Word) → same_name (name_of_bytes (word_bytes w)) f ≡ false) where
  further : (w : Word) (found rest : Abbreviation) → rest ≡ cond (same_name (name_of_bytes (word_bytes w)) f) found rest
  further w found rest = ap (λ b. cond b found rest) (sym (differ w))

  pub no_word : Other ≡ abbreviation_of f
  no_word =
      further word.Quote QUOTE _ ∙ (further word.Fifth FIFTH _ ∙ (further word.Fourth FOURTH _ ∙ (further word.Third THIRD _ ∙ (further word.Second SECOND _ ∙ (further word.First FIRST _ ∙ (further word.LetStar LETSTAR _ ∙ (further word.Let LET _ ∙ (further word.List LIST _ ∙ (further word.Cond COND _ ∙ (further word.Or OR _ ∙ (further word.And AND _)))))))))))
