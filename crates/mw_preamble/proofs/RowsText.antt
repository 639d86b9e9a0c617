-- The text is that of the rows, and no longer than a book.
use Rattle.std.proofs.Common.{◌≡◌, ◌≤◌, ◌++◌, length, refl, lit≤}
use Rattle.mw_model.specs.Texts.Grammar.{limit}
use Rattle.mw_model.specs.Texts.Printing.{text_of}
use Rattle.mw_heap.specs.Variants.{profile_of}
use Rattle.mw_heap.specs.declared.vocabulary.profile.Profile.{Profile}
use Rattle.mw_heap.specs.declared.vocabulary.profile.Profile.TheVariants.{One, Two}
use Rattle.mw_preamble.specs.Rows.{built_in_rows}
use Rattle.mw_preamble.specs.Texts.{differing}
use Rattle.mw_preamble.specs.declared.text.TheConstants.{BEFORE, AFTER}

pub rows_text : (P : Profile) → (BEFORE.now ++ differing P) ++ AFTER.now ≡ text_of (built_in_rows (profile_of P))
unfolding built_in_rows
rows_text One = refl
rows_text Two = refl

pub rows_short : (P : Profile) → length (text_of (built_in_rows (profile_of P))) ≤ limit
unfolding built_in_rows
rows_short One = lit≤ tt
rows_short Two = lit≤ tt
