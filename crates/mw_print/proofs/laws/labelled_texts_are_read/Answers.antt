-- The text with labels is what is owed.
use Rattle.mw_print.proofs.LabelledText.{labelled_text_is}
use Rattle.mw_print.proofs.Compact.{labelled_texts_are_compact}
use Rattle.mw_print.proofs.laws.labelled_texts_are_read.Goals as goal

pub returns-clause-read : goal.returns-clause-read
returns-clause-read c = labelled_text_is

pub returns-clause-compact : goal.returns-clause-compact
returns-clause-compact c = labelled_texts_are_compact
