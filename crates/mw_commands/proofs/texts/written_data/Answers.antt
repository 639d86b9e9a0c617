-- The lexemes of a line are alike wherever it stands, and alike lexemes are read alike.
use Rattle.mw_commands.proofs.WrittenRead.{written_is_read, lines_are_text, text_is_read}
use Rattle.mw_commands.proofs.texts.written_data.Goals as goal

pub returns-clause-datum : goal.returns-clause-datum
returns-clause-datum c = written_is_read

pub returns-clause-lines : goal.returns-clause-lines
returns-clause-lines c = lines_are_text

pub returns-clause-text : goal.returns-clause-text
returns-clause-text c = text_is_read
