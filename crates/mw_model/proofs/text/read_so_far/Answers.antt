-- The lexemes grow, and with them what is read and its lines.
use Rattle.mw_model.proofs.ReadingGrows.{reading_grows}
use Rattle.mw_model.proofs.LinesGrow.{trees_grow, lines_grow, report_begins}
use Rattle.mw_model.proofs.text.read_so_far.Goals as goal

pub returns-clause-events : goal.returns-clause-events
returns-clause-events c = λ e g h. let b = reading_grows e g h in (b.more, b.events)

pub returns-clause-fault : goal.returns-clause-fault
returns-clause-fault c = λ e g h. (reading_grows e g h).same

pub returns-clause-whole : goal.returns-clause-whole
returns-clause-whole c = λ g h f l. (trees_grow g h l).same f

pub returns-clause-lines : goal.returns-clause-lines
returns-clause-lines c = lines_grow

pub returns-clause-prefix : goal.returns-clause-prefix
returns-clause-prefix c = report_begins
