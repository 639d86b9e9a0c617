-- The last line of a report.
use Rattle.mw_book.proofs.ReportedOne.{reported_summary}
use Rattle.mw_book.proofs.check.ReportingTelling.mark.Goals as goal

pub returns-clause-summary : goal.returns-clause-summary
returns-clause-summary c = reported_summary
