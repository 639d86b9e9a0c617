-- A refused entry leaves the entries.
use Rattle.mw_theory.proofs.BlockAdded.{begins_same}
use Rattle.mw_theory.proofs.adding.add_parts.Goals as goal

pub returns-in_err-add_entry-clause-entries_kept : goal.returns-in_err-add_entry-clause-entries_kept
returns-in_err-add_entry-clause-entries_kept c = begins_same c.add_entry.new.entries c.args.entries.now c.in_err-add_entry.ensures.err
