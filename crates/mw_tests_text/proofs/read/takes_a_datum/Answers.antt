-- Nothing was read.
use Rattle.std.proofs.Common.{[], inl}
use Rattle.mw_tests_text.proofs.read.takes_a_datum.Goals as goal

pub step-requires-clause-stands : goal.step-requires-clause-stands
step-requires-clause-stands c = inl ([], [], c.new-reader.ensures.stands _)
