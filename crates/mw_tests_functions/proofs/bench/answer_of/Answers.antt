-- The term that was compiled is run.
use Rattle.mw_tests_functions.specs.Tested.{no_functions}
use Rattle.mw_tests_functions.proofs.bench.answer_of.Goals as goal

pub run-requires-clause-entry : goal.run-requires-clause-entry
run-requires-clause-entry c =
    let (t, closed) = c.requires.term in
    (no_functions, t, c.in_ok-entry.ensures.table no_functions c.requires.table, c.in_ok-entry.ensures.entry no_functions t c.requires.table closed)

pub number-requires : goal.number-requires
number-requires c =
    let (t, closed) = c.requires.term in
    (c.in-Value.ensures.answer no_functions t (c.in_ok-entry.ensures.table no_functions c.requires.table) (c.in_ok-entry.ensures.entry no_functions t c.requires.table closed)).0
