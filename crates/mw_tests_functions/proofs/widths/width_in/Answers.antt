-- The table stands as the heap grows.
use Rattle.mw_code.proofs.CallerLemmas.{stands-grows}
use Rattle.mw_tests_functions.specs.Tested.{no_functions}
use Rattle.mw_tests_functions.proofs.widths.width_in.Goals as goal

pub width_of-requires-clause-table : goal.width_of-requires-clause-table
width_of-requires-clause-table c =
    let t = c.args.table.now in
    stands-grows c.args.heap.now.objects c.term.new.heap.objects c.in_ok-term.ensures.grows t.signature t.profile t.functions.items t.code.items t.kept no_functions c.requires
