-- The table stands as the heap grows.
use Rattle.mw_code.proofs.CallerLemmas.{stands-grows}
use Rattle.mw_tests_functions.specs.Tested.{no_functions}
use Rattle.mw_tests_functions.proofs.bench.answer_in.Goals as goal

pub answer_of-requires-clause-table : goal.answer_of-requires-clause-table
answer_of-requires-clause-table c =
    let t = c.args.table.now in
    stands-grows c.args.heap.now.objects c.term.new.heap.objects c.in_ok-term.ensures.grows t.signature t.profile t.functions.items t.code.items t.kept no_functions c.requires
