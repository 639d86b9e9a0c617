-- A conclusion with a number is of the heap.
use Rattle.mw_heap.specs.Objects.{IsIn}
use Rattle.mw_flat.proofs.ByNumber.{numbered-All}
use Rattle.mw_flat.proofs.collected.concludes.Goals as goal

pub same-requires-clause-first_in : goal.same-requires-clause-first_in
same-requires-clause-first_in c = numbered-All (IsIn c.args.heap.now.objects) c.args.conclusions.now _ c.in-Some.conclusion c.requires.conclusions c.in-Some.ensures
