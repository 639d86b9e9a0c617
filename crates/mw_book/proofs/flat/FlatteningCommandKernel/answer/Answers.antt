-- The event is judged, or only counted.
use Rattle.std.proofs.Common.{arith}
use Rattle.mw_heap.specs.Objects.{object_at}
use Rattle.mw_book.proofs.FlattenedOne.{counted_flat, flattened_few}
use Rattle.mw_book.proofs.flat.FlatteningCommandKernel.answer.Goals as goal

pub judge-requires-clause-written : goal.judge-requires-clause-written
judge-requires-clause-written c = omega (arith, flattened_few c.args.self.now c.args.kernel.now c.requires.known, c.requires.room)

pub returns-then-self-clause-puts : goal.returns-then-self-clause-puts
returns-then-self-clause-puts c =
    let k = c.args.kernel.now in
    counted_flat c.args.self.now k _ (object_at k.objects c.args.x) _ c.if-self.true c.forget.ensures.steps c.requires.empty
