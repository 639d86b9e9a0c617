-- The event is judged, and kept where it is accepted.
use Rattle.std.proofs.Common.{◌+◌, ap}
use Rattle.mw_heap.specs.Objects.{object_at}
use Rattle.mw_book.specs.Sliced.{name_asked}
use Rattle.mw_book.proofs.SlicedOne.{sliced_one}
use Rattle.mw_book.proofs.slice.SlicingCommandKernel.answer.Goals as goal

pub returns-clause-puts : goal.returns-clause-puts
returns-clause-puts c =
    let k = c.args.kernel.now in
    let e = c.in_ok-judge.ensures in
    sliced_one c.args.self.now _ k _ (object_at k.objects c.args.x) _ e.theory e.steps e.accepted (ap (λ s. s.events + 1) e.rest) (ap name_asked e.rest) c.requires.empty
