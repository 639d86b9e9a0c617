-- The events kept from this place on, in a heap that grows.
use Rattle.mw_heap.specs.Objects.{Grows}
use Rattle.mw_slice.specs.Events.{objects_of}
use Rattle.mw_slice.proofs.Keeping.{IsKeeping}
use Rattle.mw_slice.proofs.picking.needed_from.Given as goal

abbrev pub invariant-loop-place : goal.invariant-loop-place
invariant-loop-place l = Grows l.fn.to.objects l.to.objects × IsKeeping l.to.objects l.firsts.entries (objects_of l.heaps l.added) l.goal l.place l.places.items l.basis
