-- A small cell stands in the place.
use Rattle.std.proofs.Common.{ap}
use Rattle.std.proofs.lemmas.Option.{IfSome_then}
use Rattle.mw_heap.proofs.Shown.{small_is}
use Rattle.mw_heap.proofs.store.heap.Heap.known_small.Goals as goal

pub returns : goal.returns
returns c = IfSome_then c.find_small.result c.find_small.ensures (λ r found. small_is _ _ _ c.self.invariant.sound _ (ap (λ v. v.objects) c.self.view_is) r _ found)
