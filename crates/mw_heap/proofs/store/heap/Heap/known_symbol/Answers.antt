-- A symbol's cell stands in the place.
use Rattle.std.proofs.Common.{ap}
use Rattle.std.proofs.lemmas.Option.{IfSome_then}
use Rattle.mw_heap.proofs.Shown.{symbol_is}
use Rattle.mw_heap.proofs.store.heap.Heap.known_symbol.Goals as goal

pub returns : goal.returns
returns c = IfSome_then c.find_place.result c.find_place.ensures (λ r found. symbol_is _ _ _ c.self.invariant.sound _ (ap (λ v. v.objects) c.self.view_is) r found.0 _ found.1 found.2)
