-- The heap of the event at the place.
use Rattle.std.proofs.Common.{◌<◌, length, sym, ap, ◌∙◌, subst}
use Rattle.mw_slice.specs.Heaps.{heap_of}
use Rattle.mw_slice.specs.Slices.{events_of, heap_at}
use Rattle.mw_slice.proofs.InOrder.{each_placed, heap_at-added, length-events}
use Rattle.mw_slice.proofs.slicer.Slicer.heap.Goals as goal

pub get-requires : goal.get-requires
get-requires c =
    let s = c.self.inside in
    let i = c.args.position in
    let a = c.index.result.now in
    let l : i < length s.added.items = subst (λ n. i < n) (ap (λ v. length (events_of v)) (sym c.self.view_is) ∙ length-events s.heaps s.added.items) c.requires in
    subst (λ b. b.heap < length s.heaps) (sym c.index.ensures) (each_placed s.heaps s.added.items c.self.invariant i a l).heap

pub returns : goal.returns
returns c =
    let s = c.self.inside in
    let i = c.args.position in
    let a = c.index.result.now in
    let l : i < length s.added.items = subst (λ n. i < n) (ap (λ v. length (events_of v)) (sym c.self.view_is) ∙ length-events s.heaps s.added.items) c.requires in
    c.get.ensures ∙ (ap (λ b. heap_of s.heaps b.heap) c.index.ensures ∙ (sym (heap_at-added s.heaps s.added.items i a l) ∙ ap (λ v. heap_at v i) c.self.view_is))
