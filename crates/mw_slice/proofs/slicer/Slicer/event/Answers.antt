-- The event at the place.
use Rattle.std.proofs.Common.{◌≡◌, ◌<◌, length, sym, ap, ◌∙◌, subst}
use Rattle.mw_commands.specs.Commands.Slice.{event_at}
use Rattle.mw_heap.specs.Objects.{object_at, IsIn}
use Rattle.mw_slice.specs.Heaps.{heap_of, object_in}
use Rattle.mw_slice.specs.Slices.{events_of, heap_at}
use Rattle.mw_slice.proofs.InOrder.{each_placed, event_at-added, events_of-added, heap_at-added, length-events}
use Rattle.mw_slice.proofs.slicer.Slicer.event.Goals as goal

pub returns-clause-within : goal.returns-clause-within
returns-clause-within c =
    let s = c.self.inside in
    let i = c.args.position in
    let a = c.index.result.now in
    let l : i < length s.added.items = subst (λ n. i < n) (ap (λ v. length (events_of v)) (sym c.self.view_is) ∙ length-events s.heaps s.added.items) c.requires in
    let heap : heap_of s.heaps a.heap ≡ heap_at c.args.self.now i = ap (λ b. heap_of s.heaps b.heap) c.index.ensures ∙ (sym (heap_at-added s.heaps s.added.items i a l) ∙ ap (λ v. heap_at v i) c.self.view_is) in
    subst (λ os. IsIn os a.event) heap (subst (λ b. IsIn (heap_of s.heaps b.heap) b.event) (sym c.index.ensures) (each_placed s.heaps s.added.items c.self.invariant i a l).within)

pub returns-clause-event : goal.returns-clause-event
returns-clause-event c =
    let s = c.self.inside in
    let i = c.args.position in
    let a = c.index.result.now in
    let l : i < length s.added.items = subst (λ n. i < n) (ap (λ v. length (events_of v)) (sym c.self.view_is) ∙ length-events s.heaps s.added.items) c.requires in
    let heap : heap_of s.heaps a.heap ≡ heap_at c.args.self.now i = ap (λ b. heap_of s.heaps b.heap) c.index.ensures ∙ (sym (heap_at-added s.heaps s.added.items i a l) ∙ ap (λ v. heap_at v i) c.self.view_is) in
    ap (λ os. object_at os a.event) (sym heap)
    ∙ (ap (object_in s.heaps) c.index.ensures
    ∙ (event_at-added s.heaps s.added.items i a l ∙ ap (λ es. event_at es i) (sym (events_of-added s.heaps s.added.items) ∙ ap events_of c.self.view_is)))
