-- One event after another.
use Rattle.std.proofs.Common.{◌≡◌, ◌+◌, ◌-◌, ◌<◌, suc, [], length, reverse, sym, ap, ap₂, ◌∙◌, arith}
use Rattle.mw_commands.specs.Commands.Slice.{event_at}
use Rattle.mw_commands.proofs.SlicePlaces.{changes, collected}
use Rattle.mw_heap.specs.Objects.{object_at}
use Rattle.mw_slice.specs.Heaps.{object_in}
use Rattle.mw_slice.specs.Events.{objects_of}
use Rattle.mw_slice.proofs.Keeping.{event_at-objects_of, all_collected, changing_goes}
use Rattle.mw_slice.proofs.picking.changing.Goals as goal

pub loop-place-init : goal.loop-place-init
loop-place-init c =
    let es = objects_of c.args.heaps.now c.args.added.now in
    let one : c.args.goal + 1 ≡ suc c.args.goal = omega arith in
    ap₂ (λ n l. collected (changes es) n (reverse l)) one c.new-places.ensures.items

pub loop-place-preserved : goal.loop-place-preserved
loop-place-preserved c =
    let hs = c.args.heaps.now in
    let added = c.args.added.now in
    let es = objects_of hs added in
    let n = c.loop-place.place in
    let a = c.index-added-place.result in
    let within : n - 1 < length added = omega arith in
    let is : event_at es (n - 1) ≡ object_at c.get.result.now.objects a.event = event_at-objects_of hs added (n - 1) a within ∙ (ap (object_in hs) (sym c.index-added-place.is) ∙ ap (λ os. object_at os a.event) (sym c.get.ensures)) in
    changing_goes es n c.loop-place-test.true c.loop-place.places.items c.keep_change.new.places.items (collected (changes es) (suc c.args.goal) []) c.loop-place.invariant (object_at c.get.result.now.objects a.event) is c.in_ok-keep_change.ensures

pub returns : goal.returns
returns c =
    let es = objects_of c.args.heaps.now c.args.added.now in
    all_collected (changes es) c.loop-place.place (reverse c.loop-place.places.items) (collected (changes es) (suc c.args.goal) []) c.loop-place-test.false c.loop-place.invariant
