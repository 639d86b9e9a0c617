-- One event after another.
use Rattle.std.proofs.Common.{◌≡◌, ◌+◌, ◌-◌, ◌<◌, ◌≤◌, suc, [], length, reverse, sym, ap, ◌∙◌, append-nil, arith}
use Rattle.mw_commands.specs.Commands.Slice.{event_at}
use Rattle.mw_commands.proofs.SlicePlaces.{is_wanted, collected}
use Rattle.mw_heap.specs.Objects.{object_at}
use Rattle.mw_heap.proofs.Objects.{Grows-trans}
use Rattle.mw_slice.specs.Heaps.{object_in}
use Rattle.mw_slice.specs.Events.{objects_of}
use Rattle.mw_slice.proofs.Growing.{firsts_grow, index_grows}
use Rattle.mw_slice.proofs.Keeping.{event_at-objects_of, all_collected, keeping_starts, keeping_grows, keeping_goes}
use Rattle.mw_slice.proofs.picking.needed_from.Goals as goal

pub loop-place-init : goal.loop-place-init
loop-place-init c =
    let os = c.args.to.now.objects in (
      ([], sym (append-nil os)),
      keeping_starts os c.args.firsts.now.entries (objects_of c.args.heaps.now c.args.added.now) c.args.goal (c.args.goal + 1) c.new-places.result.items c.args.basis.now (omega arith) c.new-places.ensures.items c.requires.no_parts c.requires.no_supports,
    )

pub keep-requires-clause-firsts : goal.keep-requires-clause-firsts
keep-requires-clause-firsts c = firsts_grow c.args.to.now.objects c.loop-place.to.objects c.loop-place.invariant.0 c.args.firsts.now.entries c.requires.firsts

pub keep-requires-clause-basis : goal.keep-requires-clause-basis
keep-requires-clause-basis c = c.loop-place.invariant.1.is_basis

pub loop-place-preserved : goal.loop-place-preserved
loop-place-preserved c =
    let was = c.args.to.now.objects in
    let os = c.loop-place.to.objects in
    let new = c.keep.new.to.objects in
    let hs = c.args.heaps.now in
    let added = c.args.added.now in
    let es = objects_of hs added in
    let firsts = c.args.firsts.now.entries in
    let n = c.loop-place.place in
    let a = c.index-added-place.result in
    let within : n - 1 < length added = omega arith in
    let bounded : n ≤ suc c.args.goal = omega arith in
    let kept = c.in_ok-keep.ensures in
    let grows = Grows-trans was os new c.loop-place.invariant.0 c.keep.ensures.grows in
    let all = firsts_grow was os c.loop-place.invariant.0 firsts c.requires.firsts in
    let is : event_at es (n - 1) ≡ object_at c.get.result.now.objects a.event = event_at-objects_of hs added (n - 1) a within ∙ (ap (object_in hs) (sym c.index-added-place.is) ∙ ap (λ os. object_at os a.event) (sym c.get.ensures)) in (
      grows,
      keeping_goes new firsts es c.args.goal (index_grows was new grows firsts es c.requires.firsts c.requires.index) n c.loop-place.places.items c.keep.new.places.items c.loop-place.basis c.keep.new.basis c.loop-place-test.true bounded
          (keeping_grows os new firsts es c.args.goal n c.loop-place.places.items c.loop-place.basis c.keep.ensures.grows all c.loop-place.invariant.1)
          (object_at c.get.result.now.objects a.event) is kept.basis kept.supports kept.places,
    )

pub returns : goal.returns
returns c =
    let es = objects_of c.args.heaps.now c.args.added.now in
    all_collected (is_wanted es c.args.goal) c.loop-place.place (reverse c.loop-place.places.items) (collected (is_wanted es c.args.goal) (suc c.args.goal) []) c.loop-place-test.false c.loop-place.invariant.1.collects
