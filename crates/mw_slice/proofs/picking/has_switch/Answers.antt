-- One event after another.
use Rattle.std.proofs.Common.{sym, ap, ◌∙◌}
use Rattle.mw_commands.specs.Commands.Slice.{begins_with, some_passes}
use Rattle.mw_heap.specs.Objects.{object_at}
use Rattle.mw_slice.proofs.FirstPlaces.{some_passes-next, some_passes-here, events-all}
use Rattle.mw_slice.proofs.picking.has_switch.Goals as goal

pub loop-event-preserved : goal.loop-event-preserved
loop-event-preserved c =
    some_passes-next c.args.heaps.now c.args.added.now c.loop-event.event-index c.event-item.result c.event-item.is c.loop-event-test.true (begins_with "SWITCH") c.loop-event.invariant (ap (λ os. begins_with "SWITCH" (object_at os c.event-item.result.event)) (sym c.get.ensures) ∙ (sym c.is_headed.ensures ∙ c.if-is_headed.false))

pub returns-then-is_headed : goal.returns-then-is_headed
returns-then-is_headed c =
    sym (some_passes-here c.args.heaps.now c.args.added.now c.loop-event.event-index c.event-item.result c.event-item.is c.loop-event-test.true (begins_with "SWITCH") (ap (λ os. begins_with "SWITCH" (object_at os c.event-item.result.event)) (sym c.get.ensures) ∙ (sym c.is_headed.ensures ∙ c.if-is_headed.true)))

pub returns : goal.returns
returns c = sym (ap (some_passes (begins_with "SWITCH")) (sym (events-all c.args.heaps.now c.args.added.now c.loop-event.event-index c.loop-event-test.false)) ∙ c.loop-event.invariant)
