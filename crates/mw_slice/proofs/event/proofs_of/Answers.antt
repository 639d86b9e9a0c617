-- The proofs of each word that has some.
use Rattle.std.proofs.Common.{sym, ap, ◌∙◌}
use Rattle.mw_model.specs.Terms.Object.{cdr, car, second_of}
use Rattle.mw_heap.specs.Objects.{object_at}
use Rattle.mw_slice.proofs.EventMembers.{theorems_verified, theorems_defined, theorems_all_defined, no_theorems}
use Rattle.mw_slice.proofs.event.proofs_of.Goals as goal

pub returns-then-is_event-clause-theorems : goal.returns-then-is_event-clause-theorems
returns-then-is_event-clause-theorems c =
    let os = c.args.heap.now.objects in
    theorems_verified (object_at os c.args.event) (object_at os c.or_nil.result)
    (c.or_nil.ensures.same ∙ (c.second_of.ensures.value ∙ ap second_of (c.rest-third_on.ensures.same ∙ ap cdr c.rest.ensures.same)))
    (sym c.is_event.ensures ∙ c.if-is_event.true)

pub returns-then-is_event-2-clause-theorems : goal.returns-then-is_event-2-clause-theorems
returns-then-is_event-2-clause-theorems c =
    let os = c.args.heap.now.objects in
    theorems_defined (object_at os c.args.event) (object_at os c.or_nil-then-is_event-2.result)
    (c.or_nil-then-is_event-2.ensures.same ∙ (c.second_of-then-is_event-2.ensures.value ∙ ap second_of (c.rest-fifth_on.ensures.same ∙ ap cdr (c.rest-then-is_event-2.ensures.same ∙ ap cdr (c.rest-third_on.ensures.same ∙ ap cdr c.rest.ensures.same)))))
    (sym c.is_event-2.ensures ∙ c.if-is_event-2.true)

pub returns-then-is_event-3-clause-theorems : goal.returns-then-is_event-3-clause-theorems
returns-then-is_event-3-clause-theorems c =
    let os = c.args.heap.now.objects in
    theorems_all_defined (object_at os c.args.event) (object_at os c.or_nil-then-is_event-3.result)
    (c.or_nil-then-is_event-3.ensures.same ∙ (c.car.ensures.value ∙ ap car (c.rest-third_on.ensures.same ∙ ap cdr c.rest.ensures.same)))
    (sym c.is_event-3.ensures ∙ c.if-is_event-3.true)

pub returns-clause-theorems : goal.returns-clause-theorems
returns-clause-theorems c = sym (no_theorems (object_at c.args.heap.now.objects c.args.event) (sym c.is_event.ensures ∙ c.if-is_event.false) (sym c.is_event-2.ensures ∙ c.if-is_event-2.false) (sym c.is_event-3.ensures ∙ c.if-is_event-3.false))
