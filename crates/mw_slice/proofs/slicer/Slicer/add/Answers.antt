-- The event stands in the last heap, after all that were there.
use Rattle.std.proofs.Common.{◌<◌, ◌++◌, ◌∷◌, [], length, sym, ap, ap₂, ◌∙◌, subst}
use Rattle.mw_slice.specs.Heaps.{AreInOrder}
use Rattle.mw_slice.specs.Slices.{events_of, heap_at, places_of}
use Rattle.mw_slice.proofs.OneHeap.{stays_grown, on_err}
use Rattle.mw_slice.proofs.InOrder.{order_grows, order_push, events_grow, objects_of-push, events_of-added, heaps_stay}
use Rattle.mw_slice.proofs.slicer.Slicer.add.Goals as goal

-- no room for one more
pub invariant_of-self : goal.invariant_of-self
invariant_of-self c = let s = c.self.inside in subst (AreInOrder s.heaps) (sym c.reserve.ensures.items) c.self.invariant

-- no memory for the copy
pub invariant_of-self-in_err-added : goal.invariant_of-self-in_err-added
invariant_of-self-in_err-added c =
    let s = c.self.inside in
    subst (AreInOrder c.copy.new.self) (sym c.reserve.ensures.items) (order_grows s.heaps c.copy.new.self (stays_grown s.heaps c.copy.new.self c.in_err-added.ensures.err) s.added.items c.self.invariant)

pub returns-in_err-added-clause-err : goal.returns-in_err-added-clause-err
returns-in_err-added-clause-err c =
    let s = c.self.inside in
    on_err c.from_residual-in_err-added.result
    (ap (λ l. events_of (record { heaps = c.copy.new.self; events = places_of l })) c.reserve.ensures.items
    ∙ (events_of-added c.copy.new.self s.added.items
    ∙ (events_grow s.heaps c.copy.new.self (stays_grown s.heaps c.copy.new.self c.in_err-added.ensures.err) s.added.items c.self.invariant
    ∙ (sym (events_of-added s.heaps s.added.items) ∙ ap events_of c.self.view_is))))

pub returns-in_err-added-clause-heaps : goal.returns-in_err-added-clause-heaps
returns-in_err-added-clause-heaps c =
    let s = c.self.inside in
    on_err c.from_residual-in_err-added.result
    (λ j l.
    let within : j < length (places_of s.added.items) = subst (λ v. j < length v.events) (sym c.self.view_is) l in
    ap (λ l. heap_at (record { heaps = c.copy.new.self; events = places_of l }) j) c.reserve.ensures.items
    ∙ (heaps_stay s.heaps c.copy.new.self c.in_err-added.ensures.err s.added.items c.self.invariant j within ∙ ap (λ v. heap_at v j) c.self.view_is))

pub invariant_of-self-2 : goal.invariant_of-self-2
invariant_of-self-2 c =
    let s = c.self.inside in
    let new = c.copy.new.self in
    let a = c.in_ok-added.added in
    subst (AreInOrder new) (sym (c.in_ok-push.ensures.items ∙ ap (λ l. l ++ a ∷ []) c.reserve.ensures.items)) (order_push s.heaps new c.copy.ensures.grow a c.in_ok-added.ensures.placed s.added.items c.self.invariant)

pub returns-clause-added : goal.returns-clause-added
returns-clause-added c =
    let s = c.self.inside in
    let new = c.copy.new.self in
    let a = c.in_ok-added.added in
    ap (λ l. events_of (record { heaps = new; events = places_of l })) (c.in_ok-push.ensures.items ∙ ap (λ l. l ++ a ∷ []) c.reserve.ensures.items)
    ∙ (events_of-added new (s.added.items ++ a ∷ [])
    ∙ (objects_of-push new s.added.items a
    ∙ ap₂ (λ es e. es ++ e ∷ []) (events_grow s.heaps new c.copy.ensures.grow s.added.items c.self.invariant ∙ (sym (events_of-added s.heaps s.added.items) ∙ ap events_of c.self.view_is)) c.in_ok-added.ensures.made))
