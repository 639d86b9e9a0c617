-- The heap of the last event is cut to its start.
use Rattle.std.proofs.Common.{sym, ap, ◌∙◌, subst}
use Rattle.mw_slice.specs.Heaps.{AreInOrder}
use Rattle.mw_slice.specs.Events.{objects_of}
use Rattle.mw_slice.specs.Slices.{events_of}
use Rattle.mw_slice.proofs.InOrder.{last_placed, order_cut, events_cut, events_of-added}
use Rattle.mw_slice.proofs.slicer.Slicer.take_back.Goals as goal

pub cut_back-requires-clause-place : goal.cut_back-requires-clause-place
cut_back-requires-clause-place c =
    let s = c.self.inside in
    (last_placed s.heaps c.pop.new.self.items c.in-Some.last (subst (AreInOrder s.heaps) c.in-Some.ensures.items c.self.invariant)).heap

pub cut_back-requires-clause-to : goal.cut_back-requires-clause-to
cut_back-requires-clause-to c =
    let s = c.self.inside in
    (last_placed s.heaps c.pop.new.self.items c.in-Some.last (subst (AreInOrder s.heaps) c.in-Some.ensures.items c.self.invariant)).start

pub invariant_of-self : goal.invariant_of-self
invariant_of-self c =
    let s = c.self.inside in
    let rest = c.pop.new.self.items in
    let last = c.in-Some.last in
    let order = subst (AreInOrder s.heaps) c.in-Some.ensures.items c.self.invariant in
    order_cut s.heaps c.cut_back.new.self last c.cut_back.ensures (last_placed s.heaps rest last order) rest order

pub returns-in-Some : goal.returns-in-Some
returns-in-Some c = λ es e same.
    let s = c.self.inside in
    let new = c.cut_back.new.self in
    let rest = c.pop.new.self.items in
    let last = c.in-Some.last in
    let order = subst (AreInOrder s.heaps) c.in-Some.ensures.items c.self.invariant in
    events_of-added new rest
    ∙ events_cut s.heaps new last c.cut_back.ensures (last_placed s.heaps rest last order) rest order es e
    (ap (objects_of s.heaps) (sym c.in-Some.ensures.items) ∙ (sym (events_of-added s.heaps s.added.items) ∙ (ap events_of c.self.view_is ∙ same)))
