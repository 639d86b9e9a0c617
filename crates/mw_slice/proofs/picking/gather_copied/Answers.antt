-- What the copy asks for is what the event asks for.
use Rattle.std.proofs.Common.{◌≡◌, ◌||◌, OnOk, subst}
use Rattle.mw_heap.proofs.Objects.{Grows-trans}
use Rattle.mw_slice.specs.Supports.{Support, notes, event_asks}
use Rattle.mw_slice.proofs.Growing.{nil_grows, firsts_grow, basis_grows}
use Rattle.mw_slice.proofs.picking.gather_copied.Goals as goal

pub gather_event-requires-clause-indexed : goal.gather_event-requires-clause-indexed
gather_event-requires-clause-indexed c =
    let os = c.args.to.now.objects in
    let new = c.copy.new.to.objects in (
      nil_grows c.nil.new.self.objects new c.copy.ensures.grows c.in_ok-nil.nil c.in_ok-nil.ensures.made,
      firsts_grow os new (Grows-trans os c.nil.new.self.objects new c.nil.ensures.grows c.copy.ensures.grows) c.args.firsts.now.entries c.requires.firsts,
    )

pub gather_event-requires-clause-basis : goal.gather_event-requires-clause-basis
gather_event-requires-clause-basis c =
    let os = c.args.to.now.objects in
    let new = c.copy.new.to.objects in
    basis_grows os new (Grows-trans os c.nil.new.self.objects new c.nil.ensures.grows c.copy.ensures.grows) c.args.firsts.now.entries c.requires.firsts c.args.basis.now c.requires.basis

pub returns-in_err-copied-clause-grows : goal.returns-in_err-copied-clause-grows
returns-in_err-copied-clause-grows c = Grows-trans _ _ _ c.nil.ensures.grows c.copy.ensures.grows

pub returns-clause-grows : goal.returns-clause-grows
returns-clause-grows c = Grows-trans _ _ _ c.nil.ensures.grows c.copy.ensures.grows

pub returns-clause-supports : goal.returns-clause-supports
returns-clause-supports c =
    let new = c.copy.new.to.objects in
    let firsts = c.args.firsts.now.entries in
    subst (λ x. OnOk c.gather_event.result ((s : Support) → notes new c.gather_event.new.basis s ≡ (notes new c.args.basis.now s || event_asks new firsts s x))) c.in_ok-copied.ensures.made.1 c.gather_event.ensures.supports
