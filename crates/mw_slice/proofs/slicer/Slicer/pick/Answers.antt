-- The events stand in the heaps.
use Rattle.std.specs.Prelude.{MatchOption}
use Rattle.std.proofs.Common.{◌≡◌, ℕ, None, Some, sym, ap, ◌∙◌, subst}
use Rattle.mw_model.specs.Terms.Object.{name_of_bytes}
use Rattle.mw_commands.specs.Commands.Slice.{target, IsSlice}
use Rattle.mw_slice.specs.Events.{AreIn, objects_of}
use Rattle.mw_slice.specs.Slices.{events_of}
use Rattle.mw_slice.proofs.InOrder.{are_in, events_of-added}
use Rattle.mw_slice.proofs.slicer.Slicer.pick.Goals as goal

pub pick-requires-clause-within : goal.pick-requires-clause-within
pick-requires-clause-within c =
    let s = c.self.inside in
    subst (AreIn s.heaps) (sym c.as_slice.ensures.value) (are_in s.heaps s.added.items c.self.invariant)

pub returns-in-Ok-Some : goal.returns-in-Ok-Some
returns-in-Ok-Some c =
    let s = c.self.inside in
    let name = name_of_bytes c.args.name.now in
    let es = objects_of s.heaps c.as_slice.result.now in
    let same : es ≡ events_of c.args.self.now = ap (objects_of s.heaps) c.as_slice.ensures.value ∙ (sym (events_of-added s.heaps s.added.items) ∙ ap events_of c.self.view_is) in
    let found = subst (λ o. MatchOption o (target es name ≡ None) (λ v. (goal : ℕ) × (target es name ≡ Some goal) × IsSlice es goal v.items)) c.in-Ok-Some.field-0-is c.in-Ok-Some.ensures in
    subst (λ places. (goal : ℕ) × (target (events_of c.args.self.now) name ≡ Some goal) × IsSlice (events_of c.args.self.now) goal places) (sym c.new.ensures)
    (subst (λ es. (goal : ℕ) × (target es name ≡ Some goal) × IsSlice es goal c.in-Ok-Some.places.items) same found)

pub returns-in-Ok-None : goal.returns-in-Ok-None
returns-in-Ok-None c =
    let s = c.self.inside in
    let name = name_of_bytes c.args.name.now in
    let es = objects_of s.heaps c.as_slice.result.now in
    let same : es ≡ events_of c.args.self.now = ap (objects_of s.heaps) c.as_slice.ensures.value ∙ (sym (events_of-added s.heaps s.added.items) ∙ ap events_of c.self.view_is) in
    let found = subst (λ o. MatchOption o (target es name ≡ None) (λ v. (goal : ℕ) × (target es name ≡ Some goal) × IsSlice es goal v.items)) c.in-Ok-None.field-0-is c.in-Ok-None.ensures in
    subst (λ es. target es name ≡ None) same found
