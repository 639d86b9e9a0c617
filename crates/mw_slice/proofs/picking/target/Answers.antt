-- The first event that passes.
use Rattle.std.proofs.Common.{Bool, ◌&&◌, sym, ap, ◌∙◌}
use Rattle.mw_model.specs.Terms.Object.{Object, Symbol, name_of_bytes, same_object, second_of}
use Rattle.mw_commands.specs.Commands.Slice.{begins_with, first_place}
use Rattle.mw_heap.specs.Objects.{object_at}
use Rattle.mw_slice.proofs.FirstPlaces.{first_place-none, first_place-found, events-all}
use Rattle.mw_slice.proofs.picking.target.Goals as goal

pub loop-place-preserved : goal.loop-place-preserved
loop-place-preserved c =
    let test : Object → Bool = λ e. begins_with "VERIFY" e && same_object (second_of e) (Symbol (name_of_bytes c.args.name.now)) in
    first_place-none c.args.heaps.now c.args.added.now c.loop-place.place c.index-added-place.result c.index-added-place.is c.loop-place-test.true test c.loop-place.invariant (ap (λ os. test (object_at os c.index-added-place.result.event)) (sym c.get.ensures) ∙ (sym c.is_theorem.ensures ∙ c.if-is_theorem.false))

pub returns-then-is_theorem-clause-target : goal.returns-then-is_theorem-clause-target
returns-then-is_theorem-clause-target c =
    let test : Object → Bool = λ e. begins_with "VERIFY" e && same_object (second_of e) (Symbol (name_of_bytes c.args.name.now)) in
    sym (first_place-found c.args.heaps.now c.args.added.now c.loop-place.place c.index-added-place.result c.index-added-place.is c.loop-place-test.true test c.loop-place.invariant (ap (λ os. test (object_at os c.index-added-place.result.event)) (sym c.get.ensures) ∙ (sym c.is_theorem.ensures ∙ c.if-is_theorem.true)))

pub returns-clause-target : goal.returns-clause-target
returns-clause-target c =
    let test : Object → Bool = λ e. begins_with "VERIFY" e && same_object (second_of e) (Symbol (name_of_bytes c.args.name.now)) in
    sym (ap (first_place test) (sym (events-all c.args.heaps.now c.args.added.now c.loop-place.place c.loop-place-test.false)) ∙ c.loop-place.invariant)
