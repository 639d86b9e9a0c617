-- Where no proof names a theorem, no formula needs a place; else one event more.
use Rattle.std.proofs.Common.{take, Some, None, cond, sym, ap, ◌∙◌}
use Rattle.mw_commands.specs.Commands.Slice.{first_place, first_proof}
use Rattle.mw_heap.specs.Objects.{object_at}
use Rattle.mw_heap.proofs.Objects.{Grows-trans}
use Rattle.mw_slice.specs.Firsts.{proves, first_or}
use Rattle.mw_slice.specs.Events.{objects_of}
use Rattle.mw_slice.proofs.FirstPlaces.{first_place-next, events-all, none_named}
use Rattle.mw_slice.proofs.firsts.note_firsts.Goals as goal

pub loop-place-preserved : goal.loop-place-preserved
loop-place-preserved c =
    let hs = c.args.heaps.now in
    let i = c.loop-place.place in
    let a = c.index-added-place.result in
    let before = c.loop-place.invariant in
    let noted = c.in_ok-note_first.ensures in (
      Grows-trans c.args.to.now.objects c.loop-place.to.objects c.note_first.new.to.objects before.0 c.note_first.ensures.grows,
      noted.firsts,
      λ f.
          noted.noted f
          ∙ (ap (λ o. first_or o (cond (proves f (object_at c.get-from.result.now.objects a.event)) (Some i) None)) (before.2 f)
          ∙ (ap (λ os. first_or (first_place (proves f) (objects_of hs (take i c.args.added.now))) (cond (proves f (object_at os a.event)) (Some i) None)) c.get-from.ensures
          ∙ sym (first_place-next hs c.args.added.now i a c.index-added-place.is c.loop-place-test.true (proves f)))),
    )

pub returns-then-not-some_names_theorem-clause-index : goal.returns-then-not-some_names_theorem-clause-index
returns-then-not-some_names_theorem-clause-index c = none_named c.args.to.now.objects c.args.firsts.now.entries c.args.heaps.now c.args.added.now c.requires.within (c.some_names_theorem.ensures c.if-not-some_names_theorem.true)

pub returns-clause-index : goal.returns-clause-index
returns-clause-index c = λ i f named. c.loop-place.invariant.2 f ∙ ap (λ es. first_proof es f) (events-all c.args.heaps.now c.args.added.now c.loop-place.place c.loop-place-test.false)
