-- A large natural is listed, and then its cell.
use Rattle.std.proofs.Common.{◌∙◌, ◌<◌, ◌≤◌, ◌^◌, refl, ap, arith}
use Rattle.std.proofs.lemmas.Option.{slice_get_within}
use Rattle.mw_model.specs.Terms.Object.{Natural}
use Rattle.mw_heap.specs.Cells.{is_large, bytes_of}
use Rattle.mw_heap.proofs.Counts.{count_of-le-length}
use Rattle.mw_heap.proofs.Measuring.{length-measured, measured-after, objects-listed_natural}
use Rattle.mw_heap.proofs.Sound.{BecomesWith, Inserts-le, grows_from}
use Rattle.mw_heap.proofs.Numbered.{natural_adds}
use Rattle.mw_heap.proofs.Words.{KeepsWords-Grows}
use Rattle.mw_heap.proofs.store.heap.Heap.nat.Goals as goal

pub insert_measured-requires-clause-all : goal.insert_measured-requires-clause-all
insert_measured-requires-clause-all c = c.self.inside.lengths.ok.0 ∙ length-measured _ _ _ _ c.self.invariant.measured

pub insert_measured-requires-clause-measurable : goal.insert_measured-requires-clause-measurable
insert_measured-requires-clause-measurable c = slice_get_within _ _ _ c.in_ok-index.ensures.inserted.stands

pub overflow_cast-index : goal.overflow_cast-index
overflow_cast-index c =
    let old = c.self.inside in
    let sound = c.self.invariant.sound in
    omega (arith, Inserts-le old.naturals.keys _ _ _ c.in_ok-index.ensures.inserted, sound.all_naturals, count_of-le-length is_large old.cells.keys, sound.are_cells.few)

adds : (c : goal.In-Ok-insert_measured) → BecomesWith c.self.inside.naturals.keys c.insert_natural.new.naturals.keys (bytes_of c.self.inside.names.keys) (bytes_of c.self.inside.names.keys) c.self.inside.cells.keys c.insert_measured.new.cells.keys c.in-Ok-insert_measured.made (Natural c.args.n)
adds c =
    let e = c.in-Ok-insert_measured.ensures in
    let large : (2 ^ 32 ≤ c.args.n) × (c.args.n < 2 ^ 128) = (omega (arith, c.in_default.ensures), omega (arith, c.ranges.n.fits)) in
    natural_adds _ _ _ _ _ _ _ _ c.self.invariant.sound c.in_ok-index.ensures.inserted c.in_ok-index.ensures.distinct large e.inserted e.distinct e.few

pub invariant_of-self-in-Ok-insert_measured : goal.invariant_of-self-in-Ok-insert_measured
invariant_of-self-in-Ok-insert_measured c = record {
  sound = (adds c).0;
  measured = measured-after _ _ _ _ _ _ _ _ _ (objects-listed_natural _ _ _ _ _ _ c.self.invariant.sound c.in_ok-index.ensures.inserted) c.self.invariant.measured c.in-Ok-insert_measured.ensures.measured;
  words = KeepsWords-Grows _ _ _ _ refl (adds c).1.grows c.self.invariant.words;
}

pub returns-in-Ok-insert_measured-clause-grows : goal.returns-in-Ok-insert_measured-clause-grows
returns-in-Ok-insert_measured-clause-grows c = grows_from _ (ap (λ v. v.objects) c.self.view_is) (adds c).1.grows

pub returns-in-Ok-insert_measured-clause-made : goal.returns-in-Ok-insert_measured-clause-made
returns-in-Ok-insert_measured-clause-made c = ((adds c).1.within, (adds c).1.made)
