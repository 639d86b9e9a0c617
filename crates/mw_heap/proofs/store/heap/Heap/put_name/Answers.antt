-- A name is listed, and then its cell; where there is no memory for the cell, the name goes too.
use Rattle.std.proofs.Common.{◌≡◌, [], map, refl, sym, ap, ◌∙◌, arith}
use Rattle.std.proofs.lemmas.Option.{slice_get_within, get_or_from_slice_get}
use Rattle.mw_model.specs.Terms.Object.{is_name, Symbol, name_of_bytes}
use Rattle.mw_heap.specs.Cells.{is_named, bytes_of, objects}
use Rattle.mw_heap.proofs.Counts.{count_of-le-length}
use Rattle.mw_heap.proofs.Sound.{BecomesWith, Inserts-le, stays, grows_from, same_sound, same_objects}
use Rattle.mw_heap.specs.Lengths.{length_of}
use Rattle.mw_heap.proofs.Measuring.{length-measured, measured-after, objects-listed_name}
use Rattle.mw_heap.proofs.NameSet.{removed_name}
use Rattle.mw_heap.proofs.Numbered.{name_adds}
use Rattle.mw_heap.proofs.Words.{KeepsWords-Grows}
use Rattle.mw_heap.proofs.store.heap.Heap.put_name.Goals as goal
use Rattle.mw_heap.proofs.store.heap.Heap.put_name.Goals.{In-Ok}

pub overflow_cast-index : goal.overflow_cast-index
overflow_cast-index c =
    let old = c.self.inside in
    let sound = c.self.invariant.sound in
    omega (arith, Inserts-le (bytes_of old.names.keys) _ _ _ c.in_ok-index.ensures.inserted, sound.all_names, count_of-le-length is_named old.cells.keys, sound.are_cells.few)

adds : (c : In-Ok) → BecomesWith c.self.inside.naturals.keys c.self.inside.naturals.keys (bytes_of c.self.inside.names.keys) (bytes_of c.insert_name.new.names.keys) c.self.inside.cells.keys c.insert_measured.new.cells.keys c.in-Ok.made (Symbol (name_of_bytes c.args.name.items))
adds c =
    let e = c.in-Ok.ensures in
    name_adds _ _ _ _ _ _ _ _ c.self.invariant.sound c.in_ok-index.ensures.inserted c.in_ok-index.ensures.distinct c.requires e.inserted e.distinct e.few

pub insert_measured-requires-clause-all : goal.insert_measured-requires-clause-all
insert_measured-requires-clause-all c = c.self.inside.lengths.ok.0 ∙ length-measured _ _ _ _ c.self.invariant.measured

pub insert_measured-requires-clause-measurable : goal.insert_measured-requires-clause-measurable
insert_measured-requires-clause-measurable c =
    let stands = c.in_ok-index.ensures.inserted.stands in
    (slice_get_within _ _ _ stands, ap is_name (get_or_from_slice_get (bytes_of c.insert_name.new.names.keys) c.in_ok-index.index c.args.name.items [] stands) ∙ c.requires)

pub invariant_of-self-in-Ok : goal.invariant_of-self-in-Ok
invariant_of-self-in-Ok c = record {
  sound = (adds (goal.at.invariant_of-self-in-Ok c).In-Ok).0;
  measured = measured-after _ _ _ _ _ _ _ _ _ (objects-listed_name _ _ _ _ _ _ c.self.invariant.sound c.in_ok-index.ensures.inserted) c.self.invariant.measured c.in-Ok.ensures.measured;
  words = KeepsWords-Grows _ _ _ _ refl (adds (goal.at.invariant_of-self-in-Ok c).In-Ok).1.grows c.self.invariant.words;
}

pub returns-in-Ok-clause-grows : goal.returns-in-Ok-clause-grows
returns-in-Ok-clause-grows c = grows_from _ (ap (λ v. v.objects) c.self.view_is) (adds (goal.at.returns-in-Ok-clause-grows c).In-Ok).1.grows

pub returns-in-Ok-clause-made : goal.returns-in-Ok-clause-made
returns-in-Ok-clause-made c = ((adds (goal.at.returns-in-Ok-clause-made c).In-Ok).1.within, (adds (goal.at.returns-in-Ok-clause-made c).In-Ok).1.made)

same_names : (c : goal.After-truncate) → bytes_of c.truncate.new.self.keys ≡ bytes_of c.self.inside.names.keys
same_names c = removed_name c.len-had.result c.self.inside.names.keys c.insert_name.new.names.keys c.truncate.new.self.keys c.args.name.items _ c.len-had.ensures.len c.in_ok-index.ensures.inserted c.truncate.ensures.keys

same_cells : (c : goal.After-truncate) → objects c.self.inside.naturals.keys (bytes_of c.truncate.new.self.keys) c.insert_measured.new.cells.keys ≡ objects c.self.inside.naturals.keys (bytes_of c.self.inside.names.keys) c.self.inside.cells.keys
same_cells c = same_objects _ _ _ _ _ _ refl (same_names c) c.in-Err.ensures.err

pub invariant_of-self-in-Err : goal.invariant_of-self-in-Err
invariant_of-self-in-Err c = record {
  sound = same_sound _ _ _ _ _ _ refl (same_names c) c.in-Err.ensures.err c.self.invariant.sound;
  measured = c.in-Err.ensures.lengths_err ∙ (c.self.invariant.measured ∙ ap (map length_of) (sym (same_cells c)));
  words = KeepsWords-Grows _ _ _ _ refl (grows_from _ (same_cells c) (stays _)) c.self.invariant.words;
}

same_heap : (c : goal.After-truncate) → objects c.self.inside.naturals.keys (bytes_of c.truncate.new.self.keys) c.insert_measured.new.cells.keys ≡ c.args.self.now.objects
same_heap c = same_cells c ∙ (ap (λ v. v.objects) c.self.view_is)

pub returns-in-Err-clause-grows : goal.returns-in-Err-clause-grows
returns-in-Err-clause-grows c = grows_from _ (same_heap c) (stays _)

pub returns-in-Err-clause-err : goal.returns-in-Err-clause-err
returns-in-Err-clause-err c = same_heap c
