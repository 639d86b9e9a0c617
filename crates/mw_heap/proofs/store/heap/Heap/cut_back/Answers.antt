-- What goes is counted, and what stays means what it meant.
use Rattle.std.proofs.Common.{map, ◌≡◌, ◌+◌, ◌-◌, ◌≤◌, length, take, drop, sym, ap, ◌∙◌, arith}
use Rattle.std.proofs.lemmas.List.{take-map}
use Rattle.mw_heap.specs.Lengths.{length_of}
use Rattle.mw_heap.specs.Cells.{objects, natural_count, name_count, bytes_of, is_large, is_named}
use Rattle.mw_heap.proofs.Counts.{count_of-take-drop}
use Rattle.mw_heap.proofs.NameSet.{length-bytes_of, bytes_of-take}
use Rattle.mw_heap.proofs.Shown.{length-cells}
use Rattle.mw_heap.proofs.Sound.{cut_sound, cut_objects, same_sound, same_objects}
use Rattle.mw_heap.proofs.Growth.{length-objects}
use Rattle.mw_heap.proofs.Words.{KeepsWords-cut}
use Rattle.mw_heap.proofs.store.heap.Heap.cut_back.Goals as goal

pub counts_from-naturals-requires : goal.counts_from-naturals-requires
counts_from-naturals-requires c = omega (arith, c.requires, c.cells.ensures, length-cells _ _ _ c.self.invariant.sound _ (ap (λ v. v.objects) c.self.view_is))

pub overflow_sub-len : goal.overflow_sub-len
overflow_sub-len c =
    let old = c.self.inside in
    omega (arith, c.counts_from-naturals.ensures.naturals, c.len.ensures.len, count_of-take-drop is_large c.cells.result old.cells.keys, c.self.invariant.sound.all_naturals)

pub overflow_sub-len-2 : goal.overflow_sub-len-2
overflow_sub-len-2 c =
    let old = c.self.inside in
    omega (arith, c.counts_from-naturals.ensures.names, c.len-2.ensures.len, length-bytes_of old.names.keys, count_of-take-drop is_named c.cells.result old.cells.keys, c.self.invariant.sound.all_names)

-- the cut in the words of the lemmas
within : (c : goal.After-self-1) → c.cells.result ≤ length c.self.inside.cells.keys
within c = omega (arith, c.requires, c.cells.ensures, length-cells _ _ _ c.self.invariant.sound _ (ap (λ v. v.objects) c.self.view_is))

naturals_left : (c : goal.After-self-1) → (c.len.result - c.counts_from-naturals.result.0) + natural_count (drop c.cells.result c.self.inside.cells.keys) ≡ length c.self.inside.naturals.keys
naturals_left c =
    let old = c.self.inside in
    omega (arith, c.counts_from-naturals.ensures.naturals, c.len.ensures.len, count_of-take-drop is_large c.cells.result old.cells.keys, c.self.invariant.sound.all_naturals)

names_left : (c : goal.After-self-1) → (c.len-2.result - c.counts_from-naturals.result.1) + name_count (drop c.cells.result c.self.inside.cells.keys) ≡ length (bytes_of c.self.inside.names.keys)
names_left c =
    let old = c.self.inside in
    omega (arith, c.counts_from-naturals.ensures.names, c.len-2.ensures.len, length-bytes_of old.names.keys, count_of-take-drop is_named c.cells.result old.cells.keys, c.self.invariant.sound.all_names)

names_are : (c : goal.After-self-1) → bytes_of c.truncate-2.new.self.keys ≡ take (c.len-2.result - c.counts_from-naturals.result.1) (bytes_of c.self.inside.names.keys)
names_are c = ap bytes_of c.truncate-2.ensures.keys ∙ bytes_of-take (c.len-2.result - c.counts_from-naturals.result.1) c.self.inside.names.keys

cells_are : (c : goal.After-self-1) → c.truncate-3.new.self.keys ≡ take c.cells.result c.self.inside.cells.keys
cells_are c = c.truncate-3.ensures.keys ∙ ap (λ n. take n c.self.inside.cells.keys) (c.cells-2.ensures ∙ sym c.cells.ensures)

same_cut : (c : goal.After-self-1) → objects c.truncate.new.self.keys (bytes_of c.truncate-2.new.self.keys) c.truncate-3.new.self.keys ≡ take c.cells.result (objects c.self.inside.naturals.keys (bytes_of c.self.inside.names.keys) c.self.inside.cells.keys)
same_cut c =
    same_objects _ _ _ _ _ _ c.truncate.ensures.keys (names_are c) (cells_are c)
    ∙ cut_objects _ _ _ c.self.invariant.sound c.cells.result (c.len.result - c.counts_from-naturals.result.0) (c.len-2.result - c.counts_from-naturals.result.1) (within c) (naturals_left c) (names_left c)

pub invariant_of-self : goal.invariant_of-self
invariant_of-self c = record {
  sound =
      same_sound _ _ _ _ _ _ c.truncate.ensures.keys (names_are c) (cells_are c)
      (cut_sound _ _ _ c.self.invariant.sound c.cells.result (c.len.result - c.counts_from-naturals.result.0) (c.len-2.result - c.counts_from-naturals.result.1) (within c) (naturals_left c) (names_left c));
  measured =
      c.truncate-4.ensures.items
      ∙ (ap (λ n. take n c.self.inside.lengths.items) (c.cells-3.ensures ∙ sym c.cells.ensures)
      ∙ (ap (take c.cells.result) c.self.invariant.measured ∙ (take-map length_of c.cells.result _ ∙ ap (map length_of) (sym (same_cut c)))));
  words = λ k.
      let kept = c.are_kept-self-inside.ensures k in
      KeepsWords-cut _ _ _ _ (same_cut c) (omega (arith, kept.1, c.cells.ensures, c.cells-4.ensures)) (omega (arith, within c, length-objects c.self.inside.naturals.keys (bytes_of c.self.inside.names.keys) c.self.inside.cells.keys)) kept.0 c.self.invariant.words;
}

pub returns-clause-kept : goal.returns-clause-kept
returns-clause-kept c = same_cut c ∙ (ap (take c.cells.result) (ap (λ v. v.objects) c.self.view_is) ∙ ap (λ n. take n c.args.self.now.objects) c.cells.ensures)
