-- The pair is inserted.
use Rattle.std.proofs.Common.{◌<◌, length, refl, ap, ◌∙◌, arith}
use Rattle.mw_heap.specs.Cells.{bytes_of}
use Rattle.mw_heap.proofs.Measuring.{length-measured, measured-result}
use Rattle.mw_heap.proofs.Shown.{length-cells}
use Rattle.mw_heap.proofs.Sound.{plain_sound, plain_grows, plain_made}
use Rattle.mw_heap.proofs.Words.{KeepsWords-Grows}
use Rattle.mw_heap.proofs.store.heap.Heap.cons.Goals as goal

parts_in : (c : goal.After-insert_pair) → (c.args.first < length c.self.inside.cells.keys) × (c.args.second < length c.self.inside.cells.keys)
parts_in c =
    let n = length-cells _ _ _ c.self.invariant.sound _ (ap (λ v. v.objects) c.self.view_is) in
    (omega (arith, n, c.requires.first_in), omega (arith, n, c.requires.second_in))

pub insert_pair-requires-clause-all : goal.insert_pair-requires-clause-all
insert_pair-requires-clause-all c = c.self.inside.lengths.ok.0 ∙ length-measured _ _ _ _ c.self.invariant.measured

pub insert_pair-requires-clause-parts : goal.insert_pair-requires-clause-parts
insert_pair-requires-clause-parts c =
    let n = length-cells _ _ _ c.self.invariant.sound _ (ap (λ v. v.objects) c.self.view_is) in
    (omega (arith, n, c.requires.first_in), omega (arith, n, c.requires.second_in))

pub invariant_of-self : goal.invariant_of-self
invariant_of-self c =
    let e = c.insert_pair.ensures in
    record {
      sound = plain_sound _ _ _ c.self.invariant.sound _ (refl, refl) (parts_in c) _ (ap (λ v. v.objects) c.self.view_is) _ e.few _ e.inserted e.distinct e.err;
      measured = measured-result _ _ _ _ _ _ _ _ c.self.invariant.measured (e.measured c.self.inside.naturals.keys (bytes_of c.self.inside.names.keys)) e.err e.lengths_err;
      words = KeepsWords-Grows _ _ _ _ (ap (λ v. v.objects) c.self.view_is)
          (plain_grows _ _ _ c.self.invariant.sound _ (refl, refl) (parts_in c) _ (ap (λ v. v.objects) c.self.view_is) _ e.few _ e.inserted e.distinct e.err) c.self.invariant.words;
    }

pub returns-clause-grows : goal.returns-clause-grows
returns-clause-grows c =
    let e = c.insert_pair.ensures in
    plain_grows _ _ _ c.self.invariant.sound _ (refl, refl) (parts_in c) _ (ap (λ v. v.objects) c.self.view_is) _ e.few _ e.inserted e.distinct e.err

pub returns-clause-made : goal.returns-clause-made
returns-clause-made c =
    let e = c.insert_pair.ensures in
    plain_made _ _ _ c.self.invariant.sound _ (refl, refl) (parts_in c) _ (ap (λ v. v.objects) c.self.view_is) _ e.few _ refl _ e.inserted e.distinct
