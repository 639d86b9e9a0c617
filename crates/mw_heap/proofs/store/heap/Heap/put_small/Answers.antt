-- A small natural is a cell by itself.
use Rattle.std.proofs.Common.{◌∙◌, Ok, refl, ap, arith}
use Rattle.mw_heap.proofs.Measuring.{length-measured, measured-after}
use Rattle.mw_heap.proofs.Sound.{plain_sound, plain_grows, plain_made}
use Rattle.mw_heap.proofs.Words.{KeepsWords-Grows}
use Rattle.mw_heap.proofs.store.heap.Heap.put_small.Goals as goal

pub insert_measured-requires-clause-all : goal.insert_measured-requires-clause-all
insert_measured-requires-clause-all c = c.self.inside.lengths.ok.0 ∙ length-measured _ _ _ _ c.self.invariant.measured

pub invariant_of-self-2 : goal.invariant_of-self-2
invariant_of-self-2 c =
    let e = c.insert_measured.ensures in
    record {
      sound = plain_sound _ _ _ c.self.invariant.sound _ (refl, refl) (omega (arith, c.ranges.n.fits)) _ (ap (λ v. v.objects) c.self.view_is) _ e.few _ e.inserted e.distinct e.err;
      measured = measured-after _ _ _ _ _ _ _ _ _ refl c.self.invariant.measured c.in_ok-made.ensures.measured;
      words = KeepsWords-Grows _ _ _ _ (ap (λ v. v.objects) c.self.view_is)
          (plain_grows _ _ _ c.self.invariant.sound _ (refl, refl) (omega (arith, c.ranges.n.fits)) _ (ap (λ v. v.objects) c.self.view_is) _ e.few _ e.inserted e.distinct e.err) c.self.invariant.words;
    }

pub returns-clause-grows : goal.returns-clause-grows
returns-clause-grows c =
    let e = c.insert_measured.ensures in
    plain_grows _ _ _ c.self.invariant.sound _ (refl, refl) (omega (arith, c.ranges.n.fits)) _ (ap (λ v. v.objects) c.self.view_is) _ e.few _ e.inserted e.distinct e.err

pub returns-clause-made : goal.returns-clause-made
returns-clause-made c =
    let e = c.in_ok-made.ensures in
    plain_made _ _ _ c.self.invariant.sound _ (refl, refl) (omega (arith, c.ranges.n.fits)) {E = Unit {0}} _ (ap (λ v. v.objects) c.self.view_is) _ e.few _ refl (Ok c.in_ok-made.made) e.inserted e.distinct
