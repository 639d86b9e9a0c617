-- The initial theory, and no steps.
use Rattle.std.proofs.Common.{[], sym, ap, subst}
use Rattle.mw_theory.proofs.CallerLemmas.{held}
use Rattle.mw_flat.specs.Collecting.{AreFormulasIn}
use Rattle.mw_flat.specs.Going.{going_of}
use Rattle.mw_flat.proofs.Goings.{unnamed, no_formulas}
use Rattle.mw_flat.proofs.Answered.{none-collected}
use Rattle.mw_flat.proofs.flat.Flat.new.Goals as goal

pub invariant_of-result : goal.invariant_of-result
invariant_of-result c =
    let w = c.in_ok-world.world in
    record {
      world = c.in_ok-world.ensures.world;
      built_in = unnamed w.heap.objects w.theory.checker (ap (λ t. t.checker) c.in_ok-world.ensures.theory);
      formulas = subst (AreFormulasIn w.heap.objects w.theory.arity) (sym c.none-collected.ensures.conclusions) (no_formulas w.heap.objects w.theory.arity);
      known = λ good. ([], none-collected (going_of w c.none-collected.result) c.none-collected.ensures.count c.none-collected.ensures.good c.none-collected.ensures.conclusions);
    }

pub returns-clause-sound : goal.returns-clause-sound
returns-clause-sound c = (held _ _ _ _ c.in_ok-world.ensures.world).sound
