-- The list stays, and all parts of the block before it.
use Rattle.std.proofs.Common.{◌+◌, ◌≤◌, max, length, sym, ◌∙◌, subst, arith}
use Rattle.mw_model.specs.Events.Theory.{IsSound}
use Rattle.mw_model.specs.Events.Admission.{add_to_theory}
use Rattle.mw_preamble.specs.Entries.{IsBlock}
use Rattle.mw_theory.proofs.BlockCut.{block-cut}
use Rattle.mw_theory.proofs.world.World.cut_behind.Goals as goal

pub returns-clause-block : goal.returns-clause-block
returns-clause-block c = λ ds B n.
    let old = c.args.self.now in
    let os = old.heap.objects in
    let r = c.args.axioms in
    let m = max (r + 1) old.needed in
    let whole : m ≤ length os = omega (arith, c.requires.world.kept, c.requires.within) in
    let cut = c.cut_past.ensures in
    record {
      means = subst (λ o. IsBlock o ds B) (sym cut.objects) (block-cut os c.order.ensures.distinct c.order.ensures.older m whole ds B n.means (r, omega arith, n.axioms_are));
      axioms_in = cut.within;
      axioms_are = cut.same ∙ n.axioms_are;
      sound = subst (λ t. IsSound (add_to_theory t B)) (sym cut.theory) n.sound;
    }
