-- All that the theory needs is in the heap.
use Rattle.std.proofs.Common.{[], sym, subst}
use Rattle.mw_term.proofs.CallerLemmas.{AreMarks-none}
use Rattle.mw_theory.specs.Knowledge.{IsWorldOf}
use Rattle.mw_theory.proofs.Held.{needs-all}
use Rattle.mw_theory.proofs.world.World.over.Goals as goal

pub returns-clause-world : goal.returns-clause-world
returns-clause-world c =
    let q = c.args.heap.objects in
    let t = c.args.theory in
    subst (λ ms. IsWorldOf q c.mark.result t ms) (sym c.new.ensures)
    (subst (λ n. IsWorldOf q n t []) (sym c.mark.ensures) (needs-all q t [] c.requires.held (AreMarks-none t.arity q) c.requires.watched))
