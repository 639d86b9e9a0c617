-- The theory is held in the whole heap, in which nothing has a mark.
use Rattle.std.proofs.Common.{[], sym, subst}
use Rattle.mw_term.proofs.CallerLemmas.{AreMarks-none}
use Rattle.mw_theory.specs.Knowledge.{IsWorldOf}
use Rattle.mw_theory.proofs.Held.{needs-all}
use Rattle.mw_theory.proofs.world.World.go_on_with.Goals as goal

pub returns-clause-world : goal.returns-clause-world
returns-clause-world c =
    let os = c.args.self.now.heap.objects in
    let t = c.args.theory in
    subst (λ ms. IsWorldOf os c.mark-self.result t ms) (sym c.new.ensures)
    (subst (λ n. IsWorldOf os n t []) (sym c.mark-self.ensures) (needs-all os t [] c.requires.held (AreMarks-none t.arity os) c.requires.watched))
