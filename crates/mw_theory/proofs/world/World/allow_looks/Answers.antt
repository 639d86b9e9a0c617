-- Looks are no objects.
use Rattle.std.proofs.Common.{sym, subst}
use Rattle.mw_theory.specs.Knowledge.{IsWorldOf}
use Rattle.mw_theory.proofs.world.World.allow_looks.Goals as goal

pub returns-clause-world : goal.returns-clause-world
returns-clause-world c =
    let w = c.args.self.now in
    subst (λ os. IsWorldOf os w.needed w.theory w.marks) (sym c.allow_looks.ensures) c.requires.world
