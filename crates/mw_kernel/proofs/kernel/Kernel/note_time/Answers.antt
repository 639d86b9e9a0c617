-- Looks are no objects.
use Rattle.std.proofs.Common.{refl, sym, ◌∙◌, subst}
use Rattle.mw_theory.specs.Knowledge.{IsWorldOf}
use Rattle.mw_kernel.proofs.Told.{looked}
use Rattle.mw_kernel.proofs.kernel.Kernel.note_time.Goals as goal

pub invariant_of-self : goal.invariant_of-self
invariant_of-self c =
    let w = c.self.inside.world in
    subst (λ os. IsWorldOf os w.needed w.theory w.marks) (sym c.take_looks-looked.ensures) c.self.invariant

pub returns : goal.returns
returns c =
    looked c.self.inside.world (record c.self.inside.world { heap = c.take_looks-looked.new.self }) c.self.inside.checker.steps c.take_looks-looked.ensures refl ∙ c.self.view_is
