-- What is needed stays.
use Rattle.std.proofs.Common.{sym, ap, ◌∙◌, subst}
use Rattle.mw_theory.specs.Knowledge.{parts_of, meant, IsWorldOf}
use Rattle.mw_theory.proofs.Held.{cut_back, cut_theory}
use Rattle.mw_theory.proofs.world.World.cut_to.Goals as goal

pub returns-clause-world : goal.returns-clause-world
returns-clause-world c =
    let old = c.args.self.now in
    let h = c.requires.world in
    subst (λ os. IsWorldOf os old.needed old.theory c.cut_marks.new.marks) (sym c.cut_back.ensures.kept)
    (cut_back _ _ _ _ h c.args.to c.requires.needed c.requires.within c.cut_marks.new.marks c.cut_marks.ensures.few (c.cut_marks.ensures.marked _ _ h.marked))

pub returns-clause-theory : goal.returns-clause-theory
returns-clause-theory c =
    ap (λ os. meant os (parts_of c.args.self.now.theory)) c.cut_back.ensures.kept
    ∙ cut_theory _ _ _ _ c.requires.world c.args.to c.requires.needed c.requires.within
