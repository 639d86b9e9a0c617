-- One theorem more, in front.
use Rattle.std.proofs.Common.{sym, ap, ap₂, ◌∙◌, subst}
use Rattle.mw_model.specs.Events.Theory.{IsSound}
use Rattle.mw_term.specs.Marking.{AreMarks}
use Rattle.mw_term.specs.Settling.{IsWatch}
use Rattle.mw_term.proofs.CallerLemmas.{AreMarks-grows, IsWatch-grows}
use Rattle.mw_theory.specs.Knowledge.{parts_of, meant, with_theorem, IsWorldOf}
use Rattle.mw_theory.proofs.Held.{held, watched, grown, grown_theory, needs-all}
use Rattle.mw_theory.proofs.Results.{OnErr-from}
use Rattle.mw_theory.proofs.world.World.add_theorem.Goals as goal

pub add_theorem-requires-clause-held : goal.add_theorem-requires-clause-held
add_theorem-requires-clause-held c = held _ _ _ _ c.cut_past.ensures.world

pub add_theorem-requires-clause-sound : goal.add_theorem-requires-clause-sound
add_theorem-requires-clause-sound c = subst IsSound (sym (ap₂ with_theorem c.cut_past.ensures.theory c.cut_past.ensures.same)) c.requires.sound

pub returns-in_err-add_theorem-clause-world : goal.returns-in_err-add_theorem-clause-world
returns-in_err-add_theorem-clause-world c =
    let cut = c.cut_past.new.self in
    subst (λ t. IsWorldOf c.add_theorem.new.heap.objects cut.needed t cut.marks) (sym c.in_err-add_theorem.ensures.err) (grown _ _ _ _ c.cut_past.ensures.world c.add_theorem.new.heap.objects c.add_theorem.ensures.grows)

pub returns-in_err-add_theorem-clause-err : goal.returns-in_err-add_theorem-clause-err
returns-in_err-add_theorem-clause-err c =
    OnErr-from _ _
    (ap (λ t. meant c.add_theorem.new.heap.objects (parts_of t)) c.in_err-add_theorem.ensures.err
    ∙ (grown_theory _ _ _ _ c.cut_past.ensures.world c.add_theorem.new.heap.objects c.add_theorem.ensures.grows ∙ c.cut_past.ensures.theory))

pub returns-clause-world : goal.returns-clause-world
returns-clause-world c =
    let cut = c.cut_past.new.self in
    let new = c.add_theorem.new.heap.objects in
    let t = c.add_theorem.new.self in
    let marked = AreMarks-grows cut.theory.arity cut.heap.objects new cut.marks c.add_theorem.ensures.grows c.cut_past.ensures.world.marked in
    let noted = IsWatch-grows cut.theory.arity cut.heap.objects new cut.theory.watch c.add_theorem.ensures.grows (watched _ _ _ _ c.cut_past.ensures.world) in
    subst (λ n. IsWorldOf new n t cut.marks) (sym c.mark-self.ensures)
    (needs-all new t cut.marks c.in_ok-add_theorem.ensures.held (subst (λ A. AreMarks A new cut.marks) (sym c.in_ok-add_theorem.ensures.arity) marked)
    (subst (λ A. IsWatch A new t.watch) (sym c.in_ok-add_theorem.ensures.arity) (subst (IsWatch cut.theory.arity new) (sym c.in_ok-add_theorem.ensures.watch) noted)))

pub returns-clause-theory : goal.returns-clause-theory
returns-clause-theory c = c.in_ok-add_theorem.ensures.theory ∙ ap₂ with_theorem c.cut_past.ensures.theory c.cut_past.ensures.same
