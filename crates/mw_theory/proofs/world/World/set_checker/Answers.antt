-- The function is the checker.
use Rattle.std.proofs.Common.{◌≡◌, ◌+◌, false, Some, sym, ap, ap₂, ◌∙◌, subst, arith}
use Rattle.mw_model.specs.Values.Primitive.{is_symbol, name_of}
use Rattle.mw_model.specs.Events.Theory.{IsSound}
use Rattle.mw_theory.specs.Knowledge.{with_checker, IsWorldOf}
use Rattle.mw_theory.proofs.Checkers.{checker-held, checker-meant}
use Rattle.mw_theory.proofs.Held.{held, watched, needs-all}
use Rattle.mw_theory.proofs.world.World.set_checker.Goals as goal

pub returns-clause-world : goal.returns-clause-world
returns-clause-world c =
    let w = c.cut_past.new.self in
    let theory = c.cut_past.ensures.theory in
    let name = c.cut_past.ensures.same in
    let level : c.in-Some.level ≡ c.args.self.now.theory.level + 1 = omega arith in
    let t = record (w.theory) { checker = Some c.args.name; level = c.in-Some.level; is_initial = false } in
    let kept = checker-held w.heap.objects w.theory (held _ _ _ _ c.cut_past.ensures.world) c.args.name c.in-Some.level (c.cut_past.ensures.within, ap is_symbol name ∙ c.requires.name.1) (level ∙ ap (λ u. u.level + 1) (sym theory)) (subst IsSound (sym (ap₂ with_checker theory (ap name_of name))) c.requires.sound) in
    subst (λ n. IsWorldOf w.heap.objects n t w.marks) (sym c.mark-self.ensures) (needs-all w.heap.objects t w.marks kept c.cut_past.ensures.world.marked (watched _ _ _ _ c.cut_past.ensures.world))

pub returns-clause-theory : goal.returns-clause-theory
returns-clause-theory c =
    let w = c.cut_past.new.self in
    let theory = c.cut_past.ensures.theory in
    let name = c.cut_past.ensures.same in
    let level : c.in-Some.level ≡ c.args.self.now.theory.level + 1 = omega arith in
    checker-meant w.heap.objects w.theory (held _ _ _ _ c.cut_past.ensures.world) c.args.name c.in-Some.level (c.cut_past.ensures.within, ap is_symbol name ∙ c.requires.name.1) (level ∙ ap (λ u. u.level + 1) (sym theory)) ∙ ap₂ with_checker theory (ap name_of name)
