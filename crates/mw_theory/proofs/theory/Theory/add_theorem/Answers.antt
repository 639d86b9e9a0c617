-- One theorem more, in front.
use Rattle.std.proofs.Common.{false, sym, ap, subst}
use Rattle.mw_theory.specs.Knowledge.{IsHeld}
use Rattle.mw_theory.proofs.Defining.{theorem-held, theorem-meant}
use Rattle.mw_theory.proofs.Results.{OnErr-from}
use Rattle.mw_theory.proofs.theory.Theory.add_theorem.Goals as goal

pub returns-clause-held : goal.returns-clause-held
returns-clause-held c =
    let t = c.args.self.now in
    let made = c.in_ok-theorems.ensures.made in
    subst (λ ks. IsHeld c.with_front.new.heap.objects (record t { theorems = c.in_ok-theorems.theorems; known_theorems = ks; is_initial = false })) (sym c.in_ok-add.ensures.added)
    (theorem-held c.args.heap.now.objects t c.requires.held c.args.formula c.in_ok-theorems.theorems c.with_front.new.heap.objects c.requires.within c.with_front.ensures.grows made.0 made.1 c.requires.sound)

pub returns-clause-theory : goal.returns-clause-theory
returns-clause-theory c =
    let made = c.in_ok-theorems.ensures.made in
    theorem-meant c.args.heap.now.objects c.args.self.now c.requires.held c.args.formula c.in_ok-theorems.theorems c.with_front.new.heap.objects c.requires.within c.with_front.ensures.grows made.0 made.1

pub returns-in_err-add-clause-err : goal.returns-in_err-add-clause-err
returns-in_err-add-clause-err c = OnErr-from _ _ (ap (λ ks. record (c.args.self.now) { known_theorems = ks }) c.in_err-add.ensures.err)
