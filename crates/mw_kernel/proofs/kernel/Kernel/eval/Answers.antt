-- The run leaves the theory.
use Rattle.std.proofs.Common.{refl, sym, ap, ◌∙◌, subst}
use Rattle.mw_model.specs.Events.Fate.{eval}
use Rattle.mw_heap.specs.Objects.{object_at}
use Rattle.mw_code.specs.Tables.{StandsFor}
use Rattle.mw_theory.specs.Knowledge.{parts_of, definitions_of, meant}
use Rattle.mw_kernel.specs.Knowledge.{theory_of}
use Rattle.mw_theory.proofs.CallerLemmas.{held, grown-other, grown_theory, IfOk-map}
use Rattle.mw_theory.specs.Words.{eval_event}
use Rattle.mw_heap.specs.Objects.{Grows}
use Rattle.mw_kernel.proofs.Comings.{comes-grown}
use Rattle.mw_kernel.proofs.Happening.{eval_stays}
use Rattle.mw_kernel.proofs.kernel.Kernel.eval.Goals as goal

pub evaluated-requires-clause-table : goal.evaluated-requires-clause-table
evaluated-requires-clause-table c =
    let inside = c.self.inside.world in
    let h = held _ _ _ _ c.self.invariant in
    let D = definitions_of inside.heap.objects (parts_of inside.theory) in
    (D, subst (λ T. StandsFor inside.heap.objects T D) (sym c.deref_mut.ensures.value) h.coded, h.arities)

pub invariant_of-self : goal.invariant_of-self
invariant_of-self c =
    grown-other _ _ _ _ c.self.invariant c.evaluated.new.heap.objects c.evaluated.ensures.grows _
    (record { rest = refl; stands = λ os D h. c.evaluated.ensures.table os D (subst (λ T. StandsFor os T D) (sym c.deref_mut.ensures.value) h) })

pub returns : goal.returns
returns c =
    let inside = c.self.inside.world in
    let old = c.args.self.now in
    let kept = held _ _ _ _ c.self.invariant in
    let t = meant inside.heap.objects (parts_of inside.theory) in
    let stays = grown_theory _ _ _ _ c.self.invariant c.evaluated.new.heap.objects c.evaluated.ensures.grows ∙ ap theory_of c.self.view_is in
    let fate =
    IfOk-map c.evaluated.result _ _
    (λ f h. h t (subst (λ T. StandsFor inside.heap.objects T t.definitions) (sym c.deref_mut.ensures.value) kept.coded) kept.arities ∙ ap (λ v. (eval (theory_of v) v.steps (eval_event (object_at v.objects c.args.term))).0) c.self.view_is)
    c.evaluated.ensures.fate in
    comes-grown c.evaluated.result old _ (eval (theory_of old) old.steps (eval_event (object_at old.objects c.args.term))) (ap (λ v. v.steps) c.self.view_is) (ap (λ v. v.needed) c.self.view_is)
    (subst (λ v. Grows v.objects c.evaluated.new.heap.objects) c.self.view_is c.evaluated.ensures.grows) stays (eval_stays (theory_of old) old.steps (eval_event (object_at old.objects c.args.term))) fate
