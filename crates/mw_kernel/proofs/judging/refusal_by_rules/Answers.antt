-- What the judge answers is what the built-in checker finds.
use Rattle.std.proofs.Common.{sym, ap, ap₂, ◌∙◌}
use Rattle.mw_model.specs.Values.Definition.{arity_table}
use Rattle.mw_heap.specs.Objects.{object_at}
use Rattle.mw_heap.specs.Variants.{profile_of}
use Rattle.mw_proof.specs.Step.{is_proof}
use Rattle.mw_heap.specs.Lists.{list_object}
use Rattle.mw_theory.specs.Knowledge.{parts_of, definitions_of}
use Rattle.mw_kernel.proofs.Judged.{found-good, found-bad}
use Rattle.mw_kernel.proofs.judging.refusal_by_rules.Goals as goal

pub returns-in-Good-clause-refusal : goal.returns-in-Good-clause-refusal
returns-in-Good-clause-refusal c = λ N.
    let os = c.args.heap.now.objects in
    let t = c.args.theory.now in
    let h = c.requires.held in
    let p = object_at os c.args.proof in
    found-good _
    (ap₂ (λ x y. is_proof x y (arity_table (definitions_of os (parts_of t))) (profile_of t.profile) p) (sym h.axioms_known) (sym h.theorems_known)
    ∙ (ap (λ A. is_proof (list_object os t.known_axioms) (list_object os t.known_theorems) A (profile_of t.profile) p) (sym h.arities) ∙ c.in-Good.ensures.judged))

pub returns-in-Bad-clause-refusal : goal.returns-in-Bad-clause-refusal
returns-in-Bad-clause-refusal c = λ N.
    let os = c.args.heap.now.objects in
    let t = c.args.theory.now in
    let h = c.requires.held in
    let p = object_at os c.args.proof in
    found-bad _
    (ap₂ (λ x y. is_proof x y (arity_table (definitions_of os (parts_of t))) (profile_of t.profile) p) (sym h.axioms_known) (sym h.theorems_known)
    ∙ (ap (λ A. is_proof (list_object os t.known_axioms) (list_object os t.known_theorems) A (profile_of t.profile) p) (sym h.arities) ∙ c.in-Bad.ensures.judged))
