-- A substitution is a list of pairs, and on the object of a formula it substitutes in the formula.
use Rattle.std.proofs.Common.{◌&&◌, sym, ap, ◌∙◌}
use Rattle.std.proofs.lemmas.Result.{IfOk-weaker}
use Rattle.mw_model.specs.Terms.Object.{same_object}
use Rattle.mw_model.specs.Laws.Rules.{substitute_object, substitute_formula_object}
use Rattle.mw_model.proofs.SameObject.{same_object-swap}
use Rattle.mw_heap.specs.Objects.{object_at}
use Rattle.mw_subst.proofs.PairLists.{substitution_pairs}
use Rattle.mw_subst.proofs.FormulaObjects.{substitute_object-formula}
use Rattle.mw_equal.proofs.instance.is_formula_under.Goals as goal

pub sigma_of-requires-clause-pairs : goal.sigma_of-requires-clause-pairs
sigma_of-requires-clause-pairs c =
    let marks = c.requires.marks in
    substitution_pairs marks.0 (object_at c.args.heap.now.objects c.args.substitution) (sym (c.is_substitution.ensures marks.0 marks.1) ∙ c.if-not-is_substitution.false)

pub returns-clause-answer : goal.returns-clause-answer
returns-clause-answer c =
    let o = object_at c.args.heap.now.objects in
    let formula = c.requires.formula in
    let instance = ap (λ s. substitute_object s (o c.args.premise)) c.in_ok-sigma.ensures.read ∙ substitute_object-formula formula.0 (o c.args.substitution) (o c.args.premise) formula.1 in
    IfOk-weaker c.is_instance.result _ _
    (λ b e A marks. e
    ∙ (same_object-swap _ (o c.args.conclusion)
    ∙ (ap (same_object (o c.args.conclusion)) instance ∙ ap (λ t. t && same_object (o c.args.conclusion) (substitute_formula_object (o c.args.substitution) (o c.args.premise))) (sym c.if-not-is_substitution.false ∙ c.is_substitution.ensures A marks))))
    c.is_instance.ensures.instance
