-- What is found of the formula is found of the datum.
use Rattle.std.proofs.Common.{sym, ◌∙◌}
use Rattle.std.proofs.lemmas.Result.{IfOk-weaker}
use Rattle.mw_heap.specs.Objects.{object_at}
use Rattle.mw_term.proofs.CallerLemmas.{AreMarks-grows}
use Rattle.mw_taut.proofs.Posed.{on_ok}
use Rattle.mw_taut.proofs.Verdicts.{no_formula_given}
use Rattle.mw_taut.proofs.verdict.verdict_on.Goals as goal

pub returns-then-not-is_formula-clause-verdict : goal.returns-then-not-is_formula-clause-verdict
returns-then-not-is_formula-clause-verdict c =
    let os = c.args.heap.now.objects in
    no_formula_given os (object_at os c.args.x) _ _ c.args.arity.now c.in-Some.ensures c.requires.arity (sym (c.is_formula.ensures c.args.arity.now c.args.heap.now.objects c.in_ok-extend.ensures.marked) ∙ c.if-not-is_formula.true)

pub decided-requires-clause-named : goal.decided-requires-clause-named
decided-requires-clause-named c = (object_at c.args.heap.now.objects c.args.x, c.in-Some.ensures)

pub decided-requires-clause-formula : goal.decided-requires-clause-formula
decided-requires-clause-formula c = sym (c.is_formula.ensures c.args.arity.now c.args.heap.now.objects c.in_ok-extend.ensures.marked) ∙ c.if-not-is_formula.false

pub returns-clause-marked : goal.returns-clause-marked
returns-clause-marked c = on_ok c.decided.result (AreMarks-grows _ _ _ _ c.decided.ensures.grows c.in_ok-extend.ensures.marked)

pub returns-clause-verdict : goal.returns-clause-verdict
returns-clause-verdict c = IfOk-weaker c.decided.result _ _ (λ v f. f (object_at c.args.heap.now.objects c.args.x) c.in-Some.ensures) c.decided.ensures.verdict
