-- The last disjunct is a formula.
use Rattle.std.proofs.lemmas.Result.{IfOk-weaker}
use Rattle.mw_model.specs.Proofs.Judgment.{last_disjunct}
use Rattle.mw_bad_steps.proofs.EqualCalls.{last_formula}
use Rattle.mw_bad_steps.proofs.equal_calls.equal_calls.Goals as goal

pub returns-clause-meant : goal.returns-clause-meant
returns-clause-meant c = IfOk-weaker c.of_equation.result _ _ (λ o h A F i e. h A (last_disjunct F) (last_formula A F i) (c.last_disjunct-end.ensures.last F e)) c.of_equation.ensures.meant
