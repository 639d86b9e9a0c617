-- A run goes along the clauses of the values.
use Rattle.mw_model.proofs.Evaluates.{evaluate_value}
use Rattle.mw_model.proofs.meaning.evaluation.Goals as goal

pub returns : goal.returns
returns c = evaluate_value
