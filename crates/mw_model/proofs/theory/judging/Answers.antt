-- Each row of the table has its test.
use Rattle.mw_model.proofs.Judging.{judge_exact}
use Rattle.mw_model.proofs.theory.judging.Goals as goal

pub returns : goal.returns
returns c = judge_exact
