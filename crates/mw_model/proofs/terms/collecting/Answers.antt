-- What is pending is as good as substituted.
use Rattle.std.proofs.Common.{refl}
use Rattle.mw_model.proofs.Collects.{collect_lambda}
use Rattle.mw_model.proofs.terms.collecting.Goals as goal

pub returns-clause-lambda : goal.returns-clause-lambda
returns-clause-lambda c = collect_lambda

pub returns-clause-actuals : goal.returns-clause-actuals
returns-clause-actuals c = λ B t ts. refl

pub returns-clause-no_actuals : goal.returns-clause-no_actuals
returns-clause-no_actuals c = λ B. refl
