use Rattle.mw_model.proofs.built_in_values.Goals as goal
use Rattle.mw_model.proofs.BuiltInRead.{well_made}
use Rattle.mw_model.proofs.BuiltInTotal.{built_in_total, begun_have}
use Rattle.mw_model.proofs.Depth.{block_calls-det}

pub returns-clause-made : goal.returns-clause-made
returns-clause-made c = well_made

pub returns-clause-total : goal.returns-clause-total
returns-clause-total c = built_in_total

pub returns-clause-some : goal.returns-clause-some
returns-clause-some c = begun_have

pub returns-clause-one : goal.returns-clause-one
returns-clause-one c P D w begins f d vs = block_calls-det P D f vs
