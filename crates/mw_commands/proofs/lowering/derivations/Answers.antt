-- Each row of the table of rules has its test.
use Rattle.mw_commands.proofs.Deriving.{derive_exact, proof_derives}
use Rattle.mw_commands.proofs.Lowered.{derivation_turns}
use Rattle.mw_commands.proofs.lowering.derivations.Goals as goal

pub returns-clause-exact : goal.returns-clause-exact
returns-clause-exact c = derive_exact

pub returns-clause-proofs : goal.returns-clause-proofs
returns-clause-proofs c = proof_derives

pub returns-clause-turns : goal.returns-clause-turns
returns-clause-turns c = derivation_turns
