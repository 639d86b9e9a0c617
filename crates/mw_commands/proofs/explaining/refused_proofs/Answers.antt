-- Proof by proof.
use Rattle.mw_commands.proofs.ExplainedProofs.{first_refused}
use Rattle.mw_commands.proofs.explaining.refused_proofs.Goals as goal

pub returns : goal.returns
returns c t N k Fs ps r h = first_refused t N r k Fs ps h
