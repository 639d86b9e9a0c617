-- The laws of whole proofs, from the lemmas.
use Rattle.mw_truth.proofs.ProofsTrue.{proved_true}
use Rattle.mw_truth.proofs.methods.proofs_keep_truth.Goals as goal

pub returns-clause-definitions : goal.returns-clause-definitions
returns-clause-definitions c = proved_true

pub returns-clause-theories : goal.returns-clause-theories
returns-clause-theories c = λ t sound. proved_true t.definitions sound.made sound.total sound.begun t.axioms t.theorems sound.axioms_true sound.theorems_true
