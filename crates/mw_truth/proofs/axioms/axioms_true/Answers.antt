-- The laws of the axioms, from the lemmas.
use Rattle.mw_truth.proofs.AxiomsTrue.{axioms_true}
use Rattle.mw_truth.proofs.AxiomFormulas.{axioms_formulas}
use Rattle.mw_truth.proofs.axioms.axioms_true.Goals as goal

pub returns-clause-each : goal.returns-clause-each
returns-clause-each c = axioms_true

pub returns-clause-formulas : goal.returns-clause-formulas
returns-clause-formulas c = axioms_formulas
