use Rattle.mw_reflect.proofs.checker_reads.Goals as goal
use Rattle.mw_reflect.proofs.CheckerReads.{exactly}
use Rattle.mw_reflect.proofs.TermAnswers.{termp-answer}
use Rattle.mw_reflect.proofs.FormulaAnswers.{formulap-answer}
use Rattle.mw_reflect.proofs.SubstitutionAnswers.{sigmap-answer}
use Rattle.std.proofs.Common.{refl}

pub returns-clause-terms : goal.returns-clause-terms
returns-clause-terms c P D w b A three x v = exactly P D w b "LOGIC.TERMP" refl _ _ (termp-answer P A three x) v

pub returns-clause-formulas : goal.returns-clause-formulas
returns-clause-formulas c P D w b A three x v = exactly P D w b "LOGIC.FORMULAP" refl _ _ (formulap-answer P A three x) v

pub returns-clause-substitutions : goal.returns-clause-substitutions
returns-clause-substitutions c P D w b A three x v = exactly P D w b "LOGIC.SIGMAP" refl _ _ (sigmap-answer P A three x) v
