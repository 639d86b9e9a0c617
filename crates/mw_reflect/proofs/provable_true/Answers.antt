-- The lemmas of Provable and EachLevel.
use Rattle.mw_reflect.proofs.Provable.{provable_to}
use Rattle.mw_reflect.proofs.EachLevel.{provable_true}
use Rattle.mw_reflect.proofs.provable_true.Goals as goal

pub returns-clause-proved : goal.returns-clause-proved
returns-clause-proved c = λ D begun e axioms theorems x said. provable_to D begun axioms theorems e x said

pub returns-clause-truly : goal.returns-clause-truly
returns-clause-truly c = provable_true
