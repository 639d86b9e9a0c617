-- The lemma of Provable.
use Rattle.mw_reflect.proofs.Provable.{provable_reflects}
use Rattle.mw_reflect.proofs.provability.Goals as goal

pub returns : goal.returns
returns c = λ D begun e axioms theorems x. provable_reflects D begun axioms theorems e x
