-- Calls at some depth each are calls at one depth; the calls of a block are what it says.
use Rattle.mw_model.proofs.Depth.{at_some_depth, from_some_depth, more_depth}
use Rattle.mw_model.proofs.CallDepth.{call_of_function, call_of_witness, call_of_earlier, call_of_none}
use Rattle.mw_model.proofs.meaning.depth.Goals as goal

pub returns-clause-some : goal.returns-clause-some
returns-clause-some c = λ D e t v. (at_some_depth D e t v, λ (k, h). from_some_depth D k e t v h)

pub returns-clause-more : goal.returns-clause-more
returns-clause-more c = more_depth

pub returns-clause-of_function : goal.returns-clause-of_function
returns-clause-of_function c = call_of_function

pub returns-clause-of_witness : goal.returns-clause-of_witness
returns-clause-of_witness c = call_of_witness

pub returns-clause-of_earlier : goal.returns-clause-of_earlier
returns-clause-of_earlier c = call_of_earlier

pub returns-clause-of_none : goal.returns-clause-of_none
returns-clause-of_none c = call_of_none
