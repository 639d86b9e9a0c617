-- The laws are the lemmas of Reached.
use Rattle.mw_truth.proofs.Reached.{event_keeps-truly, event_keeps-built_in, built_in_judges}
use Rattle.mw_truth.proofs.soundness.events_keep.Goals as goal

pub returns-clause-truly : goal.returns-clause-truly
returns-clause-truly c = event_keeps-truly

pub returns-clause-built_in : goal.returns-clause-built_in
returns-clause-built_in c = event_keeps-built_in

pub returns-clause-judges : goal.returns-clause-judges
returns-clause-judges c = λ t N s h. built_in_judges t s h N
