-- The laws are the lemmas of Descents and Jumps.
use Rattle.mw_descent.proofs.Descents.{all_end, each_sequence_stops}
use Rattle.mw_descent.proofs.Jumps.{up_passes, goal_each}
use Rattle.mw_descent.proofs.descent.Goals as goal

pub returns-clause-ends : goal.returns-clause-ends
returns-clause-ends c = all_end

pub returns-clause-stops : goal.returns-clause-stops
returns-clause-stops c = each_sequence_stops

pub returns-clause-jumps : goal.returns-clause-jumps
returns-clause-jumps c = up_passes

pub returns-clause-goals : goal.returns-clause-goals
returns-clause-goals c = goal_each
