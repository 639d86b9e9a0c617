-- A member turns exactly where it is a derivation, and no more is judged of it than its formula.
use Rattle.mw_commands.proofs.LoweredEvent.{rewritten_same}
use Rattle.mw_commands.proofs.LoweredAccepted.{rewritten_is_lowered}
use Rattle.mw_commands.proofs.lowering.lowered_events.Goals as goal

pub returns-clause-same : goal.returns-clause-same
returns-clause-same c = λ t N e lowered one two. rewritten_same t N e lowered (record { one = one; two = two })

pub returns-clause-written : goal.returns-clause-written
returns-clause-written c = λ t N e lowered one two h accepted. rewritten_is_lowered t N (record { one = one; two = two }) e accepted lowered h
