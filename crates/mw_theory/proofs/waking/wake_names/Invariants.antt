-- The names so far are woken.
use Rattle.std.proofs.Common.{take}
use Rattle.mw_theory.specs.Waking.{WakesNames}
use Rattle.mw_theory.proofs.waking.wake_names.Given as goal

abbrev pub invariant-loop-definition : goal.invariant-loop-definition
invariant-loop-definition l = WakesNames l.initial.watch l.watch (take l.definition-index l.block)
