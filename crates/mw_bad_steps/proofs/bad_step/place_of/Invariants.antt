-- The numbers so far.
use Rattle.std.proofs.Common.{◌≡◌, take, map}
use Rattle.mw_bad_steps.specs.BadStep.{number_of}
use Rattle.mw_bad_steps.proofs.bad_step.place_of.Given as goal

abbrev pub invariant-loop-w : goal.invariant-loop-w
invariant-loop-w l = l.place.items ≡ map number_of (take l.w-index l.path)
