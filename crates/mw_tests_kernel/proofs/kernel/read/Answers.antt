-- A new reader was handed nothing.
use Rattle.std.proofs.Common.{[], inl}
use Rattle.mw_tests_kernel.proofs.kernel.read.Goals as goal

pub step-step-requires-clause-stands : goal.step-step-requires-clause-stands
step-step-requires-clause-stands c = inl ([], [], c.new-reader.ensures.stands c.args.kernel.now.objects)
