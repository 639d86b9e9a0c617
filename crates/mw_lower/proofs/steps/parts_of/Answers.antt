-- The conclusion is the second member.
use Rattle.mw_lower.proofs.StepTests.{parts}
use Rattle.mw_lower.proofs.steps.parts_of.Goals as goal

pub returns : goal.returns
returns c = parts c.args.heap.now.objects c.members_after.result _ _ _ c.in_ok-second_of.ensures.value c.members_after.ensures.within c.members_after.ensures.members
