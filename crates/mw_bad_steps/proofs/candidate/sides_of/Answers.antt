-- A disjunction has two sides, and no other formula has.
use Rattle.mw_heap.specs.Objects.{object_at}
use Rattle.mw_bad_steps.proofs.Sides.{sides_answer}
use Rattle.mw_bad_steps.proofs.candidate.sides_of.Goals as goal

pub returns-clause-sides : goal.returns-clause-sides
returns-clause-sides c = λ F e. sides_answer c.args.heap.now.objects F (object_at c.args.heap.now.objects c.args.x) c.members_after.result e c.members_after.ensures.members
