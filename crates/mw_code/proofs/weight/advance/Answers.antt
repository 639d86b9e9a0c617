-- One cell more is counted.
use Rattle.mw_code.proofs.Weighing.{weights-more}
use Rattle.mw_code.proofs.weight.advance.Goals as goal

pub returns-in_ok-insert-in-Ok-clause-weights : goal.returns-in_ok-insert-in-Ok-clause-weights
returns-in_ok-insert-in-Ok-clause-weights c = weights-more c.args.heap.now.objects c.args.known.now.entries c.insert.new.self.entries c.args.x c.in-Ok.weight c.in_ok-insert-in-Ok.ensures.updates.0 c.in-Ok.ensures.weight c.requires.weights
