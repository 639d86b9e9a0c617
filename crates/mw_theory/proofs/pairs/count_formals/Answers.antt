-- The formals are counted.
use Rattle.std.proofs.Common.{◌∙◌}
use Rattle.mw_theory.proofs.BlockPairs.{formals_counted}
use Rattle.mw_theory.proofs.pairs.count_formals.Goals as goal

pub returns-in-Some : goal.returns-in-Some
returns-in-Some c = c.len.ensures ∙ formals_counted c.args.heap.now.objects c.args.formals c.in_ok-formals.field-0 c.in-Some.formals c.in_ok-formals.ensures.formals c.in-Some.is
