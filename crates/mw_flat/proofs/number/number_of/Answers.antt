-- The place is found, or there is none.
use Rattle.std.proofs.Common.{◌∙◌, arith}
use Rattle.mw_flat.proofs.Places.{number_at, number_nowhere}
use Rattle.mw_flat.proofs.number.number_of.Goals as goal

pub overflow_add-result : goal.overflow_add-result
overflow_add-result c = omega (arith, c.in-Some.ensures.within, c.len-count.ensures.small, c.len-count.ensures.len)

pub returns-in-Some : goal.returns-in-Some
returns-in-Some c = number_at c.args.heap.now.objects c.order.ensures.distinct c.args.p c.requires.within c.args.complete.now.keys c.requires.all_within c.in-Some.place c.in-Some.ensures.index

pub returns-in-None : goal.returns-in-None
returns-in-None c = c.len-count.ensures.len ∙ number_nowhere c.args.heap.now.objects c.order.ensures.distinct c.args.p c.requires.within c.args.complete.now.keys c.requires.all_within c.in-None.ensures.index
