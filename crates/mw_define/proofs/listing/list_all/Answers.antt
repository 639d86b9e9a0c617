-- What was owed is listed.
use Rattle.std.proofs.lemmas.Result.{IfOk-weaker}
use Rattle.mw_heap.proofs.Objects.{Grows-trans}
use Rattle.mw_define.proofs.OwedListed.{owed-in, owed-listed}
use Rattle.mw_define.proofs.listing.list_all.Goals as goal

pub list_owed-requires : goal.list_owed-requires
list_owed-requires c = owed-in c.args.heap.now.objects c.owe_each.new.heap.objects c.args.block.now c.args.owed.now c.owe_each.new.owed c.requires.none c.in_ok-recursion.recursion c.in_ok-recursion.ensures.owed

pub returns-clause-grows : goal.returns-clause-grows
returns-clause-grows c = Grows-trans c.args.heap.now.objects c.owe_each.new.heap.objects c.list_owed.new.heap.objects c.owe_each.ensures.grows c.list_owed.ensures.grows

pub returns-clause-listed : goal.returns-clause-listed
returns-clause-listed c = IfOk-weaker c.list_owed.result _ _ (owed-listed c.args.heap.now.objects c.owe_each.new.heap.objects c.args.block.now c.args.owed.now c.owe_each.new.owed c.requires.none c.list_owed.new.heap.objects c.in_ok-recursion.recursion c.in_ok-recursion.ensures.owed) c.list_owed.ensures.listed
