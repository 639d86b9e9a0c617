-- A heap is put after the others.
use Rattle.mw_slice.proofs.OneHeap.{one_pushed, none_pushed, some_pushed}
use Rattle.mw_slice.proofs.heaps.Heaps.begin.Goals as goal

pub returns-in_err-push-clause-stay : goal.returns-in_err-push-clause-stay
returns-in_err-push-clause-stay c = none_pushed c.self.inside.heaps.items c.push.new.self.items c.args.self.now c.self.view_is c.in_err-push.ensures.items

pub returns-clause-stay : goal.returns-clause-stay
returns-clause-stay c = one_pushed c.self.inside.heaps.items c.push.new.self.items _ c.args.self.now c.self.view_is c.in_ok-push.ensures.items

pub returns-clause-some : goal.returns-clause-some
returns-clause-some c = some_pushed c.self.inside.heaps.items c.push.new.self.items _ c.in_ok-push.ensures.items
