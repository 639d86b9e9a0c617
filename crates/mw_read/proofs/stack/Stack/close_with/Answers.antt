use Rattle.std.proofs.Common.{sym, ap₂, subst, length}
use Rattle.mw_read.specs.Machine.{Turn}
use Rattle.mw_read.specs.Piles.{Does, IsFrames, give_to}
use Rattle.mw_heap.proofs.Objects.{length-Grows}
use Rattle.mw_read.proofs.Piles.{agree_grows, listed_grows}
use Rattle.mw_read.proofs.Turns.{if_ok_map}
use Rattle.mw_read.proofs.stack.Stack.close_with.Goals as goal

pub give-requires-clause-waits : goal.give-requires-clause-waits
give-requires-clause-waits c = subst (λ u. IsFrames u) (sym c.in_ok-list.ensures.rest) tt

pub give-requires-clause-listed : goal.give-requires-clause-listed
give-requires-clause-listed c = listed_grows (length c.args.heap.now.objects) (length c.fold.new.heap.objects) c.args.self.now.labels.entries (length-Grows c.args.heap.now.objects c.fold.new.heap.objects c.fold.ensures.grows) c.requires.stack.listed

pub returns-clause-turn : goal.returns-clause-turn
returns-clause-turn c =
    if_ok_map c.give.result
    (λ r f ks a.
    subst (λ (w : Turn). Does c.give.new.heap.objects c.give.new.layers.items c.give.new.labels.entries r w) (ap₂ (λ u y. give_to u y ks) c.in_ok-list.ensures.rest c.in_ok-list.ensures.made.1)
    (f ks (agree_grows c.args.heap.now.objects c.fold.new.heap.objects c.args.self.now.labels.entries ks c.fold.ensures.grows c.requires.stack.listed a)))
    c.give.ensures.turn
