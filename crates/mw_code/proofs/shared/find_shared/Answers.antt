-- The last visit that waits is made.
use Rattle.std.proofs.Common.{Some}
use Rattle.std.proofs.lemmas.List.Elements.{All-pop}
use Rattle.mw_code.specs.Visits.{IsVisit}
use Rattle.mw_code.proofs.shared.find_shared.Goals as goal

pub visit_next-requires : goal.visit_next-requires
visit_next-requires c =
    let os = c.args.heap.now.objects in
    let w = All-pop (IsVisit os) c.loop.walk.waiting.items c.pop.new.self.items (Some c.in-Some.next) c.in-Some.ensures.items c.loop.invariant in
    record { within = w.1; waiting = w.0 }
