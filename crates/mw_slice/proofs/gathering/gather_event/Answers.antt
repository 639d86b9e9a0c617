-- The cells first, and then the proofs.
use Rattle.std.proofs.Common.{◌||◌, ap, ◌∙◌}
use Rattle.std.proofs.lemmas.Result.{on_ok_weaker}
use Rattle.mw_heap.specs.Objects.{object_at}
use Rattle.mw_slice.specs.Supports.{notes, asks}
use Rattle.mw_slice.proofs.Entering.{event_by_parts}
use Rattle.mw_slice.proofs.gathering.gather_event.Goals as goal

pub returns-in-Some-clause-supports : goal.returns-in-Some-clause-supports
returns-in-Some-clause-supports c =
    let os = c.args.indexed.now.heap.now.objects in
    let firsts = c.args.indexed.now.firsts.now.entries in
    let part = c.in-Some.part in
    on_ok_weaker c.gather.result (λ noted s.
    noted s
    ∙ (ap (λ b. b || asks os firsts s part) (c.in_ok-gather_cells.ensures.supports s)
    ∙ event_by_parts os firsts (object_at os c.args.event) part c.in-Some.ensures.no_cell c.in-Some.ensures.theorems s (notes os c.args.basis.now s))) c.gather.ensures.supports
