-- One more clause, and the end.
use Rattle.std.proofs.Common.{ap}
use Rattle.mw_heap.specs.Objects.{object_at}
use Rattle.mw_heap.proofs.NoPair.{shown_no_pair}
use Rattle.mw_explain.specs.RawParts.{clause_members}
use Rattle.mw_explain.proofs.PuttingParts.{Walks-start, Walks-more, Walks-end, no-clauses}
use Rattle.mw_explain.proofs.raw_parts.put_clauses.Goals as goal

pub loop-clause-init : goal.loop-clause-init
loop-clause-init c = Walks-start clause_members _ _ _ c.requires

pub loop-clause-preserved : goal.loop-clause-preserved
loop-clause-preserved c =
    let pair = c.in-Pair.ensures in
    Walks-more clause_members _ _ _ _ _ c.loop-clause.invariant _ c.in-Pair.clause c.in-Pair.more _ (ap clause_members pair.shows.2) pair.shows.1 pair.below.0 pair.below.1 c.in_ok-put_members.ensures

pub returns : goal.returns
returns c =
    let os = c.args.heap.now.objects in
    let rest = object_at os c.loop-clause.rest in
    Walks-end clause_members _ _ _ _ _ c.loop-clause.invariant (no-clauses rest (shown_no_pair os c.view.result rest c.view.ensures.shows c.in_default.not-Pair))
