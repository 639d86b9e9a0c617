-- One member more, until there is none.
use Rattle.std.proofs.Common.{ap, arith}
use Rattle.mw_model.specs.Laws.RulesInduction.{length_object}
use Rattle.mw_heap.specs.Objects.{object_at}
use Rattle.mw_heap.proofs.NoPair.{shown_no_pair}
use Rattle.mw_theory.proofs.ProofLists.{no_members}
use Rattle.mw_theory.proofs.proofs.count_members.Goals as goal

pub loop-more-preserved : goal.loop-more-preserved
loop-more-preserved c = (
  c.in-Pair.ensures.shows.1,
  omega (arith, c.loop-more.invariant.1, ap length_object c.in-Pair.ensures.shows.2),
  omega (arith, c.loop-more.invariant.2, c.in-Pair.ensures.below.1),
)

pub returns : goal.returns
returns c =
    let left = object_at c.args.heap.now.objects c.loop-more.rest in
    let none = no_members left (shown_no_pair c.args.heap.now.objects c.view.result left c.view.ensures.shows c.in_default.not-Pair) in
    omega (arith, c.loop-more.invariant.1, none)
