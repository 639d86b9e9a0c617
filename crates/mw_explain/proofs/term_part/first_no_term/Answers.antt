-- One more member that is a term, and the first that is none.
use Rattle.std.proofs.Common.{sym, ◌∙◌, arith}
use Rattle.mw_heap.specs.Objects.{object_at}
use Rattle.mw_heap.proofs.NoPair.{shown_no_pair}
use Rattle.mw_explain.proofs.LookingDown.{member_good, member_bad, none_left}
use Rattle.mw_explain.proofs.term_part.first_no_term.Goals as goal

pub returns-then-not-is_term : goal.returns-then-not-is_term
returns-then-not-is_term c = λ A k.
    let os = c.args.heap.now.objects in
    member_bad A os c.args.list c.loop-first.rest c.in-Pair.first c.in-Pair.more c.in-Pair.ensures.shows.2 c.in-Pair.ensures.below.0 c.loop-first.invariant.older (c.loop-first.invariant.same A k) (sym (c.is_term.ensures A os k) ∙ c.if-not-is_term.true)

pub loop-first-preserved : goal.loop-first-preserved
loop-first-preserved c =
    let os = c.args.heap.now.objects in
    let older = c.in-Pair.ensures.below.1 in
    record {
      within = omega (arith, older, c.loop-first.invariant.within);
      older = omega (arith, older, c.loop-first.invariant.older);
      same = λ A k. member_good A os c.loop-first.rest c.in-Pair.first c.in-Pair.more c.in-Pair.ensures.shows.2 (sym (c.is_term.ensures A os k) ∙ c.if-not-is_term.false) ∙ c.loop-first.invariant.same A k;
    }

pub returns : goal.returns
returns c = λ A k.
    let os = c.args.heap.now.objects in
    sym (c.loop-first.invariant.same A k) ∙ none_left A (object_at os c.loop-first.rest) (shown_no_pair os c.view.result (object_at os c.loop-first.rest) c.view.ensures.shows c.in_default.not-Pair)
