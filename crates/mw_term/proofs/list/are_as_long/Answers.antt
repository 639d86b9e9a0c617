-- Both lists lose a member, or one has none.
use Rattle.std.proofs.Common.{ap, ap₂, eqb, not, sym, ◌∙◌, arith}
use Rattle.mw_heap.specs.Objects.{object_at}
use Rattle.mw_heap.proofs.NoPair.{shown_no_pair}
use Rattle.mw_term.specs.Parts.{length_of}
use Rattle.mw_term.proofs.ListLengths.{no_members, differ, eqb-suc, ends_at}
use Rattle.mw_term.proofs.list.are_as_long.Goals as goal

pub loop-more-preserved : goal.loop-more-preserved
loop-more-preserved c = (
  c.in-Pair.ensures.shows.1,
  c.in-Pair-view.ensures.shows.1,
  c.loop-more.invariant.2 ∙ (ap₂ eqb (ap length_of c.in-Pair.ensures.shows.2) (ap length_of c.in-Pair-view.ensures.shows.2) ∙ eqb-suc _ _),
)

pub returns-in_default-view : goal.returns-in_default-view
returns-in_default-view c =
    let os = c.args.heap.now.objects in
    let none = no_members (object_at os c.loop-more.others) (shown_no_pair os _ _ c.view-in-Pair.ensures.shows c.in_default-view.not-Pair) in
    differ _ _ (λ e. omega (arith, e, none, ap length_of c.in-Pair.ensures.shows.2)) ∙ sym c.loop-more.invariant.2

pub returns : goal.returns
returns c =
    let os = c.args.heap.now.objects in
    let none = no_members (object_at os c.loop-more.rest) (shown_no_pair os _ _ c.view.ensures.shows c.in_default.not-Pair) in
    ap not c.is_pair.ensures ∙ (ends_at 0 (length_of (object_at os c.loop-more.others)) (object_at os c.loop-more.others) (omega arith) ∙ (ap (λ n. eqb n (length_of (object_at os c.loop-more.others))) (sym none) ∙ sym c.loop-more.invariant.2))
