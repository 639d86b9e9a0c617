-- A condition and its case at a time. Where the conditions end the cases must end.
use Rattle.std.proofs.Common.{◌&&◌, sym, ap, ◌∙◌, arith}
use Rattle.mw_model.specs.Terms.Object.{NIL}
use Rattle.mw_model.proofs.Names.{same_object-eq}
use Rattle.mw_heap.specs.Objects.{object_at}
use Rattle.mw_heap.proofs.NoPair.{shown_no_pair}
use Rattle.mw_induct.proofs.Ends.{cases_end, are_data, are_data-next, are_data-uneven, are_data-improper}
use Rattle.mw_induct.proofs.cases.are_cases.Goals as goal

pub returns-in_default-view : goal.returns-in_default-view
returns-in_default-view c =
    let os = c.args.heap.now.objects in
    let o = object_at os in
    let cases = o c.loop-more.cases in
    let uneven = shown_no_pair os c.view-in-Pair.result cases c.view-in-Pair.ensures.shows c.in_default-view.not-Pair in
    λ A marks. sym (c.loop-more.invariant.3 A marks ∙ are_data-uneven A (o c.loop-more.conditions) cases _ _ c.in-Pair.ensures.shows.2 uneven)

pub returns-then-not-are_substitutions : goal.returns-then-not-are_substitutions
returns-then-not-are_substitutions c =
    let o = object_at c.args.heap.now.objects in
    λ A marks.
    sym (c.loop-more.invariant.3 A marks
    ∙ (are_data-next A (o c.loop-more.conditions) (o c.loop-more.cases) _ (o c.in-Pair.more) _ (o c.in-Pair-view.others) c.in-Pair.ensures.shows.2 c.in-Pair-view.ensures.shows.2
    ∙ ap (λ b. b && are_data A (o c.in-Pair.more) (o c.in-Pair-view.others)) (sym (c.are_substitutions.ensures A marks) ∙ c.if-not-are_substitutions.true)))

pub loop-more-preserved : goal.loop-more-preserved
loop-more-preserved c =
    let o = object_at c.args.heap.now.objects in (
      c.in-Pair.ensures.shows.1,
      c.in-Pair-view.ensures.shows.1,
      omega (arith, c.in-Pair-view.ensures.below.1, c.loop-more.invariant.2),
      λ A marks.
          c.loop-more.invariant.3 A marks
          ∙ (are_data-next A (o c.loop-more.conditions) (o c.loop-more.cases) _ (o c.in-Pair.more) _ (o c.in-Pair-view.others) c.in-Pair.ensures.shows.2 c.in-Pair-view.ensures.shows.2
          ∙ ap (λ b. b && are_data A (o c.in-Pair.more) (o c.in-Pair-view.others)) (sym (c.are_substitutions.ensures A marks) ∙ c.if-not-are_substitutions.false)),
    )

pub returns-then-is_nil : goal.returns-then-is_nil
returns-then-is_nil c =
    let o = object_at c.args.heap.now.objects in
    let end = same_object-eq (o c.loop-more.conditions) NIL (sym c.is_nil.ensures ∙ c.if-is_nil.true) in
    λ A marks. c.is_nil-then-is_nil.ensures ∙ sym (c.loop-more.invariant.3 A marks ∙ cases_end A (o c.loop-more.conditions) (o c.loop-more.cases) end)

pub returns-else-is_nil : goal.returns-else-is_nil
returns-else-is_nil c =
    let os = c.args.heap.now.objects in
    let q = object_at os c.loop-more.conditions in
    let no_pair = shown_no_pair os c.view.result q c.view.ensures.shows c.in_default.not-Pair in
    λ A marks. c.if-is_nil.false ∙ sym (c.loop-more.invariant.3 A marks ∙ are_data-improper A q (object_at os c.loop-more.cases) no_pair (sym c.is_nil.ensures ∙ c.if-is_nil.false))
