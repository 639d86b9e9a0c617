-- Each pair is tested, and the end is NIL.
use Rattle.std.proofs.Common.{◌&&◌, sym, ap, ◌∙◌, arith}
use Rattle.mw_model.specs.Laws.Rules.{is_substitution_object}
use Rattle.mw_heap.specs.Objects.{object_at}
use Rattle.mw_heap.proofs.NoPair.{shown_no_pair}
use Rattle.mw_term.proofs.SubstitutionLists.{is_substitution_object-pair, is_substitution_object-end}
use Rattle.mw_term.proofs.substitutions.is_substitution.Goals as goal

pub returns-then-not-is_pair_of_substitution : goal.returns-then-not-is_pair_of_substitution
returns-then-not-is_pair_of_substitution c =
    let o = object_at c.args.heap.now.objects in
    λ A marks.
    sym (c.loop-pair.invariant.2 A marks
    ∙ (is_substitution_object-pair A (o c.loop-pair.rest) (o c.in-Pair.pair) (o c.in-Pair.more) c.in-Pair.ensures.shows.2
    ∙ ap (λ b. b && is_substitution_object A (o c.in-Pair.more)) (sym (c.is_pair_of_substitution.ensures A marks) ∙ c.if-not-is_pair_of_substitution.true)))

pub loop-pair-preserved : goal.loop-pair-preserved
loop-pair-preserved c =
    let o = object_at c.args.heap.now.objects in (
      c.in-Pair.ensures.shows.1,
      omega (arith, c.in-Pair.ensures.below.1, c.loop-pair.invariant.1),
      λ A marks.
          c.loop-pair.invariant.2 A marks
          ∙ (is_substitution_object-pair A (o c.loop-pair.rest) (o c.in-Pair.pair) (o c.in-Pair.more) c.in-Pair.ensures.shows.2
          ∙ ap (λ b. b && is_substitution_object A (o c.in-Pair.more)) (sym (c.is_pair_of_substitution.ensures A marks) ∙ c.if-not-is_pair_of_substitution.false)),
    )

pub returns : goal.returns
returns c =
    let os = c.args.heap.now.objects in
    let x = object_at os c.loop-pair.rest in
    λ A marks. c.is_nil.ensures ∙ sym (c.loop-pair.invariant.2 A marks ∙ is_substitution_object-end A x (shown_no_pair os c.view.result x c.view.ensures.shows c.in_default.not-Pair))
