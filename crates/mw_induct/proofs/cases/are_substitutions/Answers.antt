-- Each substitution is tested, and the end is NIL.
use Rattle.std.proofs.Common.{◌&&◌, sym, ap, ◌∙◌, arith}
use Rattle.mw_model.specs.Laws.RulesInduction.{are_substitution_objects}
use Rattle.mw_heap.specs.Objects.{object_at}
use Rattle.mw_heap.proofs.NoPair.{shown_no_pair}
use Rattle.mw_induct.proofs.Ends.{substitutions_end}
use Rattle.mw_induct.proofs.cases.are_substitutions.Goals as goal

pub returns-then-not-is_substitution : goal.returns-then-not-is_substitution
returns-then-not-is_substitution c =
    let o = object_at c.args.heap.now.objects in
    λ A marks.
    sym (c.loop-s.invariant.2 A marks
    ∙ (ap (are_substitution_objects A) c.in-Pair.ensures.shows.2
    ∙ ap (λ b. b && are_substitution_objects A (o c.in-Pair.more)) (sym (c.is_substitution.ensures A marks) ∙ c.if-not-is_substitution.true)))

pub loop-s-preserved : goal.loop-s-preserved
loop-s-preserved c =
    let o = object_at c.args.heap.now.objects in (
      c.in-Pair.ensures.shows.1,
      omega (arith, c.in-Pair.ensures.below.1, c.loop-s.invariant.1),
      λ A marks.
          c.loop-s.invariant.2 A marks
          ∙ (ap (are_substitution_objects A) c.in-Pair.ensures.shows.2
          ∙ ap (λ b. b && are_substitution_objects A (o c.in-Pair.more)) (sym (c.is_substitution.ensures A marks) ∙ c.if-not-is_substitution.false)),
    )

pub returns : goal.returns
returns c =
    let os = c.args.heap.now.objects in
    let x = object_at os c.loop-s.rest in
    λ A marks. c.is_nil.ensures ∙ sym (c.loop-s.invariant.2 A marks ∙ substitutions_end A x (shown_no_pair os c.view.result x c.view.ensures.shows c.in_default.not-Pair))
