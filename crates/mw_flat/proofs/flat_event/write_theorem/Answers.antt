-- The one number is that of the proof.
use Rattle.std.proofs.Common.{◌++◌, get_or, ap, ◌∙◌}
use Rattle.std.proofs.lemmas.Result.{on_ok_weaker}
use Rattle.mw_heap.specs.Objects.{object_at}
use Rattle.mw_flat.proofs.ShortTheorems.{theorem_after}
use Rattle.mw_flat.proofs.flat_event.write_theorem.Goals as goal

pub returns-then-branch : goal.returns-then-branch
returns-then-branch c =
    let os = c.args.heap.now.objects in
    let number = c.index.ensures ∙ ap (λ ns. get_or ns 0 c.index.result.now) c.in_ok-numbers.ensures.numbers in
    theorem_after (object_at os c.args.name) (object_at os c.args.formula) (object_at os c.args.proof) _ _ _ _ c.in_ok-numbers.ensures.steps (c.in_ok-put_short_theorem.ensures.put c.if-branch.true) c.requires.empty number

pub returns : goal.returns
returns c =
    let os = c.args.heap.now.objects in
    let number = c.index-2.ensures ∙ ap (λ ns. get_or ns 0 c.index-2.result.now) c.in_ok-numbers.ensures.numbers in
    let kept = c.in_ok-put_short_theorem.ensures.kept c.if-branch.false in
    on_ok_weaker c.write_long_theorem.result
    (λ line. theorem_after (object_at os c.args.name) (object_at os c.args.formula) (object_at os c.args.proof) _ _ _ _ c.in_ok-numbers.ensures.steps (line.0, line.1, line.2 ∙ ap (λ u. u ++ line.0) kept) c.requires.empty number) c.write_long_theorem.ensures
