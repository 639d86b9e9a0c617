-- Recursive functions have their arities in front.
use Rattle.std.proofs.Common.{◌++◌, sym, ap, ◌∙◌}
use Rattle.std.proofs.Common.{map}
use Rattle.mw_define.specs.Blocks.{draft_at}
use Rattle.mw_explain.specs.Drafts.{bodies_under}
use Rattle.mw_explain.proofs.DraftsShown.{under-newer, has-arities}
use Rattle.mw_explain.proofs.definition.newer_arities.Goals as goal

pub returns-then-not-recursive : goal.returns-then-not-recursive
returns-then-not-recursive c =
    let ds = map (draft_at c.args.heap.now.objects) c.args.drafts.now in
    ap (λ t. t ++ c.args.arity.now) c.new.ensures ∙ ap (λ b. bodies_under b c.args.arity.now ds) (sym c.if-not-recursive.true)

pub returns : goal.returns
returns c =
    let ds = map (draft_at c.args.heap.now.objects) c.args.drafts.now in
    under-newer c.args.arity.now ds c.in-Some.newer (rw c.in-Some.is at c.in_ok-newer.ensures) ∙ ap (λ b. bodies_under b c.args.arity.now ds) (sym c.if-not-recursive.false)

pub unreachable-requires : goal.unreachable-requires
unreachable-requires c =
    let ds = map (draft_at c.args.heap.now.objects) c.args.drafts.now in
    has-arities c.args.arity.now ds (c.requires.named c.if-not-recursive.false) (c.requires.formals c.if-not-recursive.false) (rw c.in-None.is at c.in_ok-newer.ensures)
