-- One name after another.
use Rattle.std.proofs.Common.{◌∷◌, [], ◌++◌, refl, sym, ap, ◌∙◌, if◌then◌else◌}
use Rattle.mw_define.proofs.NewNames.{draft-in}
use Rattle.mw_explain.proofs.DraftNames.{so_far-start, so_far-next, so_far-refused, so_far-end}
use Rattle.mw_explain.proofs.draft_name.first_bad_name.Goals as goal

pub loop-index-init : goal.loop-index-init
loop-index-init c = so_far-start c.args.arity.now c.args.heap.now.objects c.args.drafts.now c.new-names.result.keys c.new-names.ensures.empty

pub add_name-requires-clause-within : goal.add_name-requires-clause-within
add_name-requires-clause-within c = (draft-in c.args.heap.now.objects c.args.drafts.now c.loop-index.index c.index-drafts-index.result c.requires c.loop-index-test.true c.index-drafts-index.is).0

pub add_name-requires-clause-symbols : goal.add_name-requires-clause-symbols
add_name-requires-clause-symbols c = c.loop-index.invariant.names.symbols

pub loop-index-preserved : goal.loop-index-preserved
loop-index-preserved c =
    so_far-next c.args.arity.now c.args.heap.now.objects c.args.drafts.now c.loop-index.index c.index-drafts-index.result c.loop-index-test.true c.index-drafts-index.is c.loop-index.names.keys c.loop-index.invariant c.add_name.new.names.keys
    (draft-in c.args.heap.now.objects c.args.drafts.now c.loop-index.index c.index-drafts-index.result c.requires c.loop-index-test.true c.index-drafts-index.is).0
    (sym c.in_ok-add_name.ensures.new ∙ c.if-not-branch.false)
    (c.in_ok-add_name.ensures.added ∙ ap (λ b. if b then c.loop-index.names.keys ++ c.index-drafts-index.result.name ∷ [] else c.loop-index.names.keys) c.if-not-branch.false)

pub returns-then-not-branch : goal.returns-then-not-branch
returns-then-not-branch c = (
  (draft-in c.args.heap.now.objects c.args.drafts.now c.loop-index.index c.index-drafts-index.result c.requires c.loop-index-test.true c.index-drafts-index.is).0,
  so_far-refused c.args.arity.now c.args.heap.now.objects c.args.drafts.now c.loop-index.index c.index-drafts-index.result c.loop-index-test.true c.index-drafts-index.is c.loop-index.names.keys c.loop-index.invariant _ refl (sym c.in_ok-add_name.ensures.new ∙ c.if-not-branch.true),
)

pub returns : goal.returns
returns c = so_far-end c.args.arity.now c.args.heap.now.objects c.args.drafts.now c.loop-index.index c.loop-index.names.keys c.loop-index-test.false c.loop-index.invariant
