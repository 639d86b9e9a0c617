-- One name after another.
use Rattle.std.proofs.Common.{◌∷◌, [], ◌++◌, sym, ap, ◌∙◌, if◌then◌else◌}
use Rattle.mw_define.proofs.NewNames.{draft-in, names-start, names-next, names-refused, names-end}
use Rattle.mw_define.proofs.block.names_of.Goals as goal

pub loop-draft-init : goal.loop-draft-init
loop-draft-init c = names-start c.args.arity.now c.args.heap.now.objects c.new-names.result.keys c.new-names.ensures.empty

pub add_name-requires-clause-within : goal.add_name-requires-clause-within
add_name-requires-clause-within c = (draft-in c.args.heap.now.objects c.args.drafts.now c.loop-draft.draft-index c.draft-item.result c.requires c.loop-draft-test.true c.draft-item.is).0

pub add_name-requires-clause-symbols : goal.add_name-requires-clause-symbols
add_name-requires-clause-symbols c = c.loop-draft.invariant.symbols

pub loop-draft-preserved : goal.loop-draft-preserved
loop-draft-preserved c =
    names-next c.args.arity.now c.args.heap.now.objects c.args.drafts.now c.loop-draft.draft-index c.draft-item.result c.loop-draft-test.true c.draft-item.is c.loop-draft.names.keys c.loop-draft.invariant c.add_name.new.names.keys
    (draft-in c.args.heap.now.objects c.args.drafts.now c.loop-draft.draft-index c.draft-item.result c.requires c.loop-draft-test.true c.draft-item.is).0
    (sym c.in_ok-add_name.ensures.new ∙ c.if-not-branch.false)
    (c.in_ok-add_name.ensures.added ∙ ap (λ b. if b then c.loop-draft.names.keys ++ c.draft-item.result.name ∷ [] else c.loop-draft.names.keys) c.if-not-branch.false)

pub returns-then-not-branch : goal.returns-then-not-branch
returns-then-not-branch c =
    names-refused c.args.arity.now c.args.heap.now.objects c.args.drafts.now c.loop-draft.draft-index c.draft-item.result c.loop-draft-test.true c.draft-item.is c.loop-draft.names.keys c.loop-draft.invariant
    (sym c.in_ok-add_name.ensures.new ∙ c.if-not-branch.true)

pub returns : goal.returns
returns c = names-end c.args.arity.now c.args.heap.now.objects c.args.drafts.now c.loop-draft.draft-index c.loop-draft.names.keys c.loop-draft-test.false c.loop-draft.invariant
