-- One draft after another.
use Rattle.std.proofs.Common.{[], ◌++◌, sym, subst}
use Rattle.mw_heap.proofs.Objects.{Grows-refl, Grows-trans}
use Rattle.mw_define.specs.Blocks.{Each2, Expands}
use Rattle.mw_define.proofs.NewNames.{draft-in}
use Rattle.mw_define.proofs.Expanding.{draft-Grows, expanded-next, expanded-fails, expanded-end}
use Rattle.mw_define.proofs.block.expand_each.Goals as goal

pub loop-draft-init : goal.loop-draft-init
loop-draft-init c =
    let os = c.args.heap.now.objects in
    record { grows = Grows-refl os; each = subst (Each2 (Expands (c.args.newer.now ++ c.args.older.now) c.args.older.now os os) []) (sym c.new-expanded.ensures.items) tt }

pub expand_draft-requires : goal.expand_draft-requires
expand_draft-requires c =
    draft-Grows c.args.heap.now.objects c.loop-draft.heap.objects c.loop-draft.invariant.grows c.draft-item.result
    (draft-in c.args.heap.now.objects c.args.drafts.now c.loop-draft.draft-index c.draft-item.result c.requires c.loop-draft-test.true c.draft-item.is)

pub loop-draft-preserved : goal.loop-draft-preserved
loop-draft-preserved c =
    expanded-next (c.args.newer.now ++ c.args.older.now) c.args.older.now c.args.heap.now.objects c.loop-draft.heap.objects c.expand_draft.new.heap.objects c.args.drafts.now c.loop-draft.draft-index c.draft-item.result c.loop-draft-test.true c.draft-item.is
    (draft-in c.args.heap.now.objects c.args.drafts.now c.loop-draft.draft-index c.draft-item.result c.requires c.loop-draft-test.true c.draft-item.is)
    c.loop-draft.expanded.items c.push.new.self.items c.in-Some.next c.loop-draft.invariant c.in_ok-next.ensures.grows (rw c.in-Some.is at c.in_ok-next.ensures.expanded) c.in_ok-push.ensures.items

pub returns-in_err-next-clause-grows : goal.returns-in_err-next-clause-grows
returns-in_err-next-clause-grows c = Grows-trans c.args.heap.now.objects c.loop-draft.heap.objects c.expand_draft.new.heap.objects c.loop-draft.invariant.grows c.expand_draft.ensures.grows

pub returns-in_err-push-clause-grows : goal.returns-in_err-push-clause-grows
returns-in_err-push-clause-grows c = Grows-trans c.args.heap.now.objects c.loop-draft.heap.objects c.expand_draft.new.heap.objects c.loop-draft.invariant.grows c.expand_draft.ensures.grows

pub returns-in_default-clause-grows : goal.returns-in_default-clause-grows
returns-in_default-clause-grows c = Grows-trans c.args.heap.now.objects c.loop-draft.heap.objects c.expand_draft.new.heap.objects c.loop-draft.invariant.grows c.in_ok-next.ensures.grows

pub returns-in_default-clause-expanded : goal.returns-in_default-clause-expanded
returns-in_default-clause-expanded c =
    expanded-fails (c.args.newer.now ++ c.args.older.now) c.args.older.now c.args.heap.now.objects c.loop-draft.heap.objects c.expand_draft.new.heap.objects c.args.drafts.now c.loop-draft.draft-index c.draft-item.result c.loop-draft-test.true c.draft-item.is
    (draft-in c.args.heap.now.objects c.args.drafts.now c.loop-draft.draft-index c.draft-item.result c.requires c.loop-draft-test.true c.draft-item.is)
    c.loop-draft.invariant.grows (rw c.in_default.is at c.in_ok-next.ensures.expanded)

pub returns-clause-grows : goal.returns-clause-grows
returns-clause-grows c = c.loop-draft.invariant.grows

pub returns-clause-expanded : goal.returns-clause-expanded
returns-clause-expanded c = expanded-end (c.args.newer.now ++ c.args.older.now) c.args.older.now c.args.heap.now.objects c.loop-draft.heap.objects c.args.drafts.now c.loop-draft.draft-index c.loop-draft.expanded.items c.loop-draft-test.false c.loop-draft.invariant
