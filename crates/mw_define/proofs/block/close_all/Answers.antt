-- One draft after another.
use Rattle.std.proofs.Common.{[], sym, subst}
use Rattle.mw_define.specs.Blocks.{Each2, IsClosedEntry}
use Rattle.mw_define.proofs.Members.{each2-next, each2-end}
use Rattle.mw_define.proofs.Expanding.{expanded-at, closed-fails}
use Rattle.mw_define.proofs.block.close_all.Goals as goal

pub loop-draft-init : goal.loop-draft-init
loop-draft-init c = subst (Each2 (IsClosedEntry c.args.heap.now.objects) []) (sym c.new-entries.ensures.items) tt

pub close-requires : goal.close-requires
close-requires c = expanded-at c.args.heap.now.objects c.args.expanded.now c.loop-draft.draft-index c.draft-item.result c.requires c.loop-draft-test.true c.draft-item.is

pub loop-draft-preserved : goal.loop-draft-preserved
loop-draft-preserved c =
    each2-next (IsClosedEntry c.args.heap.now.objects) c.args.expanded.now c.loop-draft.draft-index c.draft-item.result c.in-Some.entry c.loop-draft.entries.items c.push.new.self.items c.loop-draft-test.true c.draft-item.is c.loop-draft.invariant
    (rw c.in-Some.is at c.in_ok-entry.ensures)
    c.in_ok-push.ensures.items

pub returns-in_default : goal.returns-in_default
returns-in_default c = closed-fails c.args.heap.now.objects c.args.expanded.now c.loop-draft.draft-index c.draft-item.result c.loop-draft-test.true c.draft-item.is (rw c.in_default.is at c.in_ok-entry.ensures)

pub returns : goal.returns
returns c = each2-end (IsClosedEntry c.args.heap.now.objects) c.args.expanded.now c.loop-draft.draft-index c.loop-draft.entries.items c.loop-draft-test.false c.loop-draft.invariant
