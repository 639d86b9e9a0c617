-- One draft after another.
use Rattle.std.proofs.Common.{List, [], Option, sym, ap, ◌∙◌, subst}
use Rattle.mw_model.specs.Events.Admission.{formals_of}
use Rattle.mw_model.specs.Terms.Object.{Name}
use Rattle.mw_define.specs.declared.draft.Draft.{Draft as Given}
use Rattle.mw_heap.specs.Objects.{object_at}
use Rattle.mw_define.specs.Blocks.{Each2, IsCounted}
use Rattle.mw_define.proofs.Members.{all_of-fails, each2-next, each2-end}
use Rattle.mw_define.proofs.NewNames.{draft-in}
use Rattle.mw_define.proofs.block.pairs_of.Goals as goal

pub loop-draft-init : goal.loop-draft-init
loop-draft-init c = subst (Each2 (IsCounted c.args.heap.now.objects) []) (sym c.new-pairs.ensures.items) tt

pub count_of-requires : goal.count_of-requires
count_of-requires c = (draft-in c.args.heap.now.objects c.args.drafts.now c.loop-draft.draft-index c.draft-item.result c.requires c.loop-draft-test.true c.draft-item.is).1

pub loop-draft-preserved : goal.loop-draft-preserved
loop-draft-preserved c =
    each2-next (IsCounted c.args.heap.now.objects) c.args.drafts.now c.loop-draft.draft-index c.draft-item.result (c.draft-item.result.name, c.in-Some.count) c.loop-draft.pairs.items c.push.new.self.items c.loop-draft-test.true c.draft-item.is c.loop-draft.invariant
    (let k = rw c.in-Some.is at c.in_ok-count.ensures in (k.0, k.1, ap (λ n. (c.draft-item.result.name, n)) k.2))
    c.in_ok-push.ensures.items

pub returns-in_default : goal.returns-in_default
returns-in_default c =
    let f : Given → Option (List Name) = λ d. formals_of (object_at c.args.heap.now.objects d.formals) in
    all_of-fails f c.args.drafts.now c.loop-draft.draft-index c.draft-item.result c.loop-draft-test.true (ap f (sym c.draft-item.is) ∙ (rw c.in_default.is at c.in_ok-count.ensures))

pub returns : goal.returns
returns c = each2-end (IsCounted c.args.heap.now.objects) c.args.drafts.now c.loop-draft.draft-index c.loop-draft.pairs.items c.loop-draft-test.false c.loop-draft.invariant
