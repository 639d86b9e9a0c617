-- One draft after another.
use Rattle.mw_define.proofs.NestedDrafts.{plain-next, plain-end}
use Rattle.mw_define.proofs.nested_call.without_measures.Goals as goal

pub loop-draft-preserved : goal.loop-draft-preserved
loop-draft-preserved c = plain-next c.in_ok-nil.nil c.args.drafts.now c.loop-draft.draft-index c.draft-item.result c.loop-draft.plain.items c.push.new.self.items c.loop-draft-test.true c.draft-item.is c.loop-draft.invariant c.in_ok-push.ensures.items

pub returns-clause-made : goal.returns-clause-made
returns-clause-made c = record {
  nil = c.in_ok-nil.nil;
  nil_in = c.in_ok-nil.ensures.made.0;
  nil_is = c.in_ok-nil.ensures.made.1;
  are = plain-end c.in_ok-nil.nil c.args.drafts.now c.loop-draft.draft-index c.loop-draft.plain.items c.loop-draft-test.false c.loop-draft.invariant;
}
