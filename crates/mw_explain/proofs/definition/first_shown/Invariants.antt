-- Nothing is shown of the drafts so far.
use Rattle.std.proofs.Common.{◌≡◌, ◌++◌, suc, drop, map}
use Rattle.mw_heap.specs.Objects.{Grows}
use Rattle.mw_heap.specs.Variants.{refusal_of}
use Rattle.mw_define.specs.Blocks.{draft_at}
use Rattle.mw_commands.specs.Commands.Explanation.{draft_shown, first_shown}
use Rattle.mw_explain.proofs.definition.first_shown.Given as goal

abbrev pub invariant-loop-index : goal.invariant-loop-index
invariant-loop-index l = record {
  grows : Grows l.fn.heap.objects l.heap.objects;
  left : first_shown (draft_shown (refusal_of l.reason) l.older (l.newer ++ l.older)) (suc l.index) (map (draft_at l.fn.heap.objects) (drop l.index l.drafts)) ≡ first_shown (draft_shown (refusal_of l.reason) l.older (l.newer ++ l.older)) 1 (map (draft_at l.fn.heap.objects) l.drafts);
}
