-- Nothing is shown of what expands.
use Rattle.std.proofs.Common.{◌++◌, refl, sym, ◌∙◌}
use Rattle.mw_model.specs.Events.Expansion.{expand}
use Rattle.mw_heap.specs.Objects.{object_at}
use Rattle.mw_explain.proofs.LookingInRaw.{raw_passes}
use Rattle.mw_explain.proofs.LookingOn.{no_term}
use Rattle.mw_explain.proofs.raw_part.bad_raw.Goals as goal

pub returns-then-branch-clause-bad : goal.returns-then-branch-clause-bad
returns-then-branch-clause-bad c = sym (raw_passes (c.args.newer.now ++ c.args.older.now) (object_at c.args.heap.now.objects c.args.raw) (sym c.in_ok-expands.ensures.expands ∙ c.if-branch.true))

pub loop-part-init : goal.loop-part-init
loop-part-init c = record {
  grows = c.in_ok-expands.ensures.grows;
  within = c.requires;
  none = no_term (expand (c.args.newer.now ++ c.args.older.now) (object_at c.args.heap.now.objects c.args.raw)) (sym c.in_ok-expands.ensures.expands ∙ c.if-branch.false);
  same = refl;
}
