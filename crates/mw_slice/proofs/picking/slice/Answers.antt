-- As a switch comes before the goal, or does not.
use Rattle.std.proofs.Common.{true, false, sym, ◌∙◌}
use Rattle.mw_slice.proofs.Keeping.{slice_by}
use Rattle.mw_slice.proofs.picking.slice.Goals as goal

pub returns-then-has_switch : goal.returns-then-has_switch
returns-then-has_switch c =
    c.reversed.ensures ∙ (c.in_ok-changing.ensures ∙ slice_by c.args.heaps.now c.args.added.now c.args.goal true (sym c.if-has_switch.true ∙ c.has_switch.ensures))

pub returns : goal.returns
returns c =
    c.reversed-2.ensures ∙ (c.in_ok-needed.ensures ∙ slice_by c.args.heaps.now c.args.added.now c.args.goal false (sym c.if-has_switch.false ∙ c.has_switch.ensures))
