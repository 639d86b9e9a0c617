-- A pair that was met is met again.
use Rattle.std.proofs.Common.{nat_eq, inr, refl, ap, ◌∙◌}
use Rattle.std.specs.List.{list_any}
use Rattle.mw_model.specs.Values.Primitive.{is_pair}
use Rattle.mw_print.proofs.Meeting.{from_not, one_stays}
use Rattle.mw_print.proofs.repeats.meet.Goals as goal

pub returns : goal.returns
returns c =
    let x = c.args.x in
    let seen = c.args.seen.now.keys in
    let was = from_not (list_any (nat_eq x) seen) c.in_ok-insert.field-0 c.in_ok-insert.ensures.added c.if-branch.false in
    inr (inr (
      ap is_pair c.in-Pair.ensures.shows.2,
      refl,
      c.in_ok-insert.ensures.keys ∙ one_stays x seen was,
      was,
      c.in_ok-insert-2.ensures.keys,
    ))
