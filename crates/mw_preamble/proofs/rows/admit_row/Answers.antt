-- The name of a row is new, and goes to the table.
use Rattle.std.proofs.Common.{◌∙◌}
use Rattle.mw_preamble.proofs.RowShape.{row_adds}
use Rattle.mw_preamble.proofs.rows.admit_row.Goals as goal

pub add-requires-clause-absent : goal.add-requires-clause-absent
add-requires-clause-absent c =
    (row_adds _ _ _ _ _ _ _ _ c.requires.row c.in-Pair.ensures.shows.2 c.in-Pair-view.ensures.shows.2 c.in-Nat.ensures.shows c.name_of.ensures).absent

pub returns-clause-arity : goal.returns-clause-arity
returns-clause-arity c =
    c.in_ok-add.ensures.added
    ∙ (row_adds _ _ _ _ _ _ _ _ c.requires.row c.in-Pair.ensures.shows.2 c.in-Pair-view.ensures.shows.2 c.in-Nat.ensures.shows c.name_of.ensures).added
