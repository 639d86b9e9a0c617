-- The pieces are those of the text.
use Rattle.std.proofs.Common.{◌++◌, ap, ap₂, ◌∙◌}
use Rattle.mw_preamble.proofs.RowsText.{rows_text}
use Rattle.mw_preamble.specs.declared.text.TheConstants.{AFTER}
use Rattle.mw_preamble.proofs.rows.rows_text.Goals as goal

pub returns : goal.returns
returns c =
    c.in_ok-extend_from_slice-2.ensures.items
    ∙ (ap (λ t. t ++ AFTER.now) (c.in_ok-extend_from_slice.ensures.items ∙ ap₂ ◌++◌ c.in_ok-text.ensures.items c.differing.ensures)
    ∙ rows_text c.args.profile)
