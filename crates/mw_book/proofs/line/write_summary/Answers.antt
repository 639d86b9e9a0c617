use Rattle.std.proofs.Common.{◌-◌, [], ◌∷◌, ◌++◌, ap, ◌∙◌}
use Rattle.std.specs.Prelude.{codes}
use Rattle.mw_model.specs.Texts.Printing.{numeral}
use Rattle.mw_book.proofs.Summary.{summary-joined}
use Rattle.mw_book.proofs.line.write_summary.Goals as goal

pub returns : goal.returns
returns c =
    let events = numeral c.args.events in
    let accepted = numeral (c.args.events - c.args.refused) in
    let refused = numeral c.args.refused in
    let level = numeral c.args.level in
    c.in_ok-push.ensures.items
    ∙ ap (λ l. l ++ 10 ∷ []) (c.in_ok-write_text_and_number-4.ensures
    ∙ ap (λ l. l ++ codes " level " ++ level) (c.in_ok-write_text_and_number-3.ensures
    ∙ ap (λ l. l ++ codes " refused " ++ refused) (c.in_ok-write_text_and_number-2.ensures
    ∙ ap (λ l. l ++ codes " accepted " ++ accepted) c.in_ok-write_text_and_number.ensures)))
    ∙ summary-joined c.args.lines.now.items events accepted refused level
