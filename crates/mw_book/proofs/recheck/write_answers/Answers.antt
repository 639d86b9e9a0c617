use Rattle.std.proofs.Common.{◌-◌, [], ◌∷◌, ◌++◌, ap, ◌∙◌}
use Rattle.std.specs.Prelude.{codes}
use Rattle.mw_model.specs.Texts.Printing.{numeral}
use Rattle.mw_book.proofs.Summary.{answers-joined}
use Rattle.mw_book.proofs.recheck.write_answers.Goals as goal

pub returns : goal.returns
returns c =
    let events = numeral c.args.events in
    let passed = numeral (c.args.events - c.args.denied) in
    let denied = numeral c.args.denied in
    let left = numeral c.args.left in
    c.in_ok-push.ensures.items
    ∙ ap (λ l. l ++ 10 ∷ []) (c.in_ok-write_text_and_number-4.ensures
    ∙ ap (λ l. l ++ codes " left " ++ left) (c.in_ok-write_text_and_number-3.ensures
    ∙ ap (λ l. l ++ codes " no " ++ denied) (c.in_ok-write_text_and_number-2.ensures
    ∙ ap (λ l. l ++ codes " yes " ++ passed) c.in_ok-write_text_and_number.ensures)))
    ∙ answers-joined c.args.lines.now.items events passed denied left
