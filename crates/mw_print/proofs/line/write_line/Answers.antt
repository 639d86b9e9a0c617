use Rattle.std.proofs.Common.{[], ◌∷◌, ◌++◌, ap, ◌∙◌, append_assoc}
use Rattle.mw_print.proofs.line.write_line.Goals as goal

pub returns : goal.returns
returns c =
    let w = c.in_ok-write_datum.ensures.written in
    (w.0, c.in_ok-write_datum.field-0, w.2, c.in_ok-push.ensures.items ∙ (ap (λ l. l ++ 10 ∷ []) w.1 ∙ append_assoc c.args.lines.now.items w.0 (10 ∷ [])))
