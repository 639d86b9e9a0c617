-- The last line of the answers.
use Rattle.std.proofs.Common.{◌-◌, ◌++◌, codes, ap, ◌∙◌, append_assoc}
use Rattle.mw_taut.specs.Counts.{formulas_line}
use Rattle.mw_book.proofs.LastLines.{proved_summary}
use Rattle.mw_book.proofs.taut.ProvingCommandHeap.end.Goals as goal

pub returns-clause-last : goal.returns-clause-last
returns-clause-last c q given h =
    let p = c.args.self.now in
    let before = c.args.lines.now.items in
    let text = formulas_line p.formulas (p.formulas - p.unproved) in
    (codes "; " ++ text, proved_summary p c.args._heap.now q given h, c.in_ok-write_formulas.ensures ∙ ap (λ u. u ++ text) c.in_ok-extend_from_slice.ensures.items ∙ append_assoc before (codes "; ") text)
