-- The last line of a book without a fault.
use Rattle.std.proofs.Common.{◌++◌, codes, ap, ◌∙◌, append_assoc}
use Rattle.mw_book.specs.Lines.{flat_line}
use Rattle.mw_book.proofs.LastLines.{flattened_refused, flattened_summary}
use Rattle.mw_book.proofs.flat.FlatteningCommandKernel.end.Goals as goal

pub returns-clause-refused : goal.returns-clause-refused
returns-clause-refused c q given h = c.has_others.ensures ∙ flattened_refused c.args.self.now c.args._kernel.now q given h

pub returns-clause-last : goal.returns-clause-last
returns-clause-last c q given h =
    let f = c.args.self.now in
    let before = c.args.lines.now.items in
    let text = flat_line f.events f.written in
    (codes "; " ++ text, flattened_summary f c.args._kernel.now q given h, c.in_ok-write_counts.ensures ∙ ap (λ u. u ++ text) c.in_ok-extend_from_slice.ensures.items ∙ append_assoc before (codes "; ") text)
