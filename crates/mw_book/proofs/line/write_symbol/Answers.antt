use Rattle.std.proofs.Common.{◌++◌, sym, ap, ◌∙◌}
use Rattle.mw_heap.specs.Objects.{object_at}
use Rattle.mw_book.proofs.Symbols.{symbol_text-short, symbol_text-long}
use Rattle.mw_book.proofs.line.write_symbol.Goals as goal

pub returns-in-Ok : goal.returns-in-Ok
returns-in-Ok c =
    let x = object_at c.args.heap.now.objects c.args.x in
    c.in-Ok.ensures.1 ∙ ap (λ t. c.args.lines.now.items ++ t) (sym (symbol_text-short x c.requires.symbol c.in-Ok.ensures.0))

pub returns-in-Long : goal.returns-in-Long
returns-in-Long c =
    let x = object_at c.args.heap.now.objects c.args.x in
    rw (symbol_text-long x c.requires.symbol c.in-Long.ensures.0, ← c.in-Long.ensures.1) c.write_dash.ensures
