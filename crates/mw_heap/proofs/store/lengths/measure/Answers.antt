-- A symbol is measured by its name.
use Rattle.std.proofs.Common.{◌≡◌, length, get_or, ◌<◌, sym, ap, ◌∙◌, subst, arith}
use Rattle.mw_model.specs.Terms.Object.{Symbol, name_of_bytes}
use Rattle.mw_heap.specs.Lengths.{length_of, IsMeasurable}
use Rattle.mw_heap.specs.Cells.{bytes_of, object}
use Rattle.mw_heap.proofs.NameSet.{length-bytes_of, get_or-bytes_of}
use Rattle.mw_heap.proofs.store.lengths.measure.Goals as goal

pub returns-in-Symbol : goal.returns-in-Symbol
returns-in-Symbol c os e =
    let names = c.args.names.now.keys in
    let name = c.index-as_slice-i.result in
    let measurable = subst (IsMeasurable c.args.naturals.now.keys (bytes_of names) c.args.lengths.now) c.in-Symbol.is c.requires in
    let within : c.in-Symbol.i < length names = omega (arith, measurable.0, length-bytes_of names) in
    let at : name ≡ get_or names c.in-Symbol.i name = c.index-as_slice-i.is ∙ ap (λ l. get_or l c.in-Symbol.i name) c.as_slice-in-Symbol.ensures.keys in
    let bytes = c.as_slice-in-Symbol-2.ensures.value ∙ sym (get_or-bytes_of names c.in-Symbol.i name within at) in
    c.symbol_length.ensures ∙ (ap (λ b. length_of (Symbol (name_of_bytes b))) bytes ∙ ap (λ k. length_of (object c.args.naturals.now.keys (bytes_of names) os k)) (sym c.in-Symbol.is))
