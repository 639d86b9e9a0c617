-- A cell that is new goes last, and its length beside it; if memory runs out for that, the cell is taken out again.
use Rattle.std.proofs.Common.{◌≡◌, length, take, sym, ap, ◌∙◌, subst, arith, inr}
use Rattle.mw_heap.specs.Cells.{bytes_of}
use Rattle.mw_heap.specs.Lengths.{IsLengthOf}
use Rattle.mw_heap.proofs.Sound.{take-Inserts, length-Inserts, last-Inserts}
use Rattle.mw_heap.proofs.store.sets.insert_measured.Goals as goal

pub returns-in-Ok-clause-measured : goal.returns-in-Ok-clause-measured
returns-in-Ok-clause-measured c =
    let had : c.len-had.result ≡ length c.args.cells.now.keys = c.len-had.ensures ∙ c.requires.all in
    let last = last-Inserts _ _ _ _ c.in_ok-made.ensures.inserted (λ e. c.if-len-had.false (c.len.ensures.len ∙ (e ∙ sym had))) in
    let measured = subst (λ l. IsLengthOf c.args.naturals.now.keys (bytes_of c.args.names.now.keys) l c.args.cell c.measure-measured.result) c.deref.ensures.value c.measure-measured.ensures in
    inr (last, c.measure-measured.result, c.in-Ok.ensures.items, measured)

pub returns-in-Ok-clause-numbers : goal.returns-in-Ok-clause-numbers
returns-in-Ok-clause-numbers c = length-Inserts _ _ _ _ c.in_ok-made.ensures.inserted

pub returns-in-Err-clause-err : goal.returns-in-Err-clause-err
returns-in-Err-clause-err c =
    let had : c.len-had.result ≡ length c.args.cells.now.keys = c.len-had.ensures ∙ c.requires.all in
    c.truncate.ensures.keys ∙ (ap (λ n. take n c.insert_cell.new.cells.keys) had ∙ take-Inserts _ _ _ _ c.in_ok-made.ensures.inserted)

pub returns-in-Err-clause-numbers : goal.returns-in-Err-clause-numbers
returns-in-Err-clause-numbers c = omega (arith, ap length (returns-in-Err-clause-err c))
