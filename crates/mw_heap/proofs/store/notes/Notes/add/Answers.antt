-- The index of the new entry is written at the place of its cell.
use Rattle.std.proofs.Common.{◌≡◌, ◌<◌, None, nat_eq, length, set, slice_get, sym, ap, ap₂, ◌∙◌, arith}
use Rattle.std.specs.Map.{lookup}
use Rattle.mw_heap.specs.Indices.{AreIndexed}
use Rattle.mw_heap.proofs.Indices.{indexed-push}
use Rattle.mw_heap.proofs.store.notes.Notes.add.Goals as goal

pub invariant_of-self-2 : goal.invariant_of-self-2
invariant_of-self-2 c = λ index cell note at.
    let x = c.args.x in
    let entries = c.self.inside.entries.items in
    let indices = c.make_room.new.indices.items in
    let indexed : AreIndexed entries indices = λ i y n h. c.make_room.ensures.kept y i (c.self.invariant i y n h) in
    let none : lookup (nat_eq x) entries ≡ None = ap (lookup (nat_eq x)) c.self.view_is ∙ c.requires.new in
    let within : x < length indices = omega (arith, c.in_ok-make_room.ensures.room) in
    let last : c.in-Ok.index ≡ length entries = omega (arith, c.in-Ok.ensures, c.len.ensures) in
    ap₂ (λ p i. slice_get (set indices p i) cell) c.index.ensures last
    ∙ indexed-push entries indices x c.args.note indexed none within index cell note (ap (λ l. slice_get l index) (sym c.in_ok-push.ensures.items) ∙ at)
