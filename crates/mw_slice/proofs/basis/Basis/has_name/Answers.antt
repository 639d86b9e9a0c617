-- An atom by its reference.
use Rattle.std.proofs.Common.{not, sym, ap, ◌∙◌}
use Rattle.mw_heap.specs.Objects.{object_at}
use Rattle.mw_slice.specs.declared.part.Part.TheVariants.{Cell}
use Rattle.mw_slice.proofs.References.{no_pair_met, atom_met}
use Rattle.mw_slice.proofs.basis.Basis.has_name.Goals as goal

pub returns-then-not-is_pair : goal.returns-then-not-is_pair
returns-then-not-is_pair c =
    let os = c.args.heap.now.objects in
    let x = c.args.x in
    c.contains.ensures ∙ atom_met os c.order.ensures.distinct x c.args.self.now.cells.keys c.requires.within (λ r h. c.requires.inside (Cell r) h) (sym c.is_pair.ensures ∙ c.if-not-is_pair.true)

pub returns-else-not-is_pair : goal.returns-else-not-is_pair
returns-else-not-is_pair c =
    let os = c.args.heap.now.objects in
    ap not c.if-not-is_pair.false ∙ sym (no_pair_met os (object_at os c.args.x) c.args.self.now.cells.keys (sym c.is_pair.ensures ∙ c.if-not-is_pair.false))
