-- The length beside the cell is that of its object.
use Rattle.std.proofs.Common.{◌≡◌, map, get_or, ap, ap₂, ◌∙◌}
use Rattle.std.proofs.lemmas.List.{get_or-map}
use Rattle.mw_model.specs.Terms.Object.{NIL}
use Rattle.mw_heap.specs.Lengths.{text_told, tail_told, length_of}
use Rattle.mw_heap.specs.Objects.{object_at}
use Rattle.mw_heap.proofs.Measures.{tells_text, tells_tail}
use Rattle.mw_heap.proofs.store.heap.Heap.lengths.Goals as goal

pub returns-clause-text : goal.returns-clause-text
returns-clause-text c =
    let os = c.args.self.now.objects in
    let told = c.index-kept.result.now in
    let kept : c.self.inside.lengths.items ≡ map length_of os = c.self.invariant.measured ∙ ap (λ v. map length_of v.objects) c.self.view_is in
    let at : told ≡ get_or (map length_of os) c.args.x told = c.index-kept.ensures ∙ ap₂ (λ l i. get_or l i told) kept c.index.ensures in
    c.text_told.ensures.told ∙ (ap text_told (at ∙ get_or-map length_of os c.args.x NIL told c.requires) ∙ tells_text (object_at os c.args.x))

pub returns-clause-tail : goal.returns-clause-tail
returns-clause-tail c =
    let os = c.args.self.now.objects in
    let told = c.index-kept.result.now in
    let kept : c.self.inside.lengths.items ≡ map length_of os = c.self.invariant.measured ∙ ap (λ v. map length_of v.objects) c.self.view_is in
    let at : told ≡ get_or (map length_of os) c.args.x told = c.index-kept.ensures ∙ ap₂ (λ l i. get_or l i told) kept c.index.ensures in
    c.tail_told.ensures.told ∙ (ap tail_told (at ∙ get_or-map length_of os c.args.x NIL told c.requires) ∙ tells_tail (object_at os c.args.x))
