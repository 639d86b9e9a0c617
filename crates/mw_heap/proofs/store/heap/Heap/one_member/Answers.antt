-- The rest is NIL.
use Rattle.std.proofs.Common.{ap, ◌∙◌, sym}
use Rattle.mw_model.specs.Terms.Object.{Pair, NIL}
use Rattle.mw_model.proofs.Names.{same_object-eq}
use Rattle.mw_heap.specs.Objects.{object_at}
use Rattle.mw_heap.proofs.store.heap.Heap.one_member.Goals as goal

pub returns-in-Pair : goal.returns-in-Pair
returns-in-Pair c =
    let os = c.args.self.now.objects in
    let rest_is = same_object-eq (object_at os c.in-Pair.rest) NIL (sym c.is_nil.ensures ∙ c.if-is_nil.true) in
    (c.in-Pair.ensures.shows.2 ∙ ap (Pair (object_at os c.in-Pair.first)) rest_is, c.in-Pair.ensures.below.0)
