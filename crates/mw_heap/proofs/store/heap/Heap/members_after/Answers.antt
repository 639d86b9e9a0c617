-- The three views, and that the first part is the symbol and the last is NIL, make the list.
use Rattle.std.proofs.Common.{sym, ap, ap₂, ◌∙◌}
use Rattle.mw_model.specs.Terms.Object.{Pair, NIL}
use Rattle.mw_model.proofs.Names.{same_object-eq}
use Rattle.mw_heap.specs.Objects.{object_at}
use Rattle.mw_heap.specs.Words.{word_object}
use Rattle.mw_heap.proofs.store.heap.Heap.members_after.Goals as goal

pub returns-then-is_nil-clause-members : goal.returns-then-is_nil-clause-members
returns-then-is_nil-clause-members c =
    let os = c.args.self.now.objects in
    let head = same_object-eq (object_at os c.in-Pair.head) (word_object c.args.word) (sym c.is_word.ensures ∙ c.if-is_word.true) in
    let end = same_object-eq (object_at os c.in-Pair-view-2.end) NIL (sym c.is_nil.ensures ∙ c.if-is_nil.true) in
    let third = c.in-Pair-view-2.ensures.shows.2 ∙ ap (Pair (object_at os c.in-Pair-view-2.second)) end in
    let second = c.in-Pair-view.ensures.shows.2 ∙ ap (Pair (object_at os c.in-Pair-view.first)) third in
    c.in-Pair.ensures.shows.2 ∙ ap₂ Pair head second
