-- A formula is tested by its shape and the marks of its parts.
use Rattle.std.proofs.Common.{◌∙◌, ap, sym}
use Rattle.mw_model.specs.Terms.Object.{Pair}
use Rattle.mw_heap.specs.Objects.{object_at}
use Rattle.mw_heap.proofs.NoPair.{shown_no_pair}
use Rattle.mw_term.proofs.Marked.{is_formula-no_list}
use Rattle.mw_term.proofs.ListMarks.{is_formula-binary_list, is_formula-negation_list}
use Rattle.mw_term.proofs.list.is_formula_list.Goals as goal

pub returns-then-is_nil : goal.returns-then-is_nil
returns-then-is_nil c = λ A marked.
    let os = c.args.heap.now.objects in
    let a = c.in-Pair.a in
    let b = c.in-Pair-view.b in
    let shape = c.in-Pair.ensures.shows.2 ∙ ap (Pair (object_at os a)) c.in-Pair-view.ensures.shows.2 in
    c.is_binary_of.ensures
    ∙ sym
    (is_formula-binary_list A (object_at os c.args.head) (object_at os c.args.rest) (object_at os a) (object_at os b) (object_at os c.in-Pair-view.end) _ _ shape
    (c.mark_at-first.ensures A os marked)
    (c.mark_at.ensures A os marked)
    (sym c.is_nil.ensures ∙ c.if-is_nil.true))

pub returns-then-is_nil-2 : goal.returns-then-is_nil-2
returns-then-is_nil-2 c = λ A marked.
    let os = c.args.heap.now.objects in
    let a = c.in-Pair.a in
    c.is_negation_of.ensures
    ∙ sym
    (is_formula-negation_list A (object_at os c.args.head) (object_at os c.args.rest) (object_at os a) (object_at os c.in-Pair.more) _ c.in-Pair.ensures.shows.2
    (c.mark_at-first.ensures A os marked)
    (sym c.is_nil-in_default-view.ensures ∙ c.if-is_nil-2.true))

pub returns-else-is_nil-2 : goal.returns-else-is_nil-2
returns-else-is_nil-2 c = λ A marked.
    let os = c.args.heap.now.objects in
    let more = object_at os c.in-Pair.more in
    let no_pair = shown_no_pair os _ more c.view-2.ensures.shows c.in_default-view.not-Pair in
    c.if-is_nil-2.false ∙ sym (is_formula-no_list A (object_at os c.args.head) (object_at os c.args.rest) (object_at os c.in-Pair.a) more c.in-Pair.ensures.shows.2 no_pair (sym c.is_nil-in_default-view.ensures ∙ c.if-is_nil-2.false))
