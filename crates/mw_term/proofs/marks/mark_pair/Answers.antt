-- A pair's mark comes from its parts' marks.
use Rattle.std.proofs.Common.{is_some, sym, ap, ◌∙◌}
use Rattle.mw_model.specs.Terms.Object.{Pair}
use Rattle.mw_heap.specs.Objects.{object_at}
use Rattle.mw_term.specs.Marking.{mark_of_object, term_count, formal_count}
use Rattle.mw_term.proofs.ListMarks.{mark_is, terms_of_pair, mark_of_lambda}
use Rattle.mw_term.proofs.marks.mark_pair.Goals as goal

pub returns-in_ok-is_lambda_head-in-Symbol-clause-mark : goal.returns-in_ok-is_lambda_head-in-Symbol-clause-mark
returns-in_ok-is_lambda_head-in-Symbol-clause-mark c =
    let os = c.args.heap.now.objects in
    let A = c.args.arity.now in
    let a = object_at os c.args.first in
    let r = object_at os c.args.rest in
    let head = c.mark_at-head.ensures A os c.requires.marked in
    let actuals = c.mark_at-actuals.ensures A os c.requires.marked in
    c.new.ensures
    ∙ mark_is A (Pair a r) _ _ _ _
    c.in_ok-is_call-in-Symbol.ensures
    (c.are_more_terms-is_terms.ensures ∙ terms_of_pair A a r _ _ head actuals)
    (c.is_formula_list.ensures A c.requires.marked)
    (c.in_ok-is_lambda_head-in-Symbol.ensures.head A c.requires.marked)

pub returns-in_ok-is_lambda_call-in-Pair-clause-mark : goal.returns-in_ok-is_lambda_call-in-Pair-clause-mark
returns-in_ok-is_lambda_call-in-Pair-clause-mark c =
    let os = c.args.heap.now.objects in
    let A = c.args.arity.now in
    let a = object_at os c.args.first in
    let r = object_at os c.args.rest in
    let l = object_at os c.in-Pair.field-0 in
    let y = object_at os c.in-Pair.tail in
    let e = c.in-Pair.ensures.shows.2 in
    let head = c.mark_at-head.ensures A os c.requires.marked in
    let actuals = c.mark_at-actuals.ensures A os c.requires.marked in
    let call = c.in_ok-is_lambda_call-in-Pair.ensures A l (c.is_head.ensures ∙ (ap (λ m. m.is_head) head ∙ ap (λ z. is_some (formal_count A z)) e)) (c.is_terms-in-Pair.ensures ∙ ap (λ m. m.is_terms) actuals) in
    let terms = c.are_more_terms-is_terms.ensures ∙ terms_of_pair A a r _ _ head actuals in
    c.no_formula-in-Pair.ensures
    ∙ (mark_of_lambda A l y r _ _ call (terms ∙ ap (λ z. is_some (term_count A (Pair z r))) e) ∙ ap (λ z. mark_of_object A (Pair z r)) (sym e))
