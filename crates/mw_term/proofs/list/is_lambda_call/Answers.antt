-- A lambda call has a head, and as many actuals as the head has formals.
use Rattle.std.proofs.Common.{true, is_some, sym, ap, ◌∙◌}
use Rattle.std.proofs.lemmas.Result.{IfOk-weaker}
use Rattle.mw_model.specs.Terms.Object.{Pair}
use Rattle.mw_model.specs.Laws.Rules.{is_term_object}
use Rattle.mw_heap.specs.Objects.{object_at}
use Rattle.mw_heap.proofs.NoPair.{shown_no_pair}
use Rattle.mw_term.specs.Marking.{formal_count}
use Rattle.mw_term.proofs.ListLengths.{is_term-lambda_lengths, is_term-no_head, is_term-no_terms, no_head-no_pair}
use Rattle.mw_term.proofs.list.is_lambda_call.Goals as goal

pub returns-then-not-is_head : goal.returns-then-not-is_head
returns-then-not-is_head c = λ A l h t. sym (is_term-no_head A l _ _ (sym c.if-not-is_head.true ∙ h))

pub returns-then-not-are_terms : goal.returns-then-not-are_terms
returns-then-not-are_terms c = λ A l h t. sym (is_term-no_terms A l _ _ (sym c.if-not-are_terms.true ∙ t))

pub returns-in-Pair : goal.returns-in-Pair
returns-in-Pair c = λ A l h t.
    let os = c.args.heap.now.objects in
    let tail = c.in-Pair.ensures.shows.2 in
    let rest = object_at os c.args.rest in
    let call =
    ap (λ y. is_term_object A (Pair (Pair l y) rest)) tail
    ∙ is_term-lambda_lengths A l _ _ rest true true (sym c.if-not-is_head.false ∙ (h ∙ ap (λ y. is_some (formal_count A (Pair l y))) tail)) (sym c.if-not-are_terms.false ∙ t) in
    IfOk-weaker c.are_as_long.result _ _ (λ b e. e ∙ sym call) c.are_as_long.ensures

pub returns-in_default : goal.returns-in_default
returns-in_default c = λ A l h t.
    let os = c.args.heap.now.objects in
    let tail = object_at os c.args.tail in
    sym (is_term-no_head A l tail _ (sym (no_head-no_pair A l tail (shown_no_pair os _ _ c.view.ensures.shows c.in_default.not-Pair))))
