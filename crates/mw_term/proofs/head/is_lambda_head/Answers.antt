-- The head of a lambda call has a body that is a term with no other variables than its formals.
use Rattle.std.proofs.Common.{◌≡◌, Some, None, is_some, option_map, sym, ap, ◌∙◌}
use Rattle.std.proofs.lemmas.Result.{IfOk-weaker}
use Rattle.mw_model.specs.Terms.Object.{Pair}
use Rattle.mw_heap.specs.Objects.{object_at}
use Rattle.mw_term.specs.Parts.{names_at, formals_of}
use Rattle.mw_term.proofs.Heads.{formal_count-no_term, formal_count-no_formals, formal_count-closes}
use Rattle.mw_term.proofs.head.is_lambda_head.Goals as goal

pub returns-then-not-is_term-clause-head : goal.returns-then-not-is_term-clause-head
returns-then-not-is_term-clause-head c = λ A marked.
    let os = c.args.heap.now.objects in
    let shape = c.in-Pair.ensures.shows.2 ∙ ap (Pair (object_at os c.in-Pair.list)) c.in-Pair-view.ensures.shows.2 in
    sym
    (ap is_some
    (formal_count-no_term A (object_at os c.args.word) (object_at os c.args.rest) (object_at os c.in-Pair.list) (object_at os c.in-Pair-view.body) (object_at os c.in-Pair-view.end) shape
    (ap (λ m. m.is_term) (sym (c.mark_at.ensures A os marked)) ∙ (sym c.is_term.ensures ∙ c.if-not-is_term.true))))

pub returns-in-None-clause-head : goal.returns-in-None-clause-head
returns-in-None-clause-head c = λ A marked.
    let os = c.args.heap.now.objects in
    let shape = c.in-Pair.ensures.shows.2 ∙ ap (Pair (object_at os c.in-Pair.list)) c.in-Pair-view.ensures.shows.2 in
    let none : formals_of (object_at os c.in-Pair.list) ≡ None = sym c.in_ok-formals.ensures.formals ∙ ap (option_map (λ s. names_at os s.keys)) c.in-None.is in
    sym (ap is_some (formal_count-no_formals A (object_at os c.args.word) (object_at os c.args.rest) (object_at os c.in-Pair.list) (object_at os c.in-Pair-view.body) (object_at os c.in-Pair-view.end) shape none))

pub returns-in-Some-clause-head : goal.returns-in-Some-clause-head
returns-in-Some-clause-head c = λ A marked.
    let os = c.args.heap.now.objects in
    let xs = names_at os c.in-Some.formals.keys in
    let shape = c.in-Pair.ensures.shows.2 ∙ ap (Pair (object_at os c.in-Pair.list)) c.in-Pair-view.ensures.shows.2 in
    let formals : formals_of (object_at os c.in-Pair.list) ≡ Some xs = sym c.in_ok-formals.ensures.formals ∙ ap (option_map (λ s. names_at os s.keys)) c.in-Some.is in
    let closes =
    formal_count-closes A (object_at os c.args.word) (object_at os c.args.rest) (object_at os c.in-Pair.list) (object_at os c.in-Pair-view.body) (object_at os c.in-Pair-view.end) shape xs formals
    (ap (λ m. m.is_term) (sym (c.mark_at.ensures A os marked)) ∙ (sym c.is_term.ensures ∙ c.if-not-is_term.false))
    (sym c.is_word.ensures ∙ c.if-not-is_word.false)
    (sym c.is_nil.ensures ∙ c.if-not-is_nil.false) in
    IfOk-weaker c.is_closed_body.result _ _ (λ b e. e ∙ sym closes) c.is_closed_body.ensures.closed
