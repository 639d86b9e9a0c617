-- Where to look on.
use Rattle.std.proofs.Common.{sym, ◌∙◌}
use Rattle.mw_explain.proofs.LookingDown.{leads_called, leads_to_body, leads_past_body}
use Rattle.mw_explain.proofs.term_part.bad_inside.Goals as goal

pub returns-then-is_called : goal.returns-then-is_called
returns-then-is_called c = λ h.
    let A = c.args.arity.now in
    let os = c.args.heap.now.objects in
    leads_called A os c.args.x c.in-Pair.head c.in-Pair.actuals c.first_no_term.result c.in-Pair.ensures.shows.2 c.in-Pair.ensures.below.1 (sym c.is_called.ensures ∙ c.if-is_called.true) h (c.first_no_term.ensures A c.requires.marked)

pub returns-then-not-is_term : goal.returns-then-not-is_term
returns-then-not-is_term c = λ h.
    let A = c.args.arity.now in
    let os = c.args.heap.now.objects in
    let third = c.in-Some.ensures in
    leads_to_body A os c.args.x c.in-Pair.head c.in-Pair.actuals c.in-Some.body third.0 third.1 third.2 c.in-Pair.ensures.shows.2 third.3 c.in-Pair.ensures.below.0 third.4 (sym (c.is_term.ensures A os c.requires.marked) ∙ c.if-not-is_term.true) h

pub returns : goal.returns
returns c = λ h.
    let A = c.args.arity.now in
    let os = c.args.heap.now.objects in
    let third = c.in-Some.ensures in
    leads_past_body A os c.args.x c.in-Pair.head c.in-Pair.actuals c.in-Some.body third.0 third.1 third.2 c.first_no_term-2.result c.in-Pair.ensures.shows.2 third.3 c.in-Pair.ensures.below.1 (sym (c.is_term.ensures A os c.requires.marked) ∙ c.if-not-is_term.false) h (c.first_no_term-2.ensures A c.requires.marked)
