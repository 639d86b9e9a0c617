-- What was made is a sum, and the heap grew by each part of it.
use Rattle.std.proofs.Common.{sym, ap₂, ◌∙◌}
use Rattle.mw_model.specs.Terms.Object.{Pair}
use Rattle.mw_heap.proofs.Objects.{Grows-trans, IsIn-Grows, object_at-Grows}
use Rattle.mw_code.proofs.PieceForms.{if_ok-along}
use Rattle.mw_tests_functions.proofs.Forms.{term-grows, sum-term}
use Rattle.mw_tests_functions.proofs.terms.sum_of.Goals as goal

pub returns-clause-term : goal.returns-clause-term
returns-clause-term c =
    let first = c.nil.new.self.objects in
    let second = c.cons.new.self.objects in
    let third = c.cons-2.new.self.objects in
    let end = c.cons-3.new.self.objects in
    let later = Grows-trans second third end c.in_ok-actuals.ensures.grows (Grows-trans third c.symbol.new.self.objects end c.in_ok-plus.ensures.grows c.cons-3.ensures.grows) in
    let grows = Grows-trans first second end c.in_ok-last.ensures.grows later in
    let x = term-grows first second c.in_ok-last.ensures.grows c.args.x (term-grows c.args.heap.now.objects first c.in_ok-nil.ensures.grows c.args.x c.requires.first) in
    let y = term-grows c.args.heap.now.objects first c.in_ok-nil.ensures.grows c.args.y c.requires.second in
    let last = c.in_ok-last.ensures.made.1 ∙ ap₂ Pair (sym (object_at-Grows first end grows c.args.y y.1.within)) c.in_ok-nil.ensures.made.1 in
    let actuals = object_at-Grows third c.symbol.new.self.objects c.in_ok-plus.ensures.grows c.in_ok-actuals.actuals c.in_ok-actuals.ensures.made.0
    ∙ (c.in_ok-actuals.ensures.made.1 ∙ ap₂ Pair (sym (object_at-Grows second end later c.args.x x.1.within)) last) in
    if_ok-along c.cons-3.result (λ r h. sum-term end r c.args.x c.args.y h.0 (term-grows second end later c.args.x x) (term-grows first end grows c.args.y y) (h.1 ∙ ap₂ Pair c.in_ok-plus.ensures.made.1 actuals)) c.cons-3.ensures.made

pub cons-requires-clause-first_in : goal.cons-requires-clause-first_in
cons-requires-clause-first_in c = IsIn-Grows _ _ c.in_ok-nil.ensures.grows _ c.requires.second.1.within

pub cons-requires-2-clause-first_in : goal.cons-requires-2-clause-first_in
cons-requires-2-clause-first_in c = IsIn-Grows _ _ (Grows-trans _ _ _ c.in_ok-nil.ensures.grows c.in_ok-last.ensures.grows) _ c.requires.first.1.within

pub cons-requires-3-clause-second_in : goal.cons-requires-3-clause-second_in
cons-requires-3-clause-second_in c = IsIn-Grows _ _ c.in_ok-plus.ensures.grows _ c.in_ok-actuals.ensures.made.0

pub returns-in_err-last-clause-grows : goal.returns-in_err-last-clause-grows
returns-in_err-last-clause-grows c = Grows-trans _ _ _ c.in_ok-nil.ensures.grows c.in_err-last.ensures.grows

pub returns-in_err-actuals-clause-grows : goal.returns-in_err-actuals-clause-grows
returns-in_err-actuals-clause-grows c = Grows-trans _ _ _ c.in_ok-nil.ensures.grows (Grows-trans _ _ _ c.in_ok-last.ensures.grows c.in_err-actuals.ensures.grows)

pub returns-in_err-plus-clause-grows : goal.returns-in_err-plus-clause-grows
returns-in_err-plus-clause-grows c = Grows-trans _ _ _ c.in_ok-nil.ensures.grows (Grows-trans _ _ _ c.in_ok-last.ensures.grows (Grows-trans _ _ _ c.in_ok-actuals.ensures.grows c.in_err-plus.ensures.grows))

pub returns-clause-grows : goal.returns-clause-grows
returns-clause-grows c = Grows-trans _ _ _ c.in_ok-nil.ensures.grows (Grows-trans _ _ _ c.in_ok-last.ensures.grows (Grows-trans _ _ _ c.in_ok-actuals.ensures.grows (Grows-trans _ _ _ c.in_ok-plus.ensures.grows c.cons-3.ensures.grows)))
