-- What was made is a call of CAR, and the heap grew by each part of it.
use Rattle.std.proofs.Common.{sym, ap₂, ◌∙◌}
use Rattle.mw_model.specs.Terms.Object.{Pair}
use Rattle.mw_heap.proofs.Objects.{Grows-trans, IsIn-Grows, object_at-Grows}
use Rattle.mw_code.proofs.PieceForms.{if_ok-along}
use Rattle.mw_tests_functions.proofs.Forms.{term-grows, car-term}
use Rattle.mw_tests_functions.proofs.terms.car_of.Goals as goal

pub returns-clause-term : goal.returns-clause-term
returns-clause-term c =
    let first = c.nil.new.self.objects in
    let end = c.cons-2.new.self.objects in
    let grows = Grows-trans first c.cons.new.self.objects end c.in_ok-actuals.ensures.grows (Grows-trans c.cons.new.self.objects c.symbol.new.self.objects end c.in_ok-car.ensures.grows c.cons-2.ensures.grows) in
    let x = term-grows c.args.heap.now.objects first c.in_ok-nil.ensures.grows c.args.x c.requires in
    let part = sym (object_at-Grows first end grows c.args.x x.1.within) in
    let actuals = object_at-Grows c.cons.new.self.objects c.symbol.new.self.objects c.in_ok-car.ensures.grows c.in_ok-actuals.actuals c.in_ok-actuals.ensures.made.0 ∙ (c.in_ok-actuals.ensures.made.1 ∙ ap₂ Pair part c.in_ok-nil.ensures.made.1) in
    if_ok-along c.cons-2.result (λ r h. car-term end r c.args.x h.0 (term-grows first end grows c.args.x x) (h.1 ∙ ap₂ Pair c.in_ok-car.ensures.made.1 actuals)) c.cons-2.ensures.made

pub cons-requires-clause-first_in : goal.cons-requires-clause-first_in
cons-requires-clause-first_in c = IsIn-Grows _ _ c.in_ok-nil.ensures.grows _ c.requires.1.within

pub cons-requires-2-clause-second_in : goal.cons-requires-2-clause-second_in
cons-requires-2-clause-second_in c = IsIn-Grows _ _ c.in_ok-car.ensures.grows _ c.in_ok-actuals.ensures.made.0

pub returns-in_err-actuals-clause-grows : goal.returns-in_err-actuals-clause-grows
returns-in_err-actuals-clause-grows c = Grows-trans _ _ _ c.in_ok-nil.ensures.grows c.in_err-actuals.ensures.grows

pub returns-in_err-car-clause-grows : goal.returns-in_err-car-clause-grows
returns-in_err-car-clause-grows c = Grows-trans _ _ _ c.in_ok-nil.ensures.grows (Grows-trans _ _ _ c.in_ok-actuals.ensures.grows c.in_err-car.ensures.grows)

pub returns-clause-grows : goal.returns-clause-grows
returns-clause-grows c = Grows-trans _ _ _ c.in_ok-nil.ensures.grows (Grows-trans _ _ _ c.in_ok-actuals.ensures.grows (Grows-trans _ _ _ c.in_ok-car.ensures.grows c.cons-2.ensures.grows))
