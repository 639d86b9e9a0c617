-- CAR stays the symbol that it was as CDR is made.
use Rattle.std.proofs.Common.{ap, ◌∙◌}
use Rattle.mw_model.specs.Values.Primitive.{is_symbol}
use Rattle.mw_heap.proofs.Objects.{IsIn-Grows, object_at-Grows}
use Rattle.mw_tests_text.proofs.heap.orders_names.Goals as goal

pub name_of-requires-clause-symbol : goal.name_of-requires-clause-symbol
name_of-requires-clause-symbol c = ap is_symbol (object_at-Grows _ _ c.in_ok-cdr.ensures.grows c.in_ok-car.car c.in_ok-car.ensures.made.0 ∙ c.in_ok-car.ensures.made.1)

pub symbol_less-requires-clause-first_symbol : goal.symbol_less-requires-clause-first_symbol
symbol_less-requires-clause-first_symbol c = ap is_symbol (object_at-Grows _ _ c.in_ok-cdr.ensures.grows c.in_ok-car.car c.in_ok-car.ensures.made.0 ∙ c.in_ok-car.ensures.made.1)

pub symbol_less-requires-2-clause-first_symbol : goal.symbol_less-requires-2-clause-first_symbol
symbol_less-requires-2-clause-first_symbol c = ap is_symbol (object_at-Grows _ _ c.in_ok-cdr.ensures.grows c.in_ok-car.car c.in_ok-car.ensures.made.0 ∙ c.in_ok-car.ensures.made.1)

pub symbol_less-requires-2-clause-second_symbol : goal.symbol_less-requires-2-clause-second_symbol
symbol_less-requires-2-clause-second_symbol c = ap is_symbol (object_at-Grows _ _ c.in_ok-cdr.ensures.grows c.in_ok-car.car c.in_ok-car.ensures.made.0 ∙ c.in_ok-car.ensures.made.1)

pub name_of-requires-clause-within : goal.name_of-requires-clause-within
name_of-requires-clause-within c = IsIn-Grows _ _ c.in_ok-cdr.ensures.grows _ c.in_ok-car.ensures.made.0

pub symbol_less-requires-clause-first_in : goal.symbol_less-requires-clause-first_in
symbol_less-requires-clause-first_in c = IsIn-Grows _ _ c.in_ok-cdr.ensures.grows _ c.in_ok-car.ensures.made.0

pub symbol_less-requires-2-clause-first_in : goal.symbol_less-requires-2-clause-first_in
symbol_less-requires-2-clause-first_in c = IsIn-Grows _ _ c.in_ok-cdr.ensures.grows _ c.in_ok-car.ensures.made.0

pub symbol_less-requires-2-clause-second_in : goal.symbol_less-requires-2-clause-second_in
symbol_less-requires-2-clause-second_in c = IsIn-Grows _ _ c.in_ok-cdr.ensures.grows _ c.in_ok-car.ensures.made.0

pub lengths-requires : goal.lengths-requires
lengths-requires c = IsIn-Grows _ _ c.in_ok-cdr.ensures.grows _ c.in_ok-car.ensures.made.0

pub mark_after-requires-2 : goal.mark_after-requires-2
mark_after-requires-2 c = IsIn-Grows _ _ c.in_ok-cdr.ensures.grows _ c.in_ok-car.ensures.made.0
