-- What was made stays as more is made.
use Rattle.mw_heap.proofs.Objects.{IsIn-Grows}
use Rattle.mw_tests_text.proofs.heap.keeps_a_pair_once.Goals as goal

pub cons-requires-2-clause-first_in : goal.cons-requires-2-clause-first_in
cons-requires-2-clause-first_in c = IsIn-Grows _ _ c.in_ok-pair.ensures.grows _ c.in_ok-large.ensures.made.0

pub cons-requires-2-clause-second_in : goal.cons-requires-2-clause-second_in
cons-requires-2-clause-second_in c = IsIn-Grows _ _ c.in_ok-pair.ensures.grows _ c.in_ok-large.ensures.made.0

pub view-requires : goal.view-requires
view-requires c = IsIn-Grows _ _ c.in_ok-again.ensures.grows _ (IsIn-Grows _ _ c.in_ok-pair.ensures.grows _ c.in_ok-large.ensures.made.0)

pub view-requires-2 : goal.view-requires-2
view-requires-2 c = IsIn-Grows _ _ c.in_ok-again.ensures.grows _ c.in_ok-pair.ensures.made.0

pub same-is_same-requires-clause-first_in : goal.same-is_same-requires-clause-first_in
same-is_same-requires-clause-first_in c = IsIn-Grows _ _ c.in_ok-again.ensures.grows _ c.in_ok-pair.ensures.made.0
