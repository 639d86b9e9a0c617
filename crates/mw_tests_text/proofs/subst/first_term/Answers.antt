-- What was made of x and y is a list of two pairs.
use Rattle.std.proofs.Common.{ap, ap₂, ◌∙◌}
use Rattle.mw_model.specs.Terms.Object.{Pair}
use Rattle.mw_heap.proofs.Objects.{Grows-trans, IsIn-Grows, object_at-Grows}
use Rattle.mw_subst.specs.Pairs.{is_list_of_pairs}
use Rattle.mw_tests_text.proofs.subst.first_term.Goals as goal

pub cons-requires-2-clause-second_in : goal.cons-requires-2-clause-second_in
cons-requires-2-clause-second_in c = IsIn-Grows _ _ c.in_ok-later.ensures.grows _ c.in_ok-nil.ensures.made.0

pub cons-requires-3-clause-first_in : goal.cons-requires-3-clause-first_in
cons-requires-3-clause-first_in c = IsIn-Grows _ _ (Grows-trans _ _ _ c.in_ok-nil.ensures.grows (Grows-trans _ _ _ c.in_ok-later.ensures.grows c.in_ok-rest.ensures.grows)) _ c.requires.x_in

pub cons-requires-3-clause-second_in : goal.cons-requires-3-clause-second_in
cons-requires-3-clause-second_in c = IsIn-Grows _ _ (Grows-trans _ _ _ c.in_ok-nil.ensures.grows (Grows-trans _ _ _ c.in_ok-later.ensures.grows c.in_ok-rest.ensures.grows)) _ c.requires.y_in

pub cons-requires-4-clause-second_in : goal.cons-requires-4-clause-second_in
cons-requires-4-clause-second_in c = IsIn-Grows _ _ c.in_ok-first.ensures.grows _ c.in_ok-rest.ensures.made.0

pub sigma_of-requires-clause-pairs : goal.sigma_of-requires-clause-pairs
sigma_of-requires-clause-pairs c =
    let nil = object_at-Grows _ _ c.in_ok-later.ensures.grows c.in_ok-nil.nil c.in_ok-nil.ensures.made.0 ∙ c.in_ok-nil.ensures.made.1 in
    let rest = c.in_ok-rest.ensures.made.1 ∙ ap₂ Pair c.in_ok-later.ensures.made.1 nil in
    let all = object_at-Grows _ _ c.in_ok-first.ensures.grows c.in_ok-rest.rest c.in_ok-rest.ensures.made.0 ∙ rest in
    ap is_list_of_pairs (c.in_ok-s.ensures.made.1 ∙ ap₂ Pair c.in_ok-first.ensures.made.1 all)
