-- The cases of an induction, as references.
use Rattle.std.specs.Prelude.{◌≡◌, true, List}
use Rattle.mw_model.specs.Terms.Object.{Object, NIL}
use Rattle.mw_heap.specs.Objects.{object_at, IsIn}
use Rattle.mw_induct.specs.Pairs.{are_cases_of_pairs}
use Rattle.mw_bad_steps.specs.declared.cases.Cases.{Cases}

-- the lists are in the heap, and each member of the second is a list of lists of pairs
pub record AreCases (os : List Object) (c : Cases) : Type 0 where
  pub conditions : IsIn os c.conditions
  pub substitutions : IsIn os c.substitutions
  pub nil_in : IsIn os c.nil
  pub nil : object_at os c.nil ≡ NIL
  pub pairs : are_cases_of_pairs (object_at os c.substitutions) ≡ true
