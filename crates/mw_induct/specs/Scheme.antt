-- A scheme of induction, as references, and the premises that it makes.
use Rattle.std.specs.Prelude.{◌≡◌, ℕ, true, List}
use Rattle.mw_model.specs.Terms.Object.{Object, Pair}
use Rattle.mw_model.specs.Laws.RulesInduction.{length_object, ordinal_object, steps_object, all_falls_object, premises_object}
use Rattle.mw_heap.specs.Objects.{object_at, IsIn}
use Rattle.mw_induct.specs.Pairs.{are_cases_of_pairs}
use Rattle.mw_induct.specs.declared.scheme.Scheme.{Scheme}

-- conditions, and for each of them a list of substitutions
pub record AreCases (os : List Object) (conditions cases : ℕ) : Type 0 where
  pub conditions_within : IsIn os conditions
  pub cases_within : IsIn os cases
  pub as_many : length_object (object_at os conditions) ≡ length_object (object_at os cases)
  pub pairs : are_cases_of_pairs (object_at os cases) ≡ true

pub record IsScheme (os : List Object) (s : Scheme) : Type 0 where
  pub measure : IsIn os s.measure
  pub cases : AreCases os s.conditions s.cases

-- the step premises for the formula a, before the rest
abbrev pub steps_of : List Object → ℕ → Scheme → Object → Object
steps_of os a s rest = steps_object (object_at os a) (object_at os s.conditions) (object_at os s.cases) rest

-- the premises by which the measure falls
abbrev pub falls_of : List Object → Scheme → Object
falls_of os s = all_falls_object (object_at os s.measure) (object_at os s.conditions) (object_at os s.cases)

-- the premises on the measure
abbrev pub measured_of : List Object → Scheme → Object
measured_of os s = Pair (ordinal_object (object_at os s.measure)) (falls_of os s)

-- all premises, for the formula a
abbrev pub premises_of : List Object → ℕ → Scheme → Object
premises_of os a s = premises_object (object_at os a) (object_at os s.measure) (object_at os s.conditions) (object_at os s.cases)
