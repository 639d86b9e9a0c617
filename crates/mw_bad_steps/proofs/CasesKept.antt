-- The cases of an induction stay so as the heap grows.
use Rattle.std.proofs.Common.{◌≡◌, true, List, ap, ◌∙◌}
use Rattle.mw_model.specs.Terms.Object.{Object, NIL}
use Rattle.mw_heap.specs.Objects.{object_at, IsIn, Grows}
use Rattle.mw_heap.proofs.Objects.{IsIn-Grows, object_at-Grows}
use Rattle.mw_induct.specs.Pairs.{are_cases_of_pairs}
use Rattle.mw_bad_steps.specs.Cases.{AreCases}
use Rattle.mw_bad_steps.specs.declared.cases.Cases.{Cases}

pub AreCases-Grows : (old new : List Object) (c : Cases) → Grows old new → AreCases old c → AreCases new c
AreCases-Grows old new c g h = record {
  conditions = IsIn-Grows old new g c.conditions h.conditions;
  substitutions = IsIn-Grows old new g c.substitutions h.substitutions;
  nil_in = IsIn-Grows old new g c.nil h.nil_in;
  nil = object_at-Grows old new g c.nil h.nil_in ∙ h.nil;
  pairs = ap are_cases_of_pairs (object_at-Grows old new g c.substitutions h.substitutions) ∙ h.pairs;
}

-- the cases that begin an induction, where NIL was made after them
pub cases_begun : (old new : List Object) (c : Cases) → Grows old new → IsIn old c.conditions → IsIn old c.substitutions → are_cases_of_pairs (object_at old c.substitutions) ≡ true → IsIn new c.nil → object_at new c.nil ≡ NIL → AreCases new c
cases_begun old new c g conditions_in cases_in pairs nil_in is = record {
  conditions = IsIn-Grows old new g c.conditions conditions_in;
  substitutions = IsIn-Grows old new g c.substitutions cases_in;
  nil_in = nil_in;
  nil = is;
  pairs = ap are_cases_of_pairs (object_at-Grows old new g c.substitutions cases_in) ∙ pairs;
}
