-- What is made in a heap.
use Rattle.std.specs.Prelude.{◌≡◌, List, Result, IfOk}
use Rattle.mw_model.specs.Terms.Object.{Object}
use Rattle.mw_heap.specs.declared.budget.memory.Memory.{Memory}
use Rattle.mw_heap.specs.Objects.{Grows}

-- The heap grows, and what is made is of it and means what is expected.
pub record Makes {X Y : Type 0} (IsOf : List Object → X → Type 0) (meaning : List Object → X → Y) (old new : List Object) (result : Result X Memory) (expected : Y) : Type 0 where
  pub grows : Grows old new
  pub within : IfOk result (IsOf new)
  pub made : IfOk result (λ x. meaning new x ≡ expected)
