-- The fate of an event, as the program answers it, and what the kernel goes on with.
use Rattle.std.specs.Prelude.{◌≡◌, ℕ, ◌<◌, List, length, Result, IfOk, OnOk, OnErr}
use Rattle.mw_model.specs.Terms.Object.{Object}
use Rattle.mw_model.specs.Events.Theory.{Theory}
use Rattle.mw_model.specs.Events.Refusal.{Fate, Accepted, Refused}
use Rattle.mw_heap.specs.Objects.{Grows}
use Rattle.mw_heap.specs.declared.budget.memory.Memory.{Memory}
use Rattle.mw_heap.specs.Variants.{refusal_of}
use Rattle.mw_kernel.specs.declared.fate.Fate.{Fate as Outcome}
use Rattle.mw_kernel.specs.declared.fate.Fate.TheVariants as outcome
use Rattle.mw_kernel.specs.Knowledge.{Knowledge, theory_of}

abbrev pub fate_of : Outcome → Fate
fate_of (outcome.Accepted text) = Accepted text
fate_of (outcome.Refused r) = Refused (refusal_of r)

-- An event that is refused, or that shows an object, leaves the heap as large as it was.
abbrev pub KeepsRoom : Outcome → ℕ → ℕ → Type 0
KeepsRoom (outcome.Refused r) old new = new ≡ old
KeepsRoom (outcome.Accepted text) old new = 0 < length text → new ≡ old

-- The objects that there were are still there after an event that is refused.
abbrev pub KeepsObjects : Outcome → List Object → List Object → Type 0
KeepsObjects (outcome.Refused r) old new = Grows old new
KeepsObjects (outcome.Accepted text) old new = Unit {0}

-- It has that fate, and leads to that theory. If memory runs out, the theory stays.
pub record Comes (result : Result Outcome Memory) (old new : Knowledge) (expected : Fate × Theory) : Type 0 where
  pub fate : IfOk result (λ f. fate_of f ≡ expected.0)
  pub theory : OnOk result (theory_of new ≡ expected.1)
  pub err : OnErr result (theory_of new ≡ theory_of old)
  pub steps : new.steps ≡ old.steps
  pub kept : IfOk result (λ f. KeepsRoom f old.needed new.needed)
  pub objects : IfOk result (λ f. KeepsObjects f old.objects new.objects)
