-- Where formulas are first proved, by reference.
use Rattle.std.specs.Prelude.{◌≡◌, ℕ, Bool, ◌&&◌, List, [], Option, Some, None, All, Contains}
use Rattle.std.specs.Map.{keys_of, lookup}
use Rattle.mw_model.specs.Terms.Object.{Object, same_object, third_of}
use Rattle.mw_commands.specs.Commands.Slice.{begins_with, event_at, first_proof, theorems_named}
use Rattle.mw_heap.specs.Objects.{object_at, IsIn}

-- references of the heap, each with a place
abbrev pub AreFirsts : List Object → List (ℕ × ℕ) → Type 0
AreFirsts os firsts = All (IsIn os) (keys_of firsts)

-- where the formula is first proved
abbrev pub first_by : List Object → List (ℕ × ℕ) → Object → Option ℕ
first_by os firsts c = lookup (λ r. same_object c (object_at os r)) firsts

-- the event proves the formula
abbrev pub proves : Object → Object → Bool
proves c e = begins_with "VERIFY" e && same_object (third_of e) c

-- the earlier of two places, where there is one
abbrev pub first_or : Option ℕ → Option ℕ → Option ℕ
first_or None later = later
first_or (Some i) later = Some i

-- the formulas that events' proofs name have their places
abbrev pub IsIndex : List Object → List (ℕ × ℕ) → List Object → Type 0
IsIndex os firsts es = (i : ℕ) (c : Object) → Contains (theorems_named (event_at es i)) c → first_by os firsts c ≡ first_proof es c

-- no event of the heap has a proof that names a theorem
abbrev pub NamesNone : List Object → Type 0
NamesNone os = (r : ℕ) → IsIn os r → theorems_named (object_at os r) ≡ []
