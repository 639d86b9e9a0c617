-- Looking for the first bad step: the proofs that are open on the way to it.
use Rattle.std.specs.Prelude.{◌≡◌, ℕ, suc, ◌<◌, nat_eq, Bool, true, false, List, [], ◌∷◌, ◌++◌, length, map, Option, Some, None, IfSome, ◌⊎◌, option_map}
use Rattle.std.specs.List.{list_any}
use Rattle.mw_model.specs.Terms.Object.{Object, Pair, third_of}
use Rattle.mw_model.specs.Terms.Term.{ArityTable}
use Rattle.mw_model.specs.Values.Primitive.{is_pair}
use Rattle.mw_heap.specs.Objects.{object_at, IsIn}
use Rattle.mw_heap.specs.Parts.{part_at, IsPart}
use Rattle.mw_term.specs.Marking.{ObjectMark, AreMarks}
use Rattle.mw_rules.specs.Basis.{IsBasisIn}
use Rattle.mw_rules.specs.declared.basis.Basis.{Basis}
use Rattle.mw_commands.specs.Commands.ExplanationSteps.{Placed, placed, first_bad}
use Rattle.mw_bad_steps.specs.declared.bad_step.Open.{Open}
use Rattle.mw_bad_steps.specs.declared.bad_step.BadStep.{BadStep}

-- the step that was found, with its place
abbrev pub placed_in : List Object → Option BadStep → Option Placed
placed_in os found = option_map (λ b. placed b.place.items (object_at os b.step)) found

-- all objects of the heap have their marks, and the proof and the basis are in it
pub record MayLook (os : List Object) (proof : ℕ) (b : Basis) (ms : List ObjectMark) : Type 0 where
  pub marks : (A : ArityTable) × AreMarks A os ms
  pub all : length ms ≡ length os
  pub within : IsIn os proof
  pub basis : IsBasisIn os b

abbrev pub IsOpen : List Object → Open → Type 0
IsOpen os w = IsIn os w.proof × IsPart os w.left

-- a proof with all subproofs left
abbrev pub IsUnopened : List Object → ℕ → Open → Type 0
IsUnopened os x w = (w.proof ≡ x) × (part_at os w.left ≡ third_of (object_at os x)) × IfSome w.left (λ r. r < x) × IsPart os w.left × (w.number ≡ 0)

-- the next subproof p, and the cells after it
pub record IsNextOf (os : List Object) (w : Open) (list p more : ℕ) : Type 0 where
  pub left : w.left ≡ Some list
  pub pair : object_at os list ≡ Pair (object_at os p) (object_at os more)
  pub p_in : IsIn os p
  pub more_in : IsIn os more
  pub p_older : p < list
  pub more_older : more < list

-- one more subproof is looked at: it is known to be good, or is opened
pub record Opens (os : List Object) (w : Open) (good : List ℕ) (old new : List Open) : Type 0 where
  pub list : ℕ
  pub p : ℕ
  pub more : ℕ
  pub next : IsNextOf os w list p more
  pub v : Open
  pub v_proof : v.proof ≡ w.proof
  pub v_left : v.left ≡ Some more
  pub v_number : v.number ≡ suc w.number
  pub opened : ((list_any (nat_eq p) good ≡ true) × (new ≡ old ++ v ∷ [])) ⊎ ((u : Open) × IsUnopened os p u × (new ≡ (old ++ v ∷ []) ++ u ∷ []))

abbrev pub Advances : List Object → Open → List ℕ → List Open → List Open → Bool → Type 0
Advances os w good old new true = Opens os w good old new
Advances os w good old new false = (is_pair (part_at os w.left) ≡ false) × (new ≡ old)

abbrev pub number_of : Open → ℕ
number_of w = w.number

-- what is found: nothing, or this step at the place that the path leads to
abbrev pub Finds : (Object → Bool) → List Object → ℕ → List Open → Option ℕ → Type 0
Finds good os proof path None = first_bad good (object_at os proof) ≡ None
Finds good os proof path (Some q) = IsIn os q × (first_bad good (object_at os proof) ≡ Some (placed (map number_of path) (object_at os q)))
