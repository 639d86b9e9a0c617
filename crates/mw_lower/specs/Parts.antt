-- What a derivation is made of, as references.
use Rattle.std.specs.Prelude.{ℕ, ◌<◌, ◌≤◌, List, length, get_or}
use Rattle.mw_model.specs.Terms.Object.{Object}
use Rattle.mw_heap.specs.Objects.{object_at}
use Rattle.mw_proof.specs.Gathered.{IsAmong, AreIn, HasSubproofs, IsMadeOf}

-- the proof, its subproofs, theirs and so on, and no others, in the order of their references: so each is after its subproofs
pub record AreParts (os : List Object) (proof : ℕ) (parts : List ℕ) : Type 0 where
  pub here : IsAmong parts proof
  pub within : AreIn os parts
  pub held : (p : ℕ) → IsAmong parts p → HasSubproofs os parts p
  pub made_of : (p : ℕ) → IsAmong parts p → IsMadeOf (object_at os proof) (object_at os p)
  pub in_order : (i j : ℕ) → i ≤ j → j < length parts → get_or parts i 0 ≤ get_or parts j 0
