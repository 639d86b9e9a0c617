-- What events rest on, as a walk over their parts finds it.
use Rattle.std.specs.Prelude.{◌≡◌, ℕ, nat_eq, eqb, Bool, true, false, ◌&&◌, ◌||◌, List}
use Rattle.std.specs.List.{list_any}
use Rattle.mw_model.specs.Terms.Object.{Object, Natural, Symbol, Pair, same_object, second_of}
use Rattle.mw_commands.specs.Commands.Slice.{begins_with, some_passes, is_place, occurs, without_name, names_added, theorems_named, sets_profile}
use Rattle.mw_heap.specs.Objects.{object_at, IsIn}
use Rattle.mw_slice.specs.Firsts.{first_by}
use Rattle.mw_slice.specs.declared.basis.Basis.{Basis}
use Rattle.mw_slice.specs.declared.part.Part.{Part}
use Rattle.mw_slice.specs.declared.part.Part.TheVariants.{Cell, Proof, Proofs}
use Rattle.mw_slice.specs.Parts.{cell_of, occurs_in, theorems_in}

-- An event may rest on what adds a name that occurs in it, and on the event that is the first to prove a theorem which it names.
pub data Support : Type 0 where
  Named : Object → Support
  Proved : ℕ → Support

-- y is the atom x
abbrev pub same_atom : Object → Object → Bool
same_atom x (Pair a d) = false
same_atom x (Natural n) = same_object x (Natural n)
same_atom x (Symbol s) = same_object x (Symbol s)

-- the part was met
abbrev pub has : Basis → Part → Bool
has basis (Cell x) = list_any (nat_eq x) basis.cells.keys
has basis (Proof x) = list_any (nat_eq x) basis.proofs.keys
has basis (Proofs x) = list_any (nat_eq x) basis.lists.keys

-- the cells of an event ask for the support
abbrev pub cells_ask : Support → Object → Bool
cells_ask (Named x) e = occurs x (without_name e)
cells_ask (Proved j) e = false

module _ (os : List Object) where
  -- the name was met, or the place noted
  abbrev pub notes : Basis → Support → Bool
  notes basis (Named x) = list_any (λ r. same_atom x (object_at os r)) basis.cells.keys
  notes basis (Proved j) = list_any (nat_eq j) basis.places.keys

  -- whether an event is kept: it is the goal, sets the second profile, or is what a support calls for
  abbrev pub is_asked_for : Basis → ℕ → Object → ℕ → Bool
  is_asked_for basis goal e j = eqb j goal || (sets_profile 2 e || (some_passes (λ f. notes basis (Named f)) (names_added e) || notes basis (Proved j)))

  -- the part is the atom that the support names
  abbrev pub is_atom : Support → Part → Bool
  is_atom (Named x) (Cell r) = same_atom x (object_at os r)
  is_atom (Named x) (Proof r) = false
  is_atom (Named x) (Proofs r) = false
  is_atom (Proved j) p = false

  -- the cells of the parts met
  abbrev pub IsInside : Basis → Type 0
  IsInside basis = (p : Part) → has basis p ≡ true → IsIn os (cell_of p)

  -- nothing new
  pub record IsSame (old new : Basis) : Type 0 where
    pub parts : (p : Part) → has new p ≡ has old p
    pub supports : (s : Support) → notes new s ≡ notes old s

  module _ (firsts : List (ℕ × ℕ)) where
    -- the formula is first proved at the place
    abbrev pub names_place : ℕ → Object → Bool
    names_place j c = is_place (first_by os firsts c) j

    -- the event asks for the support; a part of it does; a part does so in itself, whatever is within it
    abbrev pub event_asks : Support → Object → Bool
    event_asks (Named x) e = occurs x (without_name e)
    event_asks (Proved j) e = some_passes (names_place j) (theorems_named e)

    abbrev pub asks : Support → Part → Bool
    asks (Named x) p = occurs_in os x p
    asks (Proved j) p = some_passes (names_place j) (theorems_in os p)

    -- a step by THEOREM names what the place is first to prove
    abbrev pub names_theorem : Support → Part → Bool
    names_theorem (Proved j) (Proof r) = begins_with "THEOREM" (object_at os r) && names_place j (second_of (object_at os r))
    names_theorem (Proved j) (Cell r) = false
    names_theorem (Proved j) (Proofs r) = false
    names_theorem (Named x) p = false

    abbrev pub asks_itself : Support → Part → Bool
    asks_itself s p = is_atom s p || names_theorem s p

    -- all that the parts met ask for is noted
    pub record IsBasis (basis : Basis) : Type 0 where
      pub inside : IsInside basis
      pub closed : (s : Support) (p : Part) → has basis p ≡ true → asks s p ≡ true → notes basis s ≡ true
