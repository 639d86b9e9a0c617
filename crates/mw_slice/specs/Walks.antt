-- A part of an event is met.
use Rattle.std.specs.Prelude.{◌≡◌, ℕ, ◌<◌, ◌≤◌, Bool, true, false, ◌||◌, cond, List, ◌++◌, length, Contains, ◌⊎◌}
use Rattle.mw_model.specs.Terms.Object.{Object}
use Rattle.mw_heap.specs.Objects.{IsIn}
use Rattle.mw_slice.specs.declared.basis.Basis.{Basis}
use Rattle.mw_slice.specs.declared.part.Part.{Part}
use Rattle.mw_slice.specs.Parts.{cell_of, same_part}
use Rattle.mw_slice.specs.Supports.{Support, has, notes, asks, is_atom, asks_itself, IsSame}

-- a part is new to the basis, or was met before
abbrev pub Inserts : Part → Basis → Basis → Bool → Type 0
Inserts part old new true = (has old part ≡ false) × ((p : Part) → has new p ≡ cond (same_part part p) true (has old p)) × ((os : List Object) (s : Support) → notes os new s ≡ (notes os old s || is_atom os s part))
Inserts part old new false = (has old part ≡ true) × ((os : List Object) → IsSame os old new)

module _ (os : List Object) (firsts : List (ℕ × ℕ)) (part : Part) where
  -- of a part that is entered, smaller parts wait that ask for all that it asks for and not in itself
  pub record IsEntered (waited waiting : List Part) : Type 0 where
    pub more : List Part
    pub longer : waiting ≡ waited ++ more
    pub few : length more ≤ 2
    pub inside : (q : Part) → Contains more q → IsIn os (cell_of q)
    pub older : (q : Part) → Contains more q → cell_of q < cell_of part
    pub inner : (s : Support) (q : Part) → Contains more q → asks os firsts s q ≡ true → asks os firsts s part ≡ true
    pub whole : (s : Support) → asks os firsts s part ≡ true → (asks_itself os firsts s part ≡ true) ⊎ ((q : Part) × Contains more q × (asks os firsts s q ≡ true))

  -- a part is met for the first time: what it asks for in itself is noted, and it is entered
  pub record IsMet (old new : Basis) (waited waiting : List Part) : Type 0 where
    pub parts : (p : Part) → has new p ≡ cond (same_part part p) true (has old p)
    pub supports : (s : Support) → notes os new s ≡ (notes os old s || asks_itself os firsts s part)
    pub entered : IsEntered waited waiting

  abbrev pub Meets : Basis → Basis → List Part → List Part → Type 0
  Meets old new waited waiting = ((has old part ≡ true) × IsSame os old new × (waiting ≡ waited)) ⊎ IsMet old new waited waiting
