-- One step of a substitution.
use Rattle.std.specs.Prelude.{◌≡◌, ℕ, ◌+◌, ◌<◌, List, [], ◌∷◌, ◌++◌, Option, Some, None, ◌⊎◌}
use Rattle.mw_model.specs.Terms.Object.{Object}
use Rattle.mw_heap.specs.Objects.{object_at, IsIn}
use Rattle.mw_subst.specs.declared.part.Part.{Part}
use Rattle.mw_subst.specs.declared.memo.Memo.{Memo}
use Rattle.mw_subst.specs.declared.walk.Progress.{Progress}
use Rattle.mw_subst.specs.declared.walk.Progress.TheVariants.{Made, Wants}
use Rattle.mw_subst.specs.Memo.{cell_of, other_kind, substituted, found, IsFound, Adds}
use Rattle.mw_subst.specs.Reached.{Needs}

-- the part is made from what it needs, or a smaller part that it needs and that was not made is wanted first
abbrev pub IsStep : List Object → List Object → Object → List (ℕ × ℕ) → List (ℕ × ℕ) → Part → Progress → Type 0
IsStep old new s terms lists part (Made r) = IsIn new r × (object_at new r ≡ substituted s part (object_at old (cell_of part))) × ((q : Part) → Needs old part q → IsFound terms lists q)
IsStep old new s terms lists part (Wants inner) = (cell_of inner < cell_of part) × (found terms lists inner ≡ None) × Needs old part inner

-- a step for a cell of which nothing was made yet
abbrev pub step_for : Option ℕ → ℕ
step_for None = 1
step_for (Some r) = 0

-- The part was made from what it needs, or it waits on the path for a smaller part that it needs and that was not made. The numbers are
-- of the steps that were taken before it and after it.
abbrev pub Advances : List Object → List Object → Object → Memo → Memo → List Part → List Part → Part → ℕ → ℕ → Type 0
Advances old new s memo more path longer part before after =
    ((r : ℕ) × IsIn new r × (object_at new r ≡ substituted s part (object_at old (cell_of part))) × Adds memo.terms memo.lists more.terms more.lists part r × (longer ≡ path) × (after ≡ before) × ((q : Part) → Needs old part q → IsFound memo.terms memo.lists q))
    ⊎ ((inner : Part) × (cell_of inner < cell_of part) × (found memo.terms memo.lists inner ≡ None) × (longer ≡ path ++ part ∷ inner ∷ []) × (more ≡ memo) × Needs old part inner × (after ≡ before + step_for (found memo.terms memo.lists (other_kind inner))))
