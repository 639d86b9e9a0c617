-- A copy of an object of another heap, cell by cell.
use Rattle.std.specs.Prelude.{◌≡◌, ℕ, ◌+◌, ◌*◌, ◌<◌, ◌≤◌, cond, eqb, get_or, List, [], ◌∷◌, ◌++◌, Option, None, Some, map, All, Contains, ◌⊎◌}
use Rattle.mw_model.specs.Terms.Object.{Object, Pair, weight}
use Rattle.mw_heap.specs.Objects.{object_at, IsIn}
use Rattle.mw_slice.specs.declared.copies.Note.{Note}
use Rattle.mw_slice.specs.declared.copying.Job.{Job}
use Rattle.mw_slice.specs.declared.copying.Job.TheVariants.{Copy, Join}

-- what notes say in a round: those of other rounds say nothing
abbrev pub noted_in : ℕ → Note → Option ℕ
noted_in round note = cond (eqb note.round round) (Some note.made) None

abbrev pub noted : ℕ → List Note → List (Option ℕ)
noted round notes = map (noted_in round) notes

-- notes of this round and earlier ones
pub record AreNotes (round : ℕ) (notes : List Note) : Type 0 where
  pub some : 0 < round
  pub earlier : All (λ note. note.round ≤ round) notes

-- the cell that a job gives a copy
abbrev pub copied_cell : Job → ℕ
copied_cell (Copy x) = x
copied_cell (Join x a d) = x

abbrev pub copy_of : List (Option ℕ) → ℕ → Option ℕ
copy_of copies x = get_or copies x None

abbrev pub IsCopied : List (Option ℕ) → ℕ → Type 0
IsCopied copies x = (r : ℕ) × (copy_of copies x ≡ Some r)

-- the cell has a copy now, and each cell that had one
pub record GetsCopy (old new : List (Option ℕ)) (x : ℕ) : Type 0 where
  pub kept : (y : ℕ) → IsCopied old y → IsCopied new y
  pub copied : IsCopied new x

-- each copy is of the same object
abbrev pub AreCopies : List Object → List Object → List (Option ℕ) → Type 0
AreCopies from to copies = (x r : ℕ) → copy_of copies x ≡ Some r → IsIn to r × (object_at to r ≡ object_at from x)

-- the cell has a copy, or one of the jobs gives it one
abbrev pub WillBeCopied : List (Option ℕ) → List Job → ℕ → Type 0
WillBeCopied copies jobs x = IsCopied copies x ⊎ Contains (map copied_cell jobs) x

-- the job can be done after these others
abbrev pub CanBeDone : List Object → List (Option ℕ) → List Job → Job → Type 0
CanBeDone from copies before (Copy x) = IsIn from x
CanBeDone from copies before (Join x a d) = (object_at from x ≡ Pair (object_at from a) (object_at from d)) × WillBeCopied copies before a × WillBeCopied copies before d

-- all of the jobs can be done, the last one first
abbrev pub AllCanBeDone : List Object → List (Option ℕ) → List Job → Type 0
AllCanBeDone from copies [] = Unit {0}
AllCanBeDone from copies (job ∷ jobs) = CanBeDone from copies jobs job × AllCanBeDone from copies jobs

-- a job weighs more than those that it leaves
abbrev pub job_weight : List Object → Job → ℕ
job_weight from (Copy x) = 2 * weight (object_at from x)
job_weight from (Join x a d) = 1

abbrev pub jobs_weight : List Object → List Job → ℕ
jobs_weight from [] = 0
jobs_weight from (job ∷ jobs) = job_weight from job + jobs_weight from jobs

-- a job is done, or leaves smaller ones
pub record IsDone (from : List Object) (job : Job) (old new : List (Option ℕ)) (waited waiting : List Job) : Type 0 where
  pub more : List Job
  pub longer : waiting ≡ waited ++ more
  pub kept : (x : ℕ) → IsCopied old x → IsCopied new x
  pub possible : AllCanBeDone from new more
  pub copied : WillBeCopied new more (copied_cell job)
  pub lighter : jobs_weight from more < job_weight from job
