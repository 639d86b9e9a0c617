-- How much is left to do for jobs.
use Rattle.std.specs.Prelude.{ℕ, ◌+◌, ◌*◌, ◌-◌, List, [], ◌∷◌, Option, Some, None}
use Rattle.mw_model.specs.Terms.Object.{Object}
use Rattle.mw_model.specs.Terms.Term.{Term}
use Rattle.mw_model.specs.Terms.Reading.{term_of}
use Rattle.mw_heap.specs.Objects.{object_at}
use Rattle.mw_code.specs.declared.job.Job.{Job}
use Rattle.mw_code.specs.declared.job.Job.TheVariants.{Value as TheValue, Own as TheOwn, Rest as TheRest, Branch as TheBranch, Part as ThePart}
use Rattle.mw_code.specs.Weights.{jobs}

-- the jobs of a term, where there is one
abbrev pub jobs_or : Option Term → ℕ
jobs_or None = 0
jobs_or (Some t) = jobs t

abbrev pub jobs_at : List Object → ℕ → ℕ
jobs_at os x = jobs_or (term_of (object_at os x))

-- A job, and those that come of it. For each job of a term there may be two more: one to begin a part, and one to note it.
abbrev pub load_of : List Object → Job → ℕ
load_of os (TheValue task) = 3 * jobs_at os task.term
load_of os (TheOwn task) = 3 * jobs_at os task.term - 2
load_of os (TheRest test then after) = 2 + (3 * jobs_at os test + 3 * jobs_at os then.term)
load_of os (TheBranch p height) = 1
load_of os (ThePart task count after) = 1

abbrev pub load : List Object → List Job → ℕ
load os [] = 0
load os (j ∷ js) = load_of os j + load os js
