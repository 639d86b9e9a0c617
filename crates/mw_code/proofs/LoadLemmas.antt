-- What is left to do for jobs, in a row and for the parts of terms.
use Rattle.std.proofs.Common.{◌≡◌, ℕ, ◌+◌, ◌*◌, ◌≤◌, List, [], ◌∷◌, ◌++◌, ap, arith}
use Rattle.mw_model.specs.Terms.Object.{Name, Object}
use Rattle.mw_heap.specs.Objects.{object_at}
use Rattle.mw_model.specs.Terms.Reading.{term_of}
use Rattle.mw_model.specs.Terms.Term.{Term, Terms, Variable, Constant, If, Call, Lambda, NoTerms, More, ArityTable}
use Rattle.mw_code.specs.declared.job.Scope.{Scope}
use Rattle.mw_code.specs.declared.job.Job.{Job}
use Rattle.mw_code.specs.Weights.{jobs, all_jobs}
use Rattle.mw_code.specs.Loads.{jobs_or, load}
use Rattle.mw_code.specs.Jobs.{AreActuals}

pub load-append : (os : List Object) (js ks : List Job) → load os (js ++ ks) ≡ load os js + load os ks
load-append os [] ks = omega arith
load-append os (j ∷ js) ks = let i = load-append os js ks in omega (arith, i)

-- the jobs of actuals are those of their terms
pub actuals-load : (A : ArityTable) (os : List Object) (scope : Scope) (xs : List Name) (height : ℕ) (ts : Terms) (js : List Job) → AreActuals A os scope xs height ts js → load os js ≡ 3 * all_jobs ts
actuals-load A os scope xs height NoTerms js a = ap (load os) a
actuals-load A os scope xs height (More t ts) js a =
    let first : jobs_or (term_of (object_at os a.0)) ≡ jobs t = ap jobs_or a.2.read in
    let rest = actuals-load A os scope xs (height + 1) ts a.1 a.4 in
    let all = ap (load os) a.3 in
    omega (arith, first, rest, all)

-- a term takes a job at least
pub jobs-some : (t : Term) → 1 ≤ jobs t
jobs-some (Variable x) = omega arith
jobs-some (Constant c) = omega arith
jobs-some (If a b c) = omega arith
jobs-some (Call f ts) = omega arith
jobs-some (Lambda xs b ts) = omega arith
