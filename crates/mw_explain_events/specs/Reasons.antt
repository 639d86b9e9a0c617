-- For which reasons definitions and proofs are refused.
use Rattle.std.specs.Prelude.{◌≡◌, ◌⊎◌, ℕ, Bool, true, false, List, length, Option, Some, None}
use Rattle.mw_model.specs.Terms.Object.{Object, has_members}
use Rattle.mw_model.specs.Terms.Term.{Formula}
use Rattle.mw_model.specs.Events.Theory.{Theory}
use Rattle.mw_model.specs.Events.Refusal.{Refusal, NAME, FORMALS, TERM, VARIABLES, NESTED}
use Rattle.mw_model.specs.Events.Demand.{each_judged}
use Rattle.mw_theory.specs.Proofs.{by_formula}
use Rattle.mw_kernel.specs.Proofs.{judged_for}

-- those of the tests of definitions
abbrev pub is_of_definitions : Refusal → Bool
is_of_definitions NAME = true
is_of_definitions FORMALS = true
is_of_definitions TERM = true
is_of_definitions VARIABLES = true
is_of_definitions NESTED = true
is_of_definitions _ = false

-- there is no reason, or this one
abbrev pub IsNoneOr : Refusal → Option Refusal → Type 0
IsNoneOr r o = (o ≡ None) ⊎ (o ≡ Some r)

-- there are as many proofs as formulas, and the first one that is refused is so for this reason
abbrev pub AreRefused : Refusal → Theory → ℕ → List Formula → Object → Type 0
AreRefused r t N Fs ps = (has_members (length Fs) ps ≡ true) × (each_judged (by_formula (judged_for N)) t 0 Fs ps ≡ Some r)
