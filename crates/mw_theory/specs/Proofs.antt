-- Why the proofs that an event comes with are refused by a judge, where they are.
use Rattle.std.specs.Prelude.{cond, List, length, Option, Some}
use Rattle.mw_model.specs.Terms.Object.{Object, has_members}
use Rattle.mw_model.specs.Terms.Term.{Formula, formula_object}
use Rattle.mw_model.specs.Events.Theory.{Theory}
use Rattle.mw_model.specs.Events.Refusal.{Refusal, COUNT}
use Rattle.mw_model.specs.Events.Demand.{Judge as ByFormula, each_judged}

-- A judge says at a theory why an object is refused as a proof of the formula that another object is, where it is.
abbrev pub Judge : Type 0
Judge = Theory → Object → Object → Option Refusal

-- the same of formulas, and whatever the step limit
abbrev pub by_formula : Judge → ByFormula
by_formula J t N F p = J t (formula_object F) p

-- a proof for each formula, and no more
abbrev pub judged_each : Judge → Theory → List Formula → Object → Option Refusal
judged_each J t Fs ps = each_judged (by_formula J) t 0 Fs ps

abbrev pub judged_all : Judge → Theory → List Formula → Object → Option Refusal
judged_all J t Fs ps = cond (has_members (length Fs) ps) (judged_each J t Fs ps) (Some COUNT)
