-- Theories that are reached by events.
use Rattle.std.specs.Prelude.{◌≡◌, ℕ, List, [], ◌∷◌, None}
use Rattle.mw_model.specs.Terms.Object.{Object, second_of}
use Rattle.mw_model.specs.Terms.Term.{Formula, formula_object, IsFormula}
use Rattle.mw_model.specs.Values.Definition.{arity_table}
use Rattle.mw_model.specs.Values.Truth.{IsTrueIn}
use Rattle.mw_model.specs.Events.Theory.{Theory}
use Rattle.mw_model.specs.Events.Checking.{judged}
use Rattle.mw_model.specs.Events.Fate.{next}

-- what the theory's checker says yes to has a true conclusion
abbrev pub JudgesTruly : Theory → ℕ → Type 0
JudgesTruly t N = (p : Object) (F : Formula) → IsFormula (arity_table t.definitions) F → judged t p N ≡ None → second_of p ≡ formula_object F → IsTrueIn t.definitions F

-- each of the events happens under the built-in checker
abbrev pub StaysBuiltIn : Theory → List Object → ℕ → Type 0
StaysBuiltIn t [] N = Unit {0}
StaysBuiltIn t (e ∷ es) N = (t.checker ≡ None) × StaysBuiltIn (next t e N) es N
