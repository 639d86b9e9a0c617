-- The free variables of the bodies of lambdas, as they were found.
use Rattle.std.specs.Prelude.{◌≡◌, ℕ, nat_eq, List, Option, IfSome}
use Rattle.std.specs.Map.{lookup}
use Rattle.indexmap.specs.IndexSet.{IndexSet}
use Rattle.mw_model.specs.Terms.Object.{Object}
use Rattle.mw_heap.specs.Objects.{object_at}
use Rattle.mw_term.specs.Parts.{names_at, AreSymbols}
use Rattle.mw_term.specs.Occurrences.{object_variables}

-- these symbols are the free variables of the body
pub record AreVariablesOf (os : List Object) (body : ℕ) (symbols : List ℕ) : Type 0 where
  pub are_symbols : AreSymbols os symbols
  pub names : names_at os symbols ≡ object_variables (object_at os body)

module _ {S : Type 0} where
  -- what was found of a body, if it was walked
  abbrev pub variables_found : List (ℕ × IndexSet ℕ S) → ℕ → Option (IndexSet ℕ S)
  variables_found es body = lookup (nat_eq body) es

  -- of each body that was walked its free variables were found
  abbrev pub AreBodies : List Object → List (ℕ × IndexSet ℕ S) → Type 0
  AreBodies os es = (body : ℕ) → IfSome (variables_found es body) (λ variables. AreVariablesOf os body variables.keys)
