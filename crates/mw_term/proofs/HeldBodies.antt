-- What was found of bodies, as bodies are added and forgotten.
use Rattle.std.proofs.Common.{◌≡◌, ℕ, Bool, true, false, cond, nat_eq, List, [], Some, refl, sym, subst, eqb-true}
use Rattle.std.specs.Option.{IfSome}
use Rattle.indexmap.specs.IndexSet.{IndexSet}
use Rattle.mw_model.specs.Terms.Object.{Object}
use Rattle.mw_term.specs.Bodies.{variables_found, AreVariablesOf, AreBodies}

module _ {S : Type 0} (os : List Object) where
  pub AreBodies-none : (es : List (ℕ × IndexSet ℕ S)) → es ≡ [] → AreBodies os es
  AreBodies-none es none = subst (AreBodies os) (sym none) (λ body. tt)

  -- one body more, or one that is found anew
  pub AreBodies-add : (old new : List (ℕ × IndexSet ℕ S)) (body : ℕ) (variables : IndexSet ℕ S) → ((b : ℕ) → variables_found new b ≡ cond (nat_eq body b) (Some variables) (variables_found old b)) → AreVariablesOf os body variables.keys → AreBodies os old → AreBodies os new
  AreBodies-add old new body variables updates here others b = subst (λ o. IfSome o (λ vs. AreVariablesOf os b vs.keys)) (sym (updates b)) (go (nat_eq body b) refl)
    where
      go : (same : Bool) → nat_eq body b ≡ same → IfSome (cond same (Some variables) (variables_found old b)) (λ vs. AreVariablesOf os b vs.keys)
      go true e = subst (λ r. AreVariablesOf os r variables.keys) (eqb-true body b e) here
      go false e = others b
