-- Truth in the standard model. It is stated by denials, so that nothing rests on the excluded middle.
use Rattle.std.specs.Prelude.{List, [], ◌∷◌}
use Rattle.mw_model.specs.Terms.Object.{Object}
use Rattle.mw_model.specs.Terms.Term.{Formula, Equal, Not, Or}
use Rattle.mw_model.specs.Values.Primitive.{Profile}
use Rattle.mw_model.specs.Values.Definition.{Definitions}
use Rattle.mw_model.specs.Values.Value.{Environment, Calls, HasValue, block_calls}

-- Both sides are not without a common value; f is not true; not both f and g fail.
abbrev pub TrueAt : Profile → Calls → Environment → Formula → Type 0
TrueAt P C e (Equal a b) = ((v : Object) → HasValue P C e a v → HasValue P C e b v → ⊥) → ⊥
TrueAt P C e (Not f) = TrueAt P C e f → ⊥
TrueAt P C e (Or f g) = (TrueAt P C e f → ⊥) → (TrueAt P C e g → ⊥) → ⊥

abbrev pub TrueFor : Profile → Calls → Formula → Type 0
TrueFor P C f = (e : Environment) → TrueAt P C e f

-- true at every environment
abbrev pub IsTrueIn : Definitions → Formula → Type 0
IsTrueIn D f = TrueFor D.profile (block_calls D.profile D.blocks) f

abbrev pub Each : {X : Type 0} → (X → Type 0) → List X → Type 0
Each P [] = Unit {0}
Each P (x ∷ xs) = P x × Each P xs

abbrev pub AreTrueIn : Definitions → List Formula → Type 0
AreTrueIn D fs = Each (IsTrueIn D) fs
