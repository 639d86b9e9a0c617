-- What is shown by descent along the ordinals: that calls have values, and that a formula proved by induction is true.
use Rattle.std.specs.Prelude.{◌≡◌, ℕ, zero, suc, cond, true, List, [], ◌∷◌, Some}
use Rattle.mw_model.specs.Terms.Object.{Object, Natural, Symbol, Pair, same_object}
use Rattle.mw_model.specs.Terms.Term.{Term, Formula}
use Rattle.mw_model.specs.Values.Primitive.{Profile, number}
use Rattle.mw_model.specs.Values.Definition.{Function, Block, Functions, Choice, Definitions, function_named}
use Rattle.mw_model.specs.Values.Value.{Environment, bind, HasValue, IsValue, CallAtSomeDepth, block_calls}
use Rattle.mw_model.specs.Values.Truth.{TrueAt}
use Rattle.mw_model.specs.Laws.Ordinal.{is_ordinal, is_below}
use Rattle.mw_model.specs.Events.Obligation.{Measures, measure_of}

-- the measures of the last block, or a formula and the measure of an induction
pub data Question : Type 0 where
  OfBlock : Definitions → Measures → Question
  OfFormula : Definitions → Formula → Term → Question

-- wherever the measure has the value a among the earlier blocks, the call is not without a value
abbrev pub block_goal : Profile → List Block → Measures → Object → Type 0
block_goal P [] M a = Unit {0}
block_goal P (Choice g y xs b ∷ D) M a = Unit {0}
block_goal P (Functions B ∷ D) M a =
    (h : Function) → function_named B h.name ≡ Some h → (vs : List Object) → HasValue P (block_calls P D) (bind h.formals vs) (measure_of M h.name) a → ((v : Object) → CallAtSomeDepth P (block_calls P D) B h vs v → ⊥) → ⊥

-- at a: of a formula, that it is true at every environment where the measure has the value a
abbrev pub goal : Question → Object → Type 0
goal (OfBlock D M) a = block_goal D.profile D.blocks M a
goal (OfFormula D F m) a = (e : Environment) → IsValue D e m a → TrueAt D.profile (block_calls D.profile D.blocks) e F

-- omega to the a, and b plus that
abbrev pub omega_to : Object → Object
omega_to a = cond (same_object a (Natural 0)) (Natural 1) (Pair (Pair a (Natural 1)) (Natural 0))

abbrev pub plus_power : Object → Object → Object
plus_power (Natural n) a = cond (same_object a (Natural 0)) (Natural (suc n)) (omega_to a)
plus_power (Symbol x) a = omega_to a
plus_power (Pair (Natural n) r) a = omega_to a
plus_power (Pair (Symbol x) r) a = omega_to a
plus_power (Pair (Pair e c) r) a =
    cond (is_below e a) (omega_to a) (cond (same_object e a) (Pair (Pair e (Natural (suc (number c)))) (Natural 0)) (Pair (Pair e c) (plus_power r a)))

-- where it holds below b, it holds below b plus omega to the a
abbrev pub up : ℕ → Question → Object → Type 0
up zero q a = goal q a
up (suc n) q a =
    (b : Object) → is_ordinal b ≡ true → ((x : Object) → is_ordinal x ≡ true → is_below x b ≡ true → up n q x) → (x : Object) → is_ordinal x ≡ true → is_below x (plus_power b a) ≡ true → up n q x
