-- The members of a proof in a heap.
use Rattle.std.specs.Prelude.{◌≡◌, ℕ, ◌<◌, ◌≤◌, List}
use Rattle.mw_model.specs.Terms.Object.{Object, Natural, Symbol, Pair, car, second_of, fourth_of}
use Rattle.mw_heap.specs.Objects.{object_at}
use Rattle.mw_proof.specs.Step.{subproofs_of}
use Rattle.mw_proof.specs.declared.members.Members.{Members}

-- each is the member by its place, and stands before the proof
pub record AreMembers (os : List Object) (p : ℕ) (m : Members) : Type 0 where
  pub method_before : m.method < p
  pub conclusion_before : m.conclusion < p
  pub subproofs_before : m.subproofs < p
  pub extras_before : m.extras < p
  pub method_is : object_at os m.method ≡ car (object_at os p)
  pub conclusion_is : object_at os m.conclusion ≡ second_of (object_at os p)
  pub subproofs_are : object_at os m.subproofs ≡ subproofs_of (object_at os p)
  pub extras_are : object_at os m.extras ≡ fourth_of (object_at os p)

-- the first part and the rest of a pair, or the object itself if it is not a pair
abbrev pub first_or_self : Object → Object
first_or_self (Pair a r) = a
first_or_self (Natural n) = Natural n
first_or_self (Symbol s) = Symbol s

abbrev pub rest_or_self : Object → Object
rest_or_self (Pair a r) = r
rest_or_self (Natural n) = Natural n
rest_or_self (Symbol s) = Symbol s

pub record IsNext (os : List Object) (x first rest : ℕ) : Type 0 where
  pub first_before : first ≤ x
  pub rest_before : rest ≤ x
  pub first_is : object_at os first ≡ first_or_self (object_at os x)
  pub rest_is : object_at os rest ≡ rest_or_self (object_at os x)
