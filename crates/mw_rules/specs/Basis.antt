-- What a proof may rest on, in a heap.
use Rattle.std.specs.Prelude.{ℕ, Bool, List, All, Some}
use Rattle.mw_model.specs.Terms.Object.{Object}
use Rattle.mw_model.specs.Terms.Term.{ArityTable}
use Rattle.mw_heap.specs.Objects.{object_at, IsIn}
use Rattle.mw_heap.specs.Lists.{list_object}
use Rattle.mw_heap.specs.Variants.{profile_of}
use Rattle.mw_rules.specs.Step.{rule_holds}
use Rattle.mw_rules.specs.Methods.{method_of_logic}
use Rattle.mw_rules.specs.declared.basis.Basis.{Basis}
use Rattle.mw_rules.specs.declared.method.Method.{Method}

-- its axioms and theorems are objects of the heap
pub record IsBasisIn (os : List Object) (b : Basis) : Type 0 where
  pub axioms : All (IsIn os) b.axioms.now
  pub theorems : All (IsIn os) b.theorems.now

-- the rule of a method over it: a conclusion c, the conclusions cs of the subproofs, the extras x
abbrev pub rule_holds_over : List Object → Basis → ArityTable → Method → ℕ → List ℕ → ℕ → Bool
rule_holds_over os b A m c cs x =
    rule_holds (list_object os b.axioms.now) (list_object os b.theorems.now) A (profile_of b.profile)
    (Some (method_of_logic m)) (object_at os c) (list_object os cs) (object_at os x)
