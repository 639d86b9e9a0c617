-- Steps by the methods of proof, with other proofs of their premises.
use Rattle.std.specs.Prelude.{◌≡◌, ◌≢◌, ℕ, Bool, true, false, List, Option, Some, None, ◌⊎◌}
use Rattle.mw_model.specs.Terms.Object.{Object, list4}
use Rattle.mw_model.specs.Terms.Term.{Formula}
use Rattle.mw_model.specs.Proofs.Judgment.{methods, method_among}
use Rattle.mw_model.specs.Proofs.Proof.{ProveEach}
use Rattle.mw_heap.specs.Objects.{object_at, IsIn}
use Rattle.mw_rules.specs.Step.{rule_holds}
use Rattle.mw_proof.specs.Step.{conclusions_object}
use Rattle.mw_heap.specs.Lists.{list_object}
use Rattle.mw_proof.specs.Judging.{Basis}
use Rattle.mw_proof.specs.declared.members.Members.{Members}

-- the list is one of proofs
abbrev pub ProvesSome : Basis → Object → Type 0
ProvesSome b ps = (Fs : List Formula) × ProveEach b.axioms b.theorems b.table b.profile ps Fs

-- a proof's conclusion is its second member, and no proof has none
abbrev pub AreConclusions : List Object → List ℕ → List ℕ → Type 0
AreConclusions os ps cs = (b : Basis) → ProvesSome b (list_object os ps) → list_object os cs ≡ conclusions_object (list_object os ps)

-- the step with these proofs: itself where they are its own
abbrev pub WithProofs : List Object → ℕ → Members → Object → Object → Type 0
WithProofs os p m qs q = ((qs ≡ object_at os m.subproofs) × (q ≡ object_at os p)) ⊎ ((qs ≢ object_at os m.subproofs) × (q ≡ list4 (object_at os m.method) (object_at os m.conclusion) qs (object_at os m.extras)))

-- the rule of the step's method, on what the proofs qs prove
abbrev pub method_follows : Basis → List Object → Members → Object → Bool
method_follows b os m qs = rule_holds b.axioms b.theorems b.table b.profile (method_among methods (object_at os m.method)) (object_at os m.conclusion) (conclusions_object qs) (object_at os m.extras)

-- it holds, and the step with these proofs is the object of a reference; or it does not hold
abbrev pub IsMethodStep : Basis → List Object → ℕ → Members → Object → List Object → Option ℕ → Type 0
IsMethodStep b os p m qs new None = method_follows b os m qs ≡ false
IsMethodStep b os p m qs new (Some q) = (method_follows b os m qs ≡ true) × IsIn new q × WithProofs os p m qs (object_at new q)
