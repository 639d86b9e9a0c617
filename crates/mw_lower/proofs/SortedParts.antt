-- What a proof is made of, put in order.
use Rattle.std.proofs.Common.{◌≡◌, ℕ, ◌==◌, List, sym, ◌∙◌}
use Rattle.std.specs.List.{list_any}
use Rattle.std.specs.List.Sorted.{IsNonDecreasing}
use Rattle.mw_model.specs.Terms.Object.{Object, Natural, Symbol, Pair}
use Rattle.mw_heap.specs.Objects.{object_at}
use Rattle.mw_proof.specs.Step.{subproofs_of}
use Rattle.mw_proof.specs.Gathered.{HasMembers, AreGathered}
use Rattle.mw_lower.specs.Parts.{AreParts}

module _ (os : List Object) (keys sorted : List ℕ) (same : (x : ℕ) → list_any (λ y. x == y) sorted ≡ list_any (λ y. x == y) keys) where
  HasMembers-same : (n : ℕ) (x : Object) → HasMembers os keys n x → HasMembers os sorted n x
  HasMembers-same n (Natural m) h = tt
  HasMembers-same n (Symbol s) h = tt
  HasMembers-same n (Pair a r) h = ((h.0.0, h.0.1, same h.0.0 ∙ h.0.2, h.0.3), HasMembers-same n r h.1)

  pub sorted_parts : (proof : ℕ) → AreGathered os keys proof → IsNonDecreasing sorted → AreParts os proof sorted
  sorted_parts proof g s = record {
    here = same proof ∙ g.here;
    within = λ x h. g.within x (sym (same x) ∙ h);
    held = λ p h shape. HasMembers-same p (subproofs_of (object_at os p)) (g.held p (sym (same p) ∙ h) shape);
    made_of = λ p h. g.no_others.each p (sym (same p) ∙ h);
    in_order = λ i j l k. s i j 0 l k;
  }
