-- Steps by the methods of proof: the conclusions are formulas, and the step that is made.
use Rattle.std.proofs.Common.{◌≡◌, ℕ, Bool, true, false, List, Option, None, inl, inr, sym, ap, ap₂, ◌∙◌, is_some}
use Rattle.std.specs.List.{All}
use Rattle.mw_model.specs.Terms.Object.{Object, list4}
use Rattle.mw_model.specs.Terms.Term.{ArityTable}
use Rattle.mw_model.specs.Proofs.Proof.{Method}
use Rattle.mw_model.specs.Proofs.Judgment.{methods, method_among}
use Rattle.mw_model.specs.Laws.Rules.{is_formula_object}
use Rattle.mw_model.proofs.Judging.{goods_judge}
use Rattle.mw_heap.specs.Objects.{object_at, IsIn, Grows}
use Rattle.mw_heap.proofs.Objects.{object_at-Grows}
use Rattle.mw_proof.specs.declared.members.Members.{Members}
use Rattle.mw_heap.specs.Lists.{list_object}
use Rattle.mw_rules.specs.Step.{rule_holds}
use Rattle.mw_proof.specs.Step.{conclusions_object}
use Rattle.mw_proof.specs.Judging.{Basis}
use Rattle.mw_proof.proofs.StepExact.{are_proofs-is}
use Rattle.mw_proof.proofs.Deciding.{conclusions_formulas, All-map}
use Rattle.mw_proof.proofs.Holding.{list_object-grows, proofs_conclude}
use Rattle.mw_lower.specs.Methods.{ProvesSome, method_follows, WithProofs}

-- the four members as they stood
pub made_step : (os new : List Object) → Grows os new → (m : Members) → IsIn os m.method → IsIn os m.conclusion → IsIn os m.extras → (qs : Object) → list4 (object_at new m.method) (object_at new m.conclusion) qs (object_at new m.extras) ≡ list4 (object_at os m.method) (object_at os m.conclusion) qs (object_at os m.extras)
made_step os new g m i j k qs =
    ap₂ (λ x y. list4 x y qs (object_at new m.extras)) (object_at-Grows os new g m.method i) (object_at-Grows os new g m.conclusion j)
    ∙ ap (list4 (object_at os m.method) (object_at os m.conclusion) qs) (object_at-Grows os new g m.extras k)

pub with_grows : (os new : List Object) → Grows os new → (p : ℕ) (m : Members) → IsIn os p → IsIn os m.method → IsIn os m.conclusion → IsIn os m.subproofs → IsIn os m.extras → (ps : List ℕ) → All (IsIn os) ps → (q : Object) → WithProofs new p m (list_object new ps) q → WithProofs os p m (list_object os ps) q
with_grows os new g p m i j k l n ps all q (inl h) = inl (sym (list_object-grows os new g ps all) ∙ (h.0 ∙ object_at-Grows os new g m.subproofs l), h.1 ∙ object_at-Grows os new g p i)
with_grows os new g p m i j k l n ps all q (inr h) =
    inr (
      λ e. h.0 (list_object-grows os new g ps all ∙ (e ∙ sym (object_at-Grows os new g m.subproofs l))),
      h.1 ∙ (ap (λ z. list4 (object_at new m.method) (object_at new m.conclusion) z (object_at new m.extras)) (list_object-grows os new g ps all) ∙ made_step os new g m j k n (list_object os ps)),
    )

-- a symbol that names no method
pub no_method_follows : (b : Basis) (os : List Object) (m : Members) (qs : Object) → method_among methods (object_at os m.method) ≡ None → method_follows b os m qs ≡ false
no_method_follows b os m qs none = ap (λ o. rule_holds b.axioms b.theorems b.table b.profile o (object_at os m.conclusion) (conclusions_object qs) (object_at os m.extras)) none

-- the rule on the conclusions that were read is that on the proofs
pub follows_by : (b : Basis) (os : List Object) (m : Members) (qs : Object) (read rs : List ℕ) (o : Option Method) (t : Bool) → read ≡ rs → list_object os rs ≡ conclusions_object qs → o ≡ method_among methods (object_at os m.method) → t ≡ rule_holds b.axioms b.theorems b.table b.profile o (object_at os m.conclusion) (list_object os read) (object_at os m.extras) → method_follows b os m qs ≡ t
follows_by b os m qs read rs o t e is named answer = ap₂ (λ o cs. rule_holds b.axioms b.theorems b.table b.profile o (object_at os m.conclusion) cs (object_at os m.extras)) (sym named) (sym (ap (list_object os) e ∙ is)) ∙ sym answer

-- proofs have formulas as conclusions
pub conclusions_formed : (b : Basis) (os : List Object) (ps read rs : List ℕ) → ProvesSome b (list_object os ps) → read ≡ rs → list_object os rs ≡ conclusions_object (list_object os ps) → All (λ r. (A : ArityTable) × (is_formula_object A (object_at os r) ≡ true)) read
conclusions_formed b os ps read rs h e is =
    let x = list_object os ps in
    let all = sym (are_proofs-is b.axioms b.theorems b.table b.profile x) ∙ ap is_some (goods_judge b.axioms b.theorems b.table b.profile x h.0 h.1).1 in
    All-map (λ r. is_formula_object b.table (object_at os r) ≡ true) (λ r. (A : ArityTable) × (is_formula_object A (object_at os r) ≡ true)) read (λ r f. (b.table, f)) (conclusions_formulas b os x read (proofs_conclude b x all) (ap (list_object os) e ∙ is))
