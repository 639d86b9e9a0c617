-- The members of a proof are those of its list, the end standing for what is missing.
use Rattle.std.proofs.Common.{◌≡◌, ℕ, ◌<◌, true, List, refl, sym, ap, ◌∙◌, arith}
use Rattle.mw_model.specs.Terms.Object.{Object, Natural, Symbol, Pair, same_object, NIL, car, cdr, second_of, third_of, fourth_of}
use Rattle.mw_model.proofs.ReadBack.{nil_is}
use Rattle.mw_heap.specs.Objects.{object_at}
use Rattle.mw_proof.specs.Members.{AreMembers, first_or_self, rest_or_self, IsNext}

last_two : (x : Object) → same_object (rest_or_self (rest_or_self x)) NIL ≡ true → (first_or_self x ≡ car x) × (first_or_self (rest_or_self x) ≡ car (cdr x))
last_two (Natural n) h = cc
last_two (Symbol s) h = (sym (nil_is s h), sym (nil_is s h))
last_two (Pair a (Natural n)) h = cc
last_two (Pair a (Symbol s)) h = (refl, sym (nil_is s h))
last_two (Pair a (Pair b z)) h = (refl, refl)

module _ (os : List Object) (p m r c rest ps more x end : ℕ) where
  pub members : object_at os p ≡ Pair (object_at os m) (object_at os r) → (m < p) × (r < p) → object_at os r ≡ Pair (object_at os c) (object_at os rest) → (c < r) × (rest < r) → IsNext os rest ps more → IsNext os more x end → same_object (object_at os end) NIL ≡ true → AreMembers os p (record { method = m; conclusion = c; subproofs = ps; extras = x })
  members at_p below_p at_r below_r next last nil =
      let q : object_at os p ≡ Pair (object_at os m) (Pair (object_at os c) (object_at os rest)) = at_p ∙ ap (Pair (object_at os m)) at_r in
      let end_is : object_at os end ≡ rest_or_self (rest_or_self (object_at os rest)) = last.rest_is ∙ ap rest_or_self next.rest_is in
      let two = last_two (object_at os rest) (ap (λ z. same_object z NIL) (sym end_is) ∙ nil) in
      record {
        method_before = below_p.0;
        conclusion_before = omega (arith, below_p, below_r);
        subproofs_before = omega (arith, below_p, below_r, next.first_before);
        extras_before = omega (arith, below_p, below_r, next.rest_before, last.first_before);
        method_is = sym (ap car q);
        conclusion_is = sym (ap second_of q);
        subproofs_are = next.first_is ∙ (two.0 ∙ sym (ap third_of q));
        extras_are = last.first_is ∙ (ap first_or_self next.rest_is ∙ (two.1 ∙ sym (ap fourth_of q)));
      }
