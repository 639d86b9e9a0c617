-- What stands in the place of the members of a list.
use Rattle.std.proofs.Common.{◌≡◌, ℕ, nat_eq, true, false, cond, List, [], ◌∷◌, ◌++◌, Option, Some, None, Vec, option_map, refl, sym, ap, ap₂, ◌∙◌, subst, arith, append_assoc}
use Rattle.std.specs.List.{All}
use Rattle.std.specs.Map.{lookup}
use Rattle.std.proofs.lemmas.Bool.{and_parts}
use Rattle.std.proofs.lemmas.List.Elements.{All-append, All-cons}
use Rattle.mw_model.specs.Terms.Object.{Object, Natural, Symbol, Pair, NIL, same_object}
use Rattle.mw_model.specs.Terms.Reading.{and_more}
use Rattle.mw_model.specs.Proofs.Proof.{no_proofs, more_proofs}
use Rattle.mw_heap.specs.Objects.{object_at, IsIn, Shows}
use Rattle.mw_heap.specs.declared.store.view.View.{View}
use Rattle.mw_heap.specs.declared.store.view.View.TheVariants.{Nat, Symbol as Word, Pair as Parts}
use Rattle.mw_heap.specs.Lists.{list_object}
use Rattle.mw_proof.specs.Step.{has_proof_shape}
use Rattle.mw_proof.specs.Members.{AreMembers}
use Rattle.mw_proof.specs.declared.members.Members.{Members}
use Rattle.mw_proof.specs.Judging.{Basis, is_proof_on, are_proofs_on}
use Rattle.mw_lower.proofs.DerivationSteps.{none_more, more_none}
use Rattle.mw_lower.specs.Turned.{derived_on, each_derived_on, IsTurned, AreMembersTurned, AreSubproofsTurned, AreReplaced, IsListTurned}

-- with this in the place of the members before the rest
pub record Replaces (os : List Object) (turned : List (ℕ × ℕ)) (list rest : ℕ) (qs : List ℕ) : Type 0 where
  pub within : IsIn os rest
  pub left : (b : Basis) → AreMembersTurned b os turned (object_at os list) → AreMembersTurned b os turned (object_at os rest)
  pub all_in : (b : Basis) → AreMembersTurned b os turned (object_at os list) → All (IsIn os) qs
  pub none : (b : Basis) → AreMembersTurned b os turned (object_at os list) → each_derived_on b (object_at os rest) ≡ None → each_derived_on b (object_at os list) ≡ None
  pub some : (b : Basis) → AreMembersTurned b os turned (object_at os list) → (more : List ℕ) → AreReplaced b os (object_at os rest) more → AreReplaced b os (object_at os list) (qs ++ more)

pub Replaces-first : (os : List Object) (turned : List (ℕ × ℕ)) (list : ℕ) (qs : List ℕ) → qs ≡ [] → IsIn os list → Replaces os turned list list qs
Replaces-first os turned list qs e i = record {
  within = i;
  left = λ b h. h;
  all_in = λ b h. subst (All (IsIn os)) (sym e) (λ k d l. absurd (omega arith));
  none = λ b h n. n;
  some = λ b h more r. subst (λ z. AreReplaced b os (object_at os list) (z ++ more)) (sym e) r;
}

-- the next member
module _ (os : List Object) (turned : List (ℕ × ℕ)) (list rest p more : ℕ) (qs : List ℕ) (before : Replaces os turned list rest qs) (p_in : IsIn os p) (more_in : IsIn os more) (is : object_at os rest ≡ Pair (object_at os p) (object_at os more)) where
  members : (b : Basis) → AreMembersTurned b os turned (object_at os list) → AreMembersTurned b os turned (Pair (object_at os p) (object_at os more))
  members b h = subst (AreMembersTurned b os turned) is (before.left b h)

  pub member : (b : Basis) → AreMembersTurned b os turned (object_at os list) → IsTurned b os (lookup (nat_eq p) turned) (object_at os p)
  member b h = (members b h).0 p p_in refl

  pub stops : (b : Basis) → AreMembersTurned b os turned (object_at os list) → lookup (nat_eq p) turned ≡ None → each_derived_on b (object_at os list) ≡ None
  stops b h e =
      let no = subst (λ o. IsTurned b os o (object_at os p)) e (member b h) in
      before.none b h (ap (each_derived_on b) is ∙ (ap (λ o. and_more o (each_derived_on b (object_at os more))) no ∙ none_more (each_derived_on b (object_at os more))))

  pub Replaces-more : (q : ℕ) → lookup (nat_eq p) turned ≡ Some q → Replaces os turned list more (qs ++ q ∷ [])
  Replaces-more q e = record {
    within = more_in;
    left = λ b h. (members b h).1;
    all_in = λ b h. All-append (IsIn os) qs (q ∷ []) (before.all_in b h) (All-cons (IsIn os) q [] (here b h).0 (λ k d l. absurd (omega arith)));
    none = λ b h n. before.none b h (ap (each_derived_on b) is ∙ (ap (and_more (derived_on b (object_at os p))) n ∙ more_none (derived_on b (object_at os p))));
    some = λ b h others r. subst (AreReplaced b os (object_at os list)) (sym (append_assoc qs (q ∷ []) others)) (before.some b h (q ∷ others) (subst (λ x. AreReplaced b os x (q ∷ others)) (sym is) (joined b h others r)));
  }
    where
      here : (b : Basis) → AreMembersTurned b os turned (object_at os list) → IsTurned b os (Some q) (object_at os p)
      here b h = subst (λ o. IsTurned b os o (object_at os p)) e (member b h)

      joined : (b : Basis) → AreMembersTurned b os turned (object_at os list) → (others : List ℕ) → AreReplaced b os (object_at os more) others → AreReplaced b os (Pair (object_at os p) (object_at os more)) (q ∷ others)
      joined b h others r =
          let k = (here b h).1 in
          record {
            formulas = k.formula ∷ r.formulas;
            derived = ap₂ and_more k.derived r.derived;
            proved = more_proofs (object_at os q) (list_object os others) k.formula r.formulas k.proved r.proved;
            stay = λ t. let s = and_parts (is_proof_on b (object_at os p)) (are_proofs_on b (object_at os more)) t in ap₂ Pair (k.stays s.0) (r.stay s.1);
          }

-- the end
pub ends : (b : Basis) (os : List Object) (x : Object) → x ≡ NIL → AreReplaced b os x []
ends b os x e = record { formulas = []; derived = ap (each_derived_on b) e; proved = no_proofs; stay = λ t. sym e }

pub no_list : (b : Basis) (os : List Object) (v : View) (x : Object) → Shows os v x → ((a r : ℕ) → v ≡ Parts a r → ⊥) → same_object x NIL ≡ false → each_derived_on b x ≡ None
no_list b os (Nat n) x h p e = ap (each_derived_on b) h
no_list b os Word (Symbol s) h p e = ap (λ t. cond t (Some []) None) e
no_list b os Word (Natural n) h p e = refl
no_list b os Word (Pair a r) h p e = cc
no_list b os (Parts a r) x h p e = absurd (p a r refl)

-- of the subproofs that were read it is known what they become
pub members_turned : (b : Basis) (os : List Object) (turned : List (ℕ × ℕ)) (p : ℕ) (m : Members) → true ≡ has_proof_shape (object_at os p) → AreMembers os p m → AreSubproofsTurned b os turned (object_at os p) → AreMembersTurned b os turned (object_at os m.subproofs)
members_turned b os turned p m shape am h = subst (AreMembersTurned b os turned) (sym am.subproofs_are) (h (sym shape))

pub list_replaced : {X : Type 0} (b : Basis) (os : List Object) (x : Object) (o : Option (Vec ℕ X)) (v : Vec ℕ X) → o ≡ Some v → IsListTurned b os x (option_map (λ v. v.items) o) → AreReplaced b os x v.items
list_replaced b os x o v e h = subst (λ z. IsListTurned b os x (option_map (λ v. v.items) z)) e h

pub no_list_replaced : {X : Type 0} (b : Basis) (os : List Object) (x : Object) (o : Option (Vec ℕ X)) → o ≡ None → IsListTurned b os x (option_map (λ v. v.items) o) → each_derived_on b x ≡ None
no_list_replaced b os x o e h = subst (λ z. IsListTurned b os x (option_map (λ v. v.items) z)) e h
