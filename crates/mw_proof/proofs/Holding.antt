-- Where all holds of a proof, its subproofs, theirs and so on that must hold of each, they are proofs; and of a proof all holds.
use Rattle.std.proofs.Common.{◌≡◌, ℕ, zero, suc, ◌<◌, Bool, true, false, ◌&&◌, List, [], ◌∷◌, length, refl, sym, ap₂, ◌∙◌, subst, arith, ◌⊎◌, inl, inr}
use Rattle.std.specs.List.{All}
use Rattle.std.proofs.lemmas.Bool.{and_parts, and_from, or_cases}
use Rattle.std.proofs.lemmas.List.Elements.{All-head, All-tail}
use Rattle.mw_model.specs.Terms.Object.{Object, Natural, Symbol, Pair, same_object, second_of, is_member}
use Rattle.mw_model.specs.Terms.Term.{ArityTable}
use Rattle.mw_model.specs.Values.Primitive.{Profile}
use Rattle.mw_model.specs.Laws.Rules.{is_formula_object}
use Rattle.mw_model.proofs.Names.{same_object-eq}
use Rattle.mw_heap.specs.Objects.{object_at, Grows}
use Rattle.mw_heap.proofs.Objects.{object_at-Grows}
use Rattle.mw_proof.specs.Step.{has_proof_shape, subproofs_of, step_holds}
use Rattle.mw_heap.specs.Lists.{list_object}
use Rattle.mw_heap.specs.Variants.{profile_of}
use Rattle.mw_rules.specs.Basis.{IsBasisIn}
use Rattle.mw_rules.specs.declared.basis.Basis as rules
use Rattle.mw_proof.specs.Gathered.{IsAmong, HasMembers, HasSubproofs, IsMadeOf, itself, subproof}
use Rattle.mw_proof.specs.Judging.{Basis, basis, basis_over, is_proof_on, are_proofs_on, is_step_on, have_conclusions}
use Rattle.mw_proof.proofs.StepExact.{is_proof-step}

module _ (os new : List Object) (g : Grows os new) where
  pub list_object-grows : (k : List ℕ) → All (λ r. r < length os) k → list_object new k ≡ list_object os k
  list_object-grows [] h = refl
  list_object-grows (r ∷ k) h = ap₂ Pair (object_at-Grows os new g r (All-head (λ r. r < length os) r k h)) (list_object-grows k (All-tail (λ r. r < length os) r k h))

  pub basis-grows : (A : ArityTable) (ax th : List ℕ) (P : Profile) → All (λ r. r < length os) ax → All (λ r. r < length os) th → basis new A ax th P ≡ basis os A ax th P
  basis-grows A ax th P h k = ap₂ (λ a t. record { axioms = a; theorems = t; table = A; profile = P }) (list_object-grows ax h) (list_object-grows th k)

  -- the test of a step over an older heap
  pub is_step-grows : (A : ArityTable) (b : rules.Basis) → IsBasisIn os b → (p : ℕ) → p < length os → is_step_on (basis_over new A b) (object_at new p) ≡ is_step_on (basis_over os A b) (object_at os p)
  is_step-grows A b h p i = ap₂ is_step_on (basis-grows A b.axioms.now b.theorems.now (profile_of b.profile) h.axioms h.theorems) (object_at-Grows os new g p i)

module _ (b : Basis) where
  abbrev shape_of : Object → Bool
  shape_of p = has_proof_shape p

  abbrev formula_of : Object → Bool
  formula_of p = is_formula_object b.table (second_of p)

  abbrev rule_of : Object → Bool
  rule_of p = step_holds b.axioms b.theorems b.table b.profile p

  -- what is in either test
  parts_of : (p : Object) (s : Bool) → (shape_of p && (formula_of p && (s && rule_of p))) ≡ true → (shape_of p ≡ true) × (formula_of p ≡ true) × (s ≡ true) × (rule_of p ≡ true)
  parts_of p s h =
      let a = and_parts (shape_of p) (formula_of p && (s && rule_of p)) h in
      let f = and_parts (formula_of p) (s && rule_of p) a.1 in
      let r = and_parts s (rule_of p) f.1 in
      (a.0, f.0, r.0, r.1)

  from_parts : (p : Object) (s : Bool) → shape_of p ≡ true → formula_of p ≡ true → s ≡ true → rule_of p ≡ true → (shape_of p && (formula_of p && (s && rule_of p))) ≡ true
  from_parts p s a f t r = and_from (shape_of p) (formula_of p && (s && rule_of p)) a (and_from (formula_of p) (s && rule_of p) f (and_from s (rule_of p) t r))

  proof_parts : (p : Object) → is_proof_on b p ≡ true → (shape_of p ≡ true) × (formula_of p ≡ true) × (are_proofs_on b (subproofs_of p) ≡ true) × (rule_of p ≡ true)
  proof_parts p h = parts_of p (are_proofs_on b (subproofs_of p)) (sym (is_proof-step b.axioms b.theorems b.table b.profile p) ∙ h)

  -- the conclusions of proofs are formulas
  pub proofs_conclude : (x : Object) → are_proofs_on b x ≡ true → have_conclusions b.table x ≡ true
  proofs_conclude (Pair p ps) h =
      let both = and_parts (is_proof_on b p) (are_proofs_on b ps) h in
      and_from (formula_of p) (have_conclusions b.table ps) (proof_parts p both.0).1 (proofs_conclude ps both.1)
  proofs_conclude (Natural n) h = h
  proofs_conclude (Symbol s) h = h

  -- of a proof all holds
  proof_holds : (p : Object) → is_proof_on b p ≡ true → is_step_on b p ≡ true
  proof_holds p h =
      let r = proof_parts p h in
      from_parts p (have_conclusions b.table (subproofs_of p)) r.0 r.1 (proofs_conclude (subproofs_of p) r.2) r.3

  member_proof : (x r : Object) → are_proofs_on b x ≡ true → is_member r x ≡ true → is_proof_on b r ≡ true
  member_proof (Natural n) r h k = cc
  member_proof (Symbol s) r h k = cc
  member_proof (Pair p ps) r h k = go (or_cases (same_object r p) (is_member r ps) k) (member_proof ps r both.1)
    where
      both : (is_proof_on b p ≡ true) × (are_proofs_on b ps ≡ true)
      both = and_parts (is_proof_on b p) (are_proofs_on b ps) h

      go : (same_object r p ≡ true) ⊎ (is_member r ps ≡ true) → (is_member r ps ≡ true → is_proof_on b r ≡ true) → is_proof_on b r ≡ true
      go (inl e) later = subst (λ o. is_proof_on b o ≡ true) (sym (same_object-eq r p e)) both.0
      go (inr m) later = later m

  -- what a proof is made of are proofs
  parts_proofs : (p q : Object) → IsMadeOf p q → is_proof_on b p ≡ true → is_proof_on b q ≡ true
  parts_proofs p q itself h = h
  parts_proofs p r (subproof q r' m s) h = member_proof (subproofs_of q) r (proof_parts q (parts_proofs p q m h)).2 s.1

  -- so where something does not hold of one of them, it is no proof
  pub no_proof : (p q : Object) → IsMadeOf p q → is_step_on b q ≡ false → is_proof_on b p ≡ false
  no_proof p q m bad = go (is_proof_on b p) refl
    where
      go : (t : Bool) → is_proof_on b p ≡ t → t ≡ false
      go true e = cc (sym (proof_holds q (parts_proofs p q m e)) ∙ bad)
      go false e = refl

  module _ (os : List Object) (keys : List ℕ) where
    members_proofs : (n : ℕ) (x : Object) → HasMembers os keys n x → ((q : ℕ) → IsAmong keys q → q < n → is_proof_on b (object_at os q) ≡ true) → have_conclusions b.table x ≡ true → are_proofs_on b x ≡ true
    members_proofs n (Natural m) h f c = c
    members_proofs n (Symbol s) h f c = c
    members_proofs n (Pair a r) h f c =
        and_from (is_proof_on b a) (are_proofs_on b r) (subst (λ o. is_proof_on b o ≡ true) h.0.1 (f h.0.0 h.0.2 h.0.3))
        (members_proofs n r h.1 f (and_parts (formula_of a) (have_conclusions b.table r) c).1)

    module _ (held : (p : ℕ) → IsAmong keys p → HasSubproofs os keys p) (holds : (p : ℕ) → IsAmong keys p → is_step_on b (object_at os p) ≡ true) where
      proofs_below : (n q : ℕ) → q < n → IsAmong keys q → is_proof_on b (object_at os q) ≡ true
      proofs_below zero q l k = absurd (omega (arith, l))
      proofs_below (suc n) q l k =
          let p = object_at os q in
          let r = parts_of p (have_conclusions b.table (subproofs_of p)) (holds q k) in
          let proofs = members_proofs q (subproofs_of p) (held q k r.0) (λ s m less. proofs_below n s (omega (arith, less, l)) m) r.2 in
          is_proof-step b.axioms b.theorems b.table b.profile p ∙ from_parts p (are_proofs_on b (subproofs_of p)) r.0 r.1 proofs r.3

      -- where all holds of each, and the subproofs of each are among them, each is a proof
      pub are_proofs : (q : ℕ) → IsAmong keys q → is_proof_on b (object_at os q) ≡ true
      are_proofs q k = proofs_below (suc q) q (omega arith) k
