-- LOGIC.PROVABLEP: its witness is a proof of the wanted conclusion wherever there is one.
use Rattle.std.proofs.Common.{◌≡◌, ◌↔◌, Bool, true, false, ◌&&◌, ◌||◌, List, [], ◌∷◌, Some, refl, sym, ap, ap₂, ◌∙◌, subst, ◌⊎◌, inl, inr, is_some}
use Rattle.std.proofs.lemmas.Bool.{and_parts, and_from, or_cases}
use Prim.Native.String.{String}
use Rattle.mw_model.specs.Terms.Object.{Name, Object, named, same_name, same_object, second_of, T, truth_of}
use Rattle.mw_model.specs.Terms.Term.{Term, is_among, arity_of, table_object}
use Rattle.mw_model.specs.Values.Primitive.{Profile, One, Two}
use Rattle.mw_model.specs.Values.Definition.{Block, Definitions, arities, arity_table}
use Rattle.mw_model.specs.Values.Value.{Environment, Calls, bind, HasValue, HaveValues, Satisfies, IsWitness, block_calls}
use Rattle.mw_model.specs.Events.Writing.{terms, var, call, ◌&◌}
use Rattle.mw_model.specs.Proofs.Judgment.{judge}
use Rattle.mw_model.specs.BuiltIns.BuiltIn.{block_of, built_in}
use Rattle.mw_model.specs.BuiltIns.BuiltInProofs.{logic_provable_witness, logic_provablep}
use Rattle.mw_model.proofs.Names.{same_name-eq, same_object-eq, same_object-from}
use Rattle.mw_model.proofs.Values.{Det, ev_det}
use Rattle.mw_model.proofs.Depth.{block_fold, block_unfold, block_calls-det}
use Rattle.mw_model.proofs.Judging.{judge_good, good_judge}
use Rattle.mw_model.proofs.CallDepth.{constants_have, constants_are}
use Rattle.mw_model.proofs.SomeValue.{witness_has}
use Rattle.mw_model.proofs.Begins.{begins_call}
use Rattle.mw_model.proofs.BuiltInValue.{value_at, names}
use Rattle.mw_model.proofs.BuiltInCalls.{alone, value_among}
use Rattle.mw_model.proofs.BuiltInAnswers.{before_witness, built_in_functions, built_in-parts, built_in_value, built_in_value-value, answer, answer-body}
use Rattle.mw_truth.proofs.Tells.{t_not_nil}
use Rattle.mw_reflect.specs.Laws.{SaysYes, BeginsBuiltIn, IsProved}
use Rattle.mw_reflect.proofs.TestValues.{and_then}
use Rattle.mw_reflect.proofs.Reflects.{present, arguments, proofp_answer-test}

-- the witness's body: PROOF is a proof with the conclusion X
abbrev pub proves_body : Term
proves_body = call "LOGIC.PROOFP" (var "PROOF" ∷ var "AXIOMS" ∷ var "THMS" ∷ var "ATBL" ∷ []) & call "EQUAL" (call "LOGIC.CONCLUSION" (var "PROOF" ∷ []) ∷ var "X" ∷ [])

abbrev pub free_names : List Name
free_names = named "X" ∷ named "AXIOMS" ∷ named "THMS" ∷ named "ATBL" ∷ []

-- the 52 functions before the witness, and all built-in definitions by their parts
abbrev pub Older : Profile → List Block
Older P = alone (built_in_functions P)

abbrev pub Parts : Profile → List Block
Parts P = block_of logic_provablep ∷ logic_provable_witness ∷ Older P

older_answer : (P : Profile) (f : String) → is_among (named f) (names (before_witness (built_in P))) ≡ true → (vs : List Object) → block_calls P (Older P) (named f) vs (answer P f vs)
unfolding built_in_functions
older_answer P f i vs = built_in_value-value P (named f) i vs

provablep_arity : (P : Profile) → arity_of (arities P (built_in P)) (named "LOGIC.PROVABLEP") ≡ Some 4
provablep_arity One = refl
provablep_arity Two = refl

module _ (D : Definitions) (begun : BeginsBuiltIn D) (axioms theorems : Object) where
  abbrev P : Profile
  P = D.profile

  abbrev pub proves : Object → Object → Bool
  proves c p = is_some (judge axioms theorems (arity_table D) P p) && same_object (second_of p) c

  abbrev at : Object → Object → Environment
  at p c = (named "PROOF", p) ∷ bind free_names (arguments D begun axioms theorems c)

  body_value : (p c : Object) → value_at P (built_in_value P) (at p c) proves_body ≡ truth_of (proves c p)
  body_value p c =
      and_then (is_some (judge axioms theorems (arity_table D) P p)) (same_object (second_of p) c) (proofp_answer-test D begun axioms theorems p)
      (λ _. ap (λ v. truth_of (same_object v c)) (answer-body P "LOGIC.CONCLUSION" (p ∷ [])))

  -- the body's value, where the two functions that it calls have their answers
  module _ (C : Calls) (det : Det C) (hp : (vs : List Object) → C (named "LOGIC.PROOFP") vs (answer P "LOGIC.PROOFP" vs)) (hc : (vs : List Object) → C (named "LOGIC.CONCLUSION") vs (answer P "LOGIC.CONCLUSION" vs)) where
    two_names : (f : Name) → is_among f (named "LOGIC.PROOFP" ∷ named "LOGIC.CONCLUSION" ∷ []) ≡ true → (vs : List Object) → C f vs (built_in_value P f vs)
    two_names f h vs = go (or_cases (same_name f (named "LOGIC.PROOFP")) (same_name f (named "LOGIC.CONCLUSION") || false) h)
      where
        second_name : (same_name f (named "LOGIC.CONCLUSION") ≡ true) ⊎ (false ≡ true) → C f vs (built_in_value P f vs)
        second_name (inl e) = subst (λ g. C g vs (built_in_value P g vs)) (sym (same_name-eq f (named "LOGIC.CONCLUSION") e)) (hc vs)
        second_name (inr e) = cc

        go : (same_name f (named "LOGIC.PROOFP") ≡ true) ⊎ ((same_name f (named "LOGIC.CONCLUSION") || false) ≡ true) → C f vs (built_in_value P f vs)
        go (inl e) = subst (λ g. C g vs (built_in_value P g vs)) (sym (same_name-eq f (named "LOGIC.PROOFP") e)) (hp vs)
        go (inr e) = second_name (or_cases (same_name f (named "LOGIC.CONCLUSION")) false e)

    body_has : (p c : Object) → HasValue P C (at p c) proves_body (truth_of (proves c p))
    body_has p c = subst (λ v. HasValue P C (at p c) proves_body v) (body_value p c) (value_among P C (built_in_value P) (named "LOGIC.PROOFP" ∷ named "LOGIC.CONCLUSION" ∷ []) two_names (at p c) proves_body refl)

    body_only : (p c v : Object) → HasValue P C (at p c) proves_body v → v ≡ truth_of (proves c p)
    body_only p c v h = ev_det P C det (at p c) proves_body v (truth_of (proves c p)) h (body_has p c)

  abbrev pub Calls52 : Calls
  Calls52 = block_calls P (Older P)

  abbrev Calls54 : Calls
  Calls54 = block_calls P (Parts P)

  has52 : (p c : Object) → HasValue P Calls52 (at p c) proves_body (truth_of (proves c p))
  has52 = body_has Calls52 (block_calls-det P (Older P)) (older_answer P "LOGIC.PROOFP" refl) (older_answer P "LOGIC.CONCLUSION" refl)

  only52 : (p c v : Object) → HasValue P Calls52 (at p c) proves_body v → v ≡ truth_of (proves c p)
  only52 = body_only Calls52 (block_calls-det P (Older P)) (older_answer P "LOGIC.PROOFP" refl) (older_answer P "LOGIC.CONCLUSION" refl)

  has54 : (p c : Object) → HasValue P Calls54 (at p c) proves_body (truth_of (proves c p))
  has54 = body_has Calls54 (block_calls-det P (Parts P)) (older_answer P "LOGIC.PROOFP" refl) (older_answer P "LOGIC.CONCLUSION" refl)

  only54 : (p c v : Object) → HasValue P Calls54 (at p c) proves_body v → v ≡ truth_of (proves c p)
  only54 = body_only Calls54 (block_calls-det P (Parts P)) (older_answer P "LOGIC.PROOFP" refl) (older_answer P "LOGIC.CONCLUSION" refl)

  -- what the witness is
  abbrev args : Object → List Object
  args c = arguments D begun axioms theorems c

  abbrev pub Witness : Object → Object → Type 0
  Witness c p = IsWitness P Calls52 (named "PROOF") free_names proves_body (args c) p

  satisfies_from : (c p : Object) → proves c p ≡ true → Satisfies P Calls52 (named "PROOF") free_names proves_body (args c) p
  satisfies_from c p h = (T, t_not_nil, subst (λ b. HasValue P Calls52 (at p c) proves_body (truth_of b)) h (has52 p c))

  satisfies_to : (c p : Object) → Satisfies P Calls52 (named "PROOF") free_names proves_body (args c) p → proves c p ≡ true
  satisfies_to c p h = go (proves c p) refl (only52 p c h.0 h.2)
    where
      go : (b : Bool) → proves c p ≡ b → h.0 ≡ truth_of b → b ≡ true
      go true e q = refl
      go false e q = absurd (h.1 q)

  provable_stays : (c v : Object) → block_calls P D.blocks (named "LOGIC.PROVABLEP") (args c) v ≡ Calls54 (named "LOGIC.PROVABLEP") (args c) v
  provable_stays c v =
      begins_call P (built_in P) D.blocks begun.0 begun.1 (named "LOGIC.PROVABLEP") 4 (provablep_arity P) (args c) v
      ∙ ap (λ B. block_calls P B (named "LOGIC.PROVABLEP") (args c) v) (built_in-parts P)

  -- LOGIC.PROVABLEP's values
  pub provable_call : (c p : Object) → Witness c p → block_calls P D.blocks (named "LOGIC.PROVABLEP") (args c) (truth_of (proves c p))
  provable_call c p h =
      subst (λ X. X) (sym (provable_stays c (truth_of (proves c p))))
      (block_fold P (block_calls P (logic_provable_witness ∷ Older P)) (logic_provablep ∷ []) logic_provablep (args c) (truth_of (proves c p))
      (p ∷ args c, (p, args c, refl, (args c, four, h), four), has54 p c))
    where
      four : HaveValues P Calls54 (bind free_names (args c)) (terms (var "X" ∷ var "AXIOMS" ∷ var "THMS" ∷ var "ATBL" ∷ [])) (args c)
      four = (c, _, refl, refl, (axioms, _, refl, refl, (theorems, _, refl, refl, (table_object (arity_table D), [], refl, refl, refl))))

  pub provable_back : (c v : Object) → block_calls P D.blocks (named "LOGIC.PROVABLEP") (args c) v → (p : Object) × (v ≡ truth_of (proves c p))
  provable_back c v h =
      let u = block_unfold P (block_calls P (logic_provable_witness ∷ Older P)) (logic_provablep ∷ []) logic_provablep (args c) v (subst (λ X. X) (provable_stays c v) h) in
      let p : Object = u.1.0 in
      let rest = u.1.4 in
      let vs_are : u.0 ≡ p ∷ args c = u.1.2 ∙ ap (λ vs. p ∷ vs) (rest.2 ∙ ap₂ ◌∷◌ rest.3 (rest.4.2 ∙ ap₂ ◌∷◌ rest.4.3 (rest.4.4.2 ∙ ap₂ ◌∷◌ rest.4.4.3 (rest.4.4.4.2 ∙ ap₂ ◌∷◌ rest.4.4.4.3 rest.4.4.4.4)))) in
      let b : HasValue P Calls54 (at p c) proves_body v = subst (λ vs. HasValue P Calls54 (bind (named "PROOF" ∷ free_names) vs) proves_body v) vs_are u.2 in
      (p, only54 p c v b)

  -- some object is a proof of c
  pub proved_to : (c p : Object) → proves c p ≡ true → IsProved D axioms theorems c
  proved_to c p h =
      let q = and_parts (is_some (judge axioms theorems (arity_table D) P p)) (same_object (second_of p) c) h in
      let s = present (judge axioms theorems (arity_table D) P p) q.0 in
      (p, (s.0, judge_good axioms theorems (arity_table D) P p s.0 s.1), same_object-eq (second_of p) c q.1)

  proved_from : (c : Object) (q : IsProved D axioms theorems c) → proves c q.0 ≡ true
  proved_from c q =
      and_from (is_some (judge axioms theorems (arity_table D) P q.0)) (same_object (second_of q.0) c) (ap is_some (good_judge axioms theorems (arity_table D) P q.0 q.1.0 q.1.1).1) (same_object-from (second_of q.0) c q.2)

  pub provable_to : (e : Environment) (c : Object) → SaysYes (named "LOGIC.PROVABLEP") D e c axioms theorems → IsProved D axioms theorems c
  provable_to e c h =
      let vs_are = constants_are P (block_calls P D.blocks) e (args c) h.2.0 h.2.1 in
      let b = provable_back c h.0 (subst (λ vs. block_calls P D.blocks (named "LOGIC.PROVABLEP") vs h.0) vs_are h.2.2) in
      go b.0 (proves c b.0) refl b.1
    where
      go : (p : Object) (t : Bool) → proves c p ≡ t → h.0 ≡ truth_of t → IsProved D axioms theorems c
      go p true k q = proved_to c p k
      go p false k q = absurd (h.1 q)

  provable_from : (e : Environment) (c : Object) → IsProved D axioms theorems c → (SaysYes (named "LOGIC.PROVABLEP") D e c axioms theorems → ⊥) → ⊥
  provable_from e c q k = witness_has P Calls52 (named "PROOF") free_names proves_body (args c) go
    where
      go : (p : Object) → Witness c p → ⊥
      go p (inr h) = h.1 q.0 (satisfies_from c q.0 (proved_from c q))
      go p (inl h) =
          let t = satisfies_to c p h.0 in
          let v : block_calls P D.blocks (named "LOGIC.PROVABLEP") (args c) T = subst (λ b. block_calls P D.blocks (named "LOGIC.PROVABLEP") (args c) (truth_of b)) t (provable_call c p (inl h)) in
          k (T, t_not_nil, (args c, constants_have P (block_calls P D.blocks) e (args c), v))

  pub provable_reflects : (e : Environment) (c : Object) → ((SaysYes (named "LOGIC.PROVABLEP") D e c axioms theorems → ⊥) → ⊥) ↔ ((IsProved D axioms theorems c → ⊥) → ⊥)
  provable_reflects e c = (λ h k. h (λ n. k (provable_to e c n)), λ h k. h (λ q. provable_from e c q k))
