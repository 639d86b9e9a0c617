-- A proof has a first bad step exactly where it is none; where the other conditions hold the row of its method does not; and what is meant follows where it is shown.
use Rattle.std.proofs.Common.{◌≡◌, Bool, true, false, ◌&&◌, ◌||◌, not, List, [], Option, Some, None, is_some, refl, sym, ap, ◌∙◌, subst, ℕ, suc, ◌∷◌}
use Rattle.std.specs.Option.{option_or}
use Rattle.std.proofs.lemmas.Bool.{and_parts}
use Rattle.mw_model.specs.Terms.Object.{Object, Natural, Symbol, Pair, same_name, same_object, nil_name, NIL, car, cdr, second_of, third_of, fourth_of}
use Rattle.mw_model.specs.Terms.Term.{Formula, ArityTable, formula_object, is_formula}
use Rattle.mw_model.specs.Terms.Reading.{formula_of, formula_under, that, when}
use Rattle.mw_model.specs.Values.Primitive.{Profile}
use Rattle.mw_model.specs.Values.Definition.{arity_table}
use Rattle.mw_model.specs.Proofs.Proof.{Method}
use Rattle.mw_model.specs.Proofs.Judgment.{methods, method_among, follows, judge_step, judge_each}
use Rattle.mw_model.specs.Events.Theory.{Theory}
use Rattle.mw_model.specs.Events.Refusal.{Refusal}
use Rattle.mw_model.specs.Events.Checking.{judged_as}
use Rattle.mw_model.specs.Events.Demand.{each_judged}
use Rattle.mw_commands.specs.Commands.Explanation.{wrong_proof, proof_shown}
use Rattle.mw_model.specs.Events.Fate.{is_out_of_range}
use Rattle.mw_commands.specs.Commands.ExplanationSteps.{Placed, first_bad, is_proof_at, has_proof_shape, candidate, mended}
use Rattle.mw_model.proofs.ReadBack.{some_one}
use Rattle.mw_commands.proofs.ExplainedSteps.{first_decides}

pub some_bad : (t : Theory) (p : Object) → is_proof_at t p ≡ false → (b : Placed) × (first_bad (is_proof_at t) p ≡ Some b)
some_bad t p h = go (first_bad (is_proof_at t) p) refl
  where
    go : (o : Option Placed) → first_bad (is_proof_at t) p ≡ o → (b : Placed) × (first_bad (is_proof_at t) p ≡ Some b)
    go None e = let k : false ≡ true = sym h ∙ (first_decides (is_proof_at t) p).0 e in cc
    go (Some b) e = (b, e)

pub proof_none : (t : Theory) (p : Object) → is_proof_at t p ≡ true → first_bad (is_proof_at t) p ≡ None
proof_none t p = (first_decides (is_proof_at t) p).1

that_some : {X : Type 0} (test : X → Bool) (o : Option X) (x : X) → that test o ≡ Some x → test x ≡ true
that_some test None x h = cc
that_some test (Some y) x h = go (test y) refl h
  where
    go : (t : Bool) → test y ≡ t → when t (Some y) ≡ Some x → test x ≡ true
    go true e k = subst (λ z. test z ≡ true) (some_one k) e
    go false e k = cc

pub mended_follows : (ax th : Object) (A : ArityTable) (P : Profile) (m : Method) (F G : Formula) (Fs : List Formula) (x : Object) → mended ax th A P m F Fs x ≡ Some G → (is_formula A G ≡ true) × (follows ax th A P m G Fs x ≡ true)
mended_follows ax th A P m F G Fs x h =
    let k = that_some (λ H. is_formula A H && (not (is_out_of_range (formula_object H)) && follows ax th A P m H Fs x)) (candidate P m F Fs x) G h in
    let p = and_parts (is_formula A G) (not (is_out_of_range (formula_object G)) && follows ax th A P m G Fs x) k in
    (p.0, (and_parts (not (is_out_of_range (formula_object G))) (follows ax th A P m G Fs x) p.1).1)

-- where all else is as it has to be, it is the row that does not hold
yes_step : (ax th : Object) (A : ArityTable) (P : Profile) (om : Option Method) (oF : Option Formula) (oFs : Option (List Formula)) (x : Object) (m : Method) (F : Formula) (Fs : List Formula) → om ≡ Some m → that (is_formula A) oF ≡ Some F → oFs ≡ Some Fs → follows ax th A P m F Fs x ≡ true → judge_step ax th A P om oF oFs x ≡ Some F
yes_step ax th A P None oF oFs x m F Fs h j k r = cc
yes_step ax th A P (Some n) None oFs x m F Fs h j k r = cc
yes_step ax th A P (Some n) (Some G) None x m F Fs h j k r = cc
yes_step ax th A P (Some n) (Some G) (Some Gs) x m F Fs h j k r = go (is_formula A G) refl j
  where
    go : (b : Bool) → is_formula A G ≡ b → when b (Some G) ≡ Some F → when (is_formula A G && follows ax th A P n G Gs x) (Some G) ≡ Some F
    go false e i = cc
    go true e i =
        let same : follows ax th A P n G Gs x ≡ true = ap (λ z. follows ax th A P z G Gs x) (some_one h) ∙ (ap (λ z. follows ax th A P m z Gs x) (some_one i) ∙ (ap (λ z. follows ax th A P m F z x) (some_one k) ∙ r)) in
        ap (λ c. when (c && follows ax th A P n G Gs x) (Some G)) e ∙ (ap (λ c. when c (Some G)) same ∙ i)

or_left : (a b : Bool) → b ≡ false → (a || b) ≡ true → a ≡ true
or_left true b h k = refl
or_left false b h k = let c : false ≡ true = sym h ∙ k in cc

when_yes : (b : Bool) (o : Option Formula) (F : Formula) → b ≡ true → o ≡ Some F → is_some (when b o) ≡ true
when_yes true o F h k = ap is_some k
when_yes false o F h k = cc

module _ (t : Theory) where
  abbrev A : ArityTable
  A = arity_table t.definitions

  row_yes : (p : Object) (m : Method) (F : Formula) (Fs : List Formula) → has_proof_shape p ≡ true → method_among methods (car p) ≡ Some m → formula_under A (second_of p) ≡ Some F → judge_each t.axioms t.theorems A t.definitions.profile (third_of p) ≡ Some Fs → follows t.axioms t.theorems A t.definitions.profile m F Fs (fourth_of p) ≡ true → is_proof_at t p ≡ true
  row_yes (Natural n) m F Fs s h j k r = cc
  row_yes (Symbol x) m F Fs s h j k r = cc
  row_yes (Pair d (Natural n)) m F Fs s h j k r = cc
  row_yes (Pair d (Symbol x)) m F Fs s h j k r = cc
  row_yes (Pair d (Pair c (Natural n))) m F Fs s h j k r = cc
  row_yes (Pair d (Pair c (Symbol x))) m F Fs s h j k r =
      when_yes (same_name x nil_name) _ F (or_left (same_name x nil_name) false refl s) (yes_step t.axioms t.theorems A t.definitions.profile (method_among methods d) (formula_of c) (Some []) NIL m F Fs h j k r)
  row_yes (Pair d (Pair c (Pair ps (Natural n)))) m F Fs s h j k r = cc
  row_yes (Pair d (Pair c (Pair ps (Symbol x)))) m F Fs s h j k r =
      when_yes (same_name x nil_name) _ F (or_left (same_name x nil_name) false refl s) (yes_step t.axioms t.theorems A t.definitions.profile (method_among methods d) (formula_of c) (judge_each t.axioms t.theorems A t.definitions.profile ps) NIL m F Fs h j k r)
  row_yes (Pair d (Pair c (Pair ps (Pair x z)))) m F Fs s h j k r =
      when_yes (same_object z NIL) _ F s (yes_step t.axioms t.theorems A t.definitions.profile (method_among methods d) (formula_of c) (judge_each t.axioms t.theorems A t.definitions.profile ps) x m F Fs h j k r)

  pub row_fails : (p : Object) (m : Method) (F : Formula) (Fs : List Formula) → is_proof_at t p ≡ false → has_proof_shape p ≡ true → method_among methods (car p) ≡ Some m → formula_under A (second_of p) ≡ Some F → judge_each t.axioms t.theorems A t.definitions.profile (third_of p) ≡ Some Fs → follows t.axioms t.theorems A t.definitions.profile m F Fs (fourth_of p) ≡ false
  row_fails p m F Fs n s h j k = go (follows t.axioms t.theorems A t.definitions.profile m F Fs (fourth_of p)) refl
    where
      go : (b : Bool) → follows t.axioms t.theorems A t.definitions.profile m F Fs (fourth_of p) ≡ b → follows t.axioms t.theorems A t.definitions.profile m F Fs (fourth_of p) ≡ false
      go false e = e
      go true e = let c : false ≡ true = sym n ∙ row_yes p m F Fs s h j k e in cc

-- of proofs of which one is refused the first that is refused is shown, for that reason
module _ (t : Theory) (N : ℕ) (r : Refusal) where
  abbrev Shown : List Object → Type 0
  Shown xs = (n : ℕ) × (F : Formula) × (p : Object) × (judged_as t N F p ≡ Some r) × (xs ≡ Natural n ∷ formula_object F ∷ wrong_proof t r p)

  abbrev shown_for : Option Refusal → List Object → ℕ → Formula → Object → List Object
  shown_for o later k F p = elim o [ None ↦ later | Some q ↦ Natural k ∷ formula_object F ∷ wrong_proof t q p ]

  shown_first : (o : Option Refusal) (rest : Option Refusal) (later : List Object) (k : ℕ) (F : Formula) (p : Object) → judged_as t N F p ≡ o → option_or o rest ≡ Some r → (rest ≡ Some r → Shown later) → Shown (shown_for o later k F p)
  shown_first None rest later k F p e i f = f i
  shown_first (Some q) rest later k F p e i f = (k, F, p, e ∙ i, ap (λ z. Natural k ∷ formula_object F ∷ wrong_proof t z p) (some_one i))

  pub first_refused : (k : ℕ) (Fs : List Formula) (ps : Object) → each_judged judged_as t N Fs ps ≡ Some r → Shown (proof_shown t N k Fs ps)
  first_refused k [] ps h = cc
  first_refused k (F ∷ Fs) ps h = shown_first (judged_as t N F (car ps)) (each_judged judged_as t N Fs (cdr ps)) (proof_shown t N (suc k) Fs (cdr ps)) k F (car ps) refl h (first_refused (suc k) Fs (cdr ps))
