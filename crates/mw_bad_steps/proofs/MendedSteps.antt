-- The conclusion with which a step of a heap follows.
use Rattle.std.proofs.Common.{◌≡◌, ℕ, Bool, true, false, List, [], ◌∷◌, map, Option, Some, None, refl, sym, ap, ap₂, ◌∙◌, subst}
use Rattle.std.specs.Bool.{then_some}
use Rattle.mw_model.specs.Terms.Object.{Object, Natural, Symbol, Pair, car, cdr, second_of, third_of, fourth_of, list4}
use Rattle.mw_model.specs.Terms.Term.{Formula, IsFormula, is_formula, formula_object}
use Rattle.mw_model.specs.Terms.Reading.{formula_of, formula_under, that}
use Rattle.mw_model.specs.Values.Truth.{Each}
use Rattle.mw_model.specs.Proofs.Proof.{Method}
use Rattle.mw_model.specs.Proofs.Judgment.{methods, method_among, judge_each}
use Rattle.mw_model.specs.Events.Fate.{is_out_of_range}
use Rattle.mw_model.specs.Laws.RulesInduction.{formulas_object}
use Rattle.mw_model.proofs.ReadBack.{formula_back, when_some}
use Rattle.mw_heap.specs.Objects.{object_at, IsIn}
use Rattle.mw_proof.specs.declared.members.Members.{Members}
use Rattle.mw_proof.specs.Members.{AreMembers}
use Rattle.mw_proof.specs.Step.{conclusions_object}
use Rattle.mw_proof.specs.Judging.{Basis, is_step_on}
use Rattle.mw_proof.proofs.StepExact.{judge_each-conclusions}
use Rattle.mw_commands.specs.Commands.ExplanationSteps.{are_extras, mended}
use Rattle.mw_commands.specs.Commands.ExplanationSteps.{listed}
use Rattle.mw_bad_steps.specs.Members.{conclusions_in}
use Rattle.mw_bad_steps.specs.Candidates.{IsCandidate, IsMended, meant_of}
use Rattle.mw_bad_steps.proofs.Meaning.{nothing_meant, meant_follows, meant_fails}

pub that_some : {X : Type 0} (test : X → Bool) (o : Option X) (x : X) → that test o ≡ Some x → (o ≡ Some x) × (test x ≡ true)
that_some test None x h = cc
that_some test (Some y) x h =
    let p = when_some (test y) (Some y) x h in
    let e : y ≡ x = cc p.1 in
    (p.1, subst (λ z. test z ≡ true) e p.0)

listed_one : (xs ys : List Object) → listed xs ≡ listed ys → xs ≡ ys
listed_one [] [] e = refl
listed_one [] (y ∷ ys) e = cc
listed_one (x ∷ xs) [] e = cc
listed_one (x ∷ xs) (y ∷ ys) e = ap₂ ◌∷◌ (ap car e) (listed_one xs ys (ap cdr e))

conclusions_object-listed : (ps : Object) → conclusions_object ps ≡ listed (conclusions_in ps)
conclusions_object-listed (Natural n) = refl
conclusions_object-listed (Symbol s) = refl
conclusions_object-listed (Pair p ps) = ap (Pair (second_of p)) (conclusions_object-listed ps)

pub formulas_object-listed : (Fs : List Formula) → formulas_object Fs ≡ listed (map formula_object Fs)
formulas_object-listed [] = refl
formulas_object-listed (F ∷ Fs) = ap (Pair (formula_object F)) (formulas_object-listed Fs)

module _ (os new : List Object) (p : ℕ) (mem : Members) (am : AreMembers os p mem) (b : Basis) (k m : Method) (F : Formula) (Fs : List Formula) (is_k : Some k ≡ method_among methods (object_at os mem.method)) (i : method_among methods (car (object_at os p)) ≡ Some m) (f : formula_under b.table (second_of (object_at os p)) ≡ Some F) (j : judge_each b.axioms b.theorems b.table b.profile (third_of (object_at os p)) ≡ Some Fs) (e : are_extras b.table m (fourth_of (object_at os p)) ≡ true) (o : Option ℕ) (h : (G : Formula) (Gs : List Formula) → IsFormula b.table G → Each (IsFormula b.table) Gs → object_at os mem.conclusion ≡ formula_object G → conclusions_in (object_at os mem.subproofs) ≡ map formula_object Gs → are_extras b.table k (object_at os mem.extras) ≡ true → IsCandidate new (meant_of b.profile k G Gs (object_at os mem.extras)) o) where
  abbrev x : Object
  x = object_at os p

  same_method : k ≡ m
  same_method = let q : Some k ≡ Some m = is_k ∙ (ap (method_among methods) am.method_is ∙ i) in cc q

  read : (formula_of (second_of x) ≡ Some F) × IsFormula b.table F
  read = that_some (is_formula b.table) (formula_of (second_of x)) F f

  concluded : (formulas_object Fs ≡ conclusions_object (third_of x)) × Each (IsFormula b.table) Fs
  concluded = judge_each-conclusions b.axioms b.theorems b.table b.profile (third_of x) Fs j

  abbrev Candidate : Method → Object → Type 0
  Candidate n y = IsCandidate new (meant_of b.profile n F Fs y) o

  candidate_here : Candidate m (fourth_of x)
  candidate_here =
      let conclusion = am.conclusion_is ∙ sym (formula_back (second_of x) F read.0) in
      let same = listed_one (conclusions_in (third_of x)) (map formula_object Fs) (sym (conclusions_object-listed (third_of x)) ∙ (sym concluded.0 ∙ formulas_object-listed Fs)) in
      let extras = ap₂ (are_extras b.table) same_method am.extras_are ∙ e in
      subst (λ n. Candidate n (fourth_of x)) same_method (subst (Candidate k) am.extras_are (h F Fs read.1 concluded.1 conclusion (ap conclusions_in am.subproofs_are ∙ same) extras))

  abbrev Defined : Option Formula
  Defined = mended b.axioms b.theorems b.table b.profile m F Fs (fourth_of x)

  pub none_mended : o ≡ None → IsMended new Defined None
  none_mended d = nothing_meant b m F Fs (car x) (third_of x) (fourth_of x) i j new (subst (IsCandidate new (meant_of b.profile m F Fs (fourth_of x))) d candidate_here)

  module _ (r : ℕ) (d : o ≡ Some r) (last : List Object) (s : Bool) (y : Object) (in_last : IsIn last r) (same : object_at last r ≡ object_at new r) (range : is_out_of_range (object_at new r) ≡ false) (made : y ≡ list4 (object_at os mem.method) (object_at new r) (object_at os mem.subproofs) (object_at os mem.extras)) (answer : s ≡ is_step_on b y) where
    here : IsCandidate new (meant_of b.profile m F Fs (fourth_of x)) (Some r)
    here = subst (IsCandidate new (meant_of b.profile m F Fs (fourth_of x))) d candidate_here

    answered : s ≡ is_step_on b (list4 (car x) (object_at new r) (third_of x) (fourth_of x))
    answered =
        answer
        ∙ ap (is_step_on b)
        (made ∙ (ap (λ z. list4 z (object_at new r) (object_at os mem.subproofs) (object_at os mem.extras)) am.method_is ∙ ap₂ (λ z w. list4 (car x) (object_at new r) z w) am.subproofs_are am.extras_are))

    pub follows_mended : IsMended last Defined (then_some s r)
    follows_mended = by_answer s refl
      where
        by_answer : (t : Bool) → s ≡ t → IsMended last Defined (then_some t r)
        by_answer true t = meant_follows b m F Fs (car x) (third_of x) (fourth_of x) i j new read.1 concluded.1 e last r s here in_last same range answered t
        by_answer false t = meant_fails b m F Fs (car x) (third_of x) (fourth_of x) i j new read.1 concluded.1 e last r s here in_last same range answered t
