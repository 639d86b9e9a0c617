-- What must hold of one proof, by its members.
use Rattle.std.proofs.Common.{◌≡◌, ℕ, zero, suc, ◌<◌, Bool, true, false, ◌&&◌, List, [], ◌∷◌, Option, Some, None, Result, Ok, Err, IfOk, refl, sym, ap, ap₂, ◌∙◌, arith}
use Rattle.std.specs.List.{All}
use Rattle.std.proofs.lemmas.Bool.{and_parts, and_left, and_right}
use Rattle.std.proofs.lemmas.List.Elements.{All-cons}
use Rattle.mw_model.specs.Terms.Object.{Object, Natural, Symbol, Pair, NIL, same_object, has_members, car, cdr, second_of, fourth_of}
use Rattle.mw_model.specs.Proofs.Proof.{Method, Axiom, Theorem, PropositionalSchema, FunctionalEquality, BetaReduction, BaseEval, Expansion, Contraction, Associativity, Cut, Instantiation, Induction}
use Rattle.mw_model.specs.Laws.RulesInduction.{length_object}
use Rattle.mw_model.specs.Proofs.Judgment.{methods, method_among}
use Rattle.mw_model.specs.Laws.Rules.{is_formula_object}
use Rattle.mw_heap.specs.Objects.{object_at}
use Rattle.mw_rules.specs.Step.{rule_holds}
use Rattle.mw_proof.specs.Step.{has_proof_shape, subproofs_of, conclusions_object}
use Rattle.mw_heap.specs.Lists.{list_object}
use Rattle.mw_proof.specs.Members.{AreMembers}
use Rattle.mw_proof.specs.declared.members.Members.{Members}
use Rattle.mw_proof.specs.Judging.{Basis, is_step_on, have_conclusions, AreConclusions, IsOver}
use Rattle.mw_rules.specs.Counted.{most_subproofs}

-- no more members than those of the list of n
members_over : (n : ℕ) (x : Object) → n < length_object x → has_members n (conclusions_object x) ≡ false
members_over zero (Pair p x) l = refl
members_over (suc n) (Pair p x) l = members_over n x (omega arith)
members_over n (Natural k) l = absurd (omega arith)
members_over n (Symbol s) l = absurd (omega arith)

-- a test of as many members, where there are more
plain_over : (x extras : Object) (n : ℕ) (test : Bool) → n < length_object x → (same_object extras NIL && (has_members n (conclusions_object x) && test)) ≡ false
plain_over x extras n test l = and_right (same_object extras NIL) _ (and_left (has_members n (conclusions_object x)) test (members_over n x l))

rule_over : (b : Basis) (method : Method) (c x extras : Object) → IsOver (most_subproofs method) (length_object x) → rule_holds b.axioms b.theorems b.table b.profile (Some method) c (conclusions_object x) extras ≡ false
rule_over b Axiom c x extras l = plain_over x extras 0 _ l
rule_over b Theorem c x extras l = plain_over x extras 0 _ l
rule_over b PropositionalSchema c x extras l = plain_over x extras 0 _ l
rule_over b FunctionalEquality c x extras l = plain_over x extras 0 _ l
rule_over b BetaReduction c x extras l = plain_over x extras 0 _ l
rule_over b BaseEval c x extras l = plain_over x extras 0 _ l
rule_over b Expansion c x extras l = plain_over x extras 1 _ l
rule_over b Contraction c x extras l = plain_over x extras 1 _ l
rule_over b Associativity c x extras l = plain_over x extras 1 _ l
rule_over b Cut c x extras l = plain_over x extras 2 _ l
rule_over b Instantiation c x extras l = and_left (has_members 1 (conclusions_object x)) _ (members_over 1 x l)
rule_over b Induction c x extras l = absurd l

module _ (b : Basis) (os : List Object) where
  pub conclusions_formulas : (x : Object) (rs : List ℕ) → have_conclusions b.table x ≡ true → list_object os rs ≡ conclusions_object x → All (λ r. is_formula_object b.table (object_at os r) ≡ true) rs
  conclusions_formulas x [] h e = λ k d l. absurd (omega arith)
  conclusions_formulas (Natural n) (r ∷ rs) h e = cc
  conclusions_formulas (Symbol s) (r ∷ rs) h e = cc
  conclusions_formulas (Pair p ps) (r ∷ rs) h e =
      let both = and_parts (is_formula_object b.table (second_of p)) (have_conclusions b.table ps) h in
      All-cons (λ r. is_formula_object b.table (object_at os r) ≡ true) r rs (ap (is_formula_object b.table) (ap car e) ∙ both.0) (conclusions_formulas ps rs both.1 (ap cdr e))

  -- the test by the members of a proof
  abbrev by_parts : Bool → Object → Object → Object → Object → Bool
  by_parts shape method c subproofs extras =
      shape && (is_formula_object b.table c && (have_conclusions b.table subproofs && rule_holds b.axioms b.theorems b.table b.profile (method_among methods method) c (conclusions_object subproofs) extras))

  module _ (p : ℕ) (m : Members) (shape : true ≡ has_proof_shape (object_at os p)) (am : AreMembers os p m) where
    by_members : is_step_on b (object_at os p) ≡ by_parts true (object_at os m.method) (object_at os m.conclusion) (object_at os m.subproofs) (object_at os m.extras)
    by_members =
        let x = object_at os p in
        (ap (λ t. by_parts t (car x) (second_of x) (subproofs_of x) (fourth_of x)) (sym shape)
        ∙ (ap (λ z. by_parts true z (second_of x) (subproofs_of x) (fourth_of x)) (sym am.method_is)
        ∙ (ap (λ z. by_parts true (object_at os m.method) z (subproofs_of x) (fourth_of x)) (sym am.conclusion_is)
        ∙ (ap (λ z. by_parts true (object_at os m.method) (object_at os m.conclusion) z (fourth_of x)) (sym am.subproofs_are)
        ∙ ap (λ z. by_parts true (object_at os m.method) (object_at os m.conclusion) (object_at os m.subproofs) z) (sym am.extras_are)))))

    pub no_formula : is_formula_object b.table (object_at os m.conclusion) ≡ false → is_step_on b (object_at os p) ≡ false
    no_formula h = by_members ∙ and_left (is_formula_object b.table (object_at os m.conclusion)) _ h

    pub no_conclusions : have_conclusions b.table (object_at os m.subproofs) ≡ false → is_step_on b (object_at os p) ≡ false
    no_conclusions h = by_members ∙ and_right (is_formula_object b.table (object_at os m.conclusion)) _ (and_left (have_conclusions b.table (object_at os m.subproofs)) _ h)

    pub no_method : method_among methods (object_at os m.method) ≡ None → is_step_on b (object_at os p) ≡ false
    no_method h =
        by_members ∙ and_right (is_formula_object b.table (object_at os m.conclusion)) _ (and_right (have_conclusions b.table (object_at os m.subproofs)) _
        (ap (λ o. rule_holds b.axioms b.theorems b.table b.profile o (object_at os m.conclusion) (conclusions_object (object_at os m.subproofs)) (object_at os m.extras)) h))

    -- a rule takes no more subproofs than its method says
    pub too_many : (method : Method) → method_among methods (object_at os m.method) ≡ Some method → IsOver (most_subproofs method) (length_object (object_at os m.subproofs)) → is_step_on b (object_at os p) ≡ false
    too_many method named over =
        by_members ∙ and_right (is_formula_object b.table (object_at os m.conclusion)) _ (and_right (have_conclusions b.table (object_at os m.subproofs)) _
        (ap (λ o. rule_holds b.axioms b.theorems b.table b.profile o (object_at os m.conclusion) (conclusions_object (object_at os m.subproofs)) (object_at os m.extras)) named
        ∙ rule_over b method (object_at os m.conclusion) (object_at os m.subproofs) (object_at os m.extras) over))

    pub by_rule : (method : Method) (rs : List ℕ) → method_among methods (object_at os m.method) ≡ Some method → is_formula_object b.table (object_at os m.conclusion) ≡ true → AreConclusions b.table os m.subproofs rs → rule_holds b.axioms b.theorems b.table b.profile (Some method) (object_at os m.conclusion) (list_object os rs) (object_at os m.extras) ≡ is_step_on b (object_at os p)
    by_rule method rs named formula a =
        let rule = λ (o : Option Method) (cs : Object). rule_holds b.axioms b.theorems b.table b.profile o (object_at os m.conclusion) cs (object_at os m.extras) in
        ap (rule (Some method)) a.list_is
        ∙ (ap (λ o. rule o (conclusions_object (object_at os m.subproofs))) (sym named)
        ∙ sym (by_members ∙ ap₂ (λ f t. f && (t && rule (method_among methods (object_at os m.method)) (conclusions_object (object_at os m.subproofs)))) formula a.formulas))

pub below : (rs : List ℕ) (list p n : ℕ) → All (λ r. r < list) rs → list < p → p < n → All (λ r. r < n) rs
below rs list p n h l k = λ i d j. omega (arith, h i d j)

pub All-map : (P Q : ℕ → Type 0) (rs : List ℕ) → ((r : ℕ) → P r → Q r) → All P rs → All Q rs
All-map P Q rs f h = λ i d l. f _ (h i d l)

pub IfOk-map : {E : Type 0} (r : Result Bool E) (P Q : Bool → Type 0) → ((t : Bool) → P t → Q t) → IfOk r P → IfOk r Q
IfOk-map (Ok t) P Q f h = f t h
IfOk-map (Err e) P Q f h = h

pub IfOk-any : {E P : Type 0} (r : Result Bool E) → P → IfOk r (λ t. t ≡ true → P)
IfOk-any (Ok t) p = λ e. p
IfOk-any (Err e) p = tt
