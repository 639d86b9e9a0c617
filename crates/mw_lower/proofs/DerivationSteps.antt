-- A derivation by its members: it has the shape of a proof, its conclusion is a formula, its subproofs are derivations, and its rule holds.
use Rattle.std.proofs.Common.{◌≡◌, ℕ, Bool, true, false, ◌&&◌, ◌||◌, cond, List, [], Option, Some, None, refl, sym, ap, ap₂, ◌∙◌, ◌⊎◌, inl, inr, is_some}
use Rattle.std.proofs.lemmas.Bool.{or_cases}
use Rattle.mw_model.specs.Terms.Object.{Object, Natural, Symbol, Pair, NIL, same_name, same_object, nil_name, car, second_of, fourth_of, is_member}
use Rattle.mw_model.specs.Terms.Term.{ArityTable, Formula, formula_object, is_formula, IsFormula}
use Rattle.mw_model.specs.Terms.Reading.{formula_of, and_more, that, when}
use Rattle.mw_model.specs.Laws.Rules.{is_formula_object}
use Rattle.mw_model.proofs.Names.{same_object-eq}
use Rattle.mw_model.proofs.ReadBack.{formula_back}
use Rattle.mw_commands.specs.Commands.Derivation.{Rule}
use Rattle.mw_commands.specs.Commands.DerivationTest.{rules, rule_among, derives, derive_step}
use Rattle.mw_heap.specs.Objects.{object_at}
use Rattle.mw_proof.specs.Step.{has_proof_shape, subproofs_of}
use Rattle.mw_proof.specs.Members.{AreMembers}
use Rattle.mw_proof.specs.Gathered.{IsMadeOf, itself, subproof}
use Rattle.mw_proof.specs.Judging.{Basis}
use Rattle.mw_proof.specs.declared.members.Members.{Members}
use Rattle.mw_lower.specs.Turned.{derived_on, each_derived_on}

-- what a conclusion stands for
pub record StandsFor (A : ArityTable) (c : Object) : Type 0 where
  pub formula : Formula
  pub read : formula_of c ≡ Some formula
  pub formed : IsFormula A formula
  pub is : c ≡ formula_object formula

pub stands_for : (A : ArityTable) (c : Object) → is_formula_object A c ≡ true → StandsFor A c
stands_for A c h = go (formula_of c) refl h
  where
    formed : (F : Formula) (t : Bool) → is_some (when t (Some F)) ≡ true → t ≡ true
    formed F true k = refl
    formed F false k = cc

    go : (o : Option Formula) → formula_of c ≡ o → is_some (that (is_formula A) o) ≡ true → StandsFor A c
    go None e k = cc
    go (Some F) e k = record { formula = F; read = e; formed = formed F (is_formula A F) k; is = sym (formula_back c F e) }

pub none_more : {X : Type 0} (o : Option (List X)) → and_more None o ≡ None
none_more None = refl
none_more (Some xs) = refl

pub more_none : {X : Type 0} (o : Option X) → and_more o None ≡ None
more_none None = refl
more_none (Some x) = refl

module _ (b : Basis) where
  abbrev pub derived_by : Option Rule → Option Formula → Option (List Formula) → Option Object → Option Formula
  derived_by r F Fs x = derive_step b.axioms b.theorems b.table b.profile r F Fs x

  -- what lacks a member is no derivation
  pub no_rule_derived : (F : Option Formula) (Fs : Option (List Formula)) (x : Option Object) → derived_by None F Fs x ≡ None
  no_rule_derived F Fs x = refl

  no_extras_derived : (r : Option Rule) (F : Option Formula) (Fs : Option (List Formula)) → derived_by r F Fs None ≡ None
  no_extras_derived None F Fs = refl
  no_extras_derived (Some r) None Fs = refl
  no_extras_derived (Some r) (Some F) None = refl
  no_extras_derived (Some r) (Some F) (Some Fs) = refl

  pub no_list_derived : (r : Option Rule) (F : Option Formula) (x : Option Object) → derived_by r F None x ≡ None
  no_list_derived None F x = refl
  no_list_derived (Some r) None x = refl
  no_list_derived (Some r) (Some F) x = refl

  pub no_formula_derived : (r : Option Rule) (F : Option Formula) (Fs : Option (List Formula)) (x : Object) → is_some (that (is_formula b.table) F) ≡ false → derived_by r F Fs (Some x) ≡ None
  no_formula_derived None F Fs x h = refl
  no_formula_derived (Some r) None Fs x h = refl
  no_formula_derived (Some r) (Some F) None x h = refl
  no_formula_derived (Some r) (Some F) (Some Fs) x h = go (is_formula b.table F) (derives b.axioms b.theorems b.table b.profile r F Fs x) h
    where
      go : (s t : Bool) → is_some (when s (Some F)) ≡ false → when (s && t) (Some F) ≡ None
      go true t k = cc
      go false t k = refl

  -- where all stands
  pub holds_derived : (r : Rule) (F : Formula) (Fs : List Formula) (x : Object) → IsFormula b.table F → derives b.axioms b.theorems b.table b.profile r F Fs x ≡ true → derived_by (Some r) (Some F) (Some Fs) (Some x) ≡ Some F
  holds_derived r F Fs x i h = ap₂ (λ s t. when (s && t) (Some F)) i h

  pub fails_derived : (r : Rule) (F : Formula) (Fs : List Formula) (x : Object) → IsFormula b.table F → derives b.axioms b.theorems b.table b.profile r F Fs x ≡ false → derived_by (Some r) (Some F) (Some Fs) (Some x) ≡ None
  fails_derived r F Fs x i h = ap₂ (λ s t. when (s && t) (Some F)) i h

  abbrev by_parts : Object → Object → Object → Object → Option Formula
  by_parts m c ps x = derived_by (rule_among rules m) (formula_of c) (each_derived_on b ps) (Some x)

  or-false : (t : Bool) → (t || false) ≡ true → t ≡ true
  or-false true h = refl
  or-false false h = h

  or-none : (t : Bool) → (t || false) ≡ false → t ≡ false
  or-none true h = h
  or-none false h = refl

  pub shape_derived : (p : Object) → has_proof_shape p ≡ true → derived_on b p ≡ by_parts (car p) (second_of p) (subproofs_of p) (fourth_of p)
  shape_derived (Pair m (Pair c (Pair ps (Pair x z)))) h = ap (λ t. derived_by (rule_among rules m) (formula_of c) (each_derived_on b ps) (when t (Some x))) h
  shape_derived (Pair m (Pair c (Pair ps (Symbol s)))) h =
      ap (λ t. derived_by (rule_among rules m) (formula_of c) (each_derived_on b ps) (cond t (Some NIL) None)) (or-false (same_name s nil_name) h)
  shape_derived (Pair m (Pair c (Symbol s))) h = ap (λ t. derived_by (rule_among rules m) (formula_of c) (Some []) (cond t (Some NIL) None)) (or-false (same_name s nil_name) h)
  shape_derived (Pair m (Pair c (Pair ps (Natural n)))) h = cc
  shape_derived (Pair m (Pair c (Natural n))) h = cc
  shape_derived (Pair m (Natural n)) h = cc
  shape_derived (Pair m (Symbol n)) h = cc
  shape_derived (Natural n) h = cc
  shape_derived (Symbol n) h = cc

  pub no_shape_derived : (p : Object) → has_proof_shape p ≡ false → derived_on b p ≡ None
  no_shape_derived (Pair m (Pair c (Pair ps (Pair x z)))) h =
      ap (λ t. derived_by (rule_among rules m) (formula_of c) (each_derived_on b ps) (when t (Some x))) h ∙ no_extras_derived (rule_among rules m) (formula_of c) (each_derived_on b ps)
  no_shape_derived (Pair m (Pair c (Pair ps (Symbol s)))) h =
      ap (λ t. derived_by (rule_among rules m) (formula_of c) (each_derived_on b ps) (cond t (Some NIL) None)) (or-none (same_name s nil_name) h)
      ∙ no_extras_derived (rule_among rules m) (formula_of c) (each_derived_on b ps)
  no_shape_derived (Pair m (Pair c (Symbol s))) h =
      ap (λ t. derived_by (rule_among rules m) (formula_of c) (Some []) (cond t (Some NIL) None)) (or-none (same_name s nil_name) h) ∙ no_extras_derived (rule_among rules m) (formula_of c) (Some [])
  no_shape_derived (Pair m (Pair c (Pair ps (Natural n)))) h = no_extras_derived (rule_among rules m) (formula_of c) (each_derived_on b ps)
  no_shape_derived (Pair m (Pair c (Natural n))) h = refl
  no_shape_derived (Pair m (Natural n)) h = refl
  no_shape_derived (Pair m (Symbol n)) h = refl
  no_shape_derived (Natural n) h = refl
  no_shape_derived (Symbol n) h = refl

  -- by the members that were read
  module _ (os : List Object) (p : ℕ) (m : Members) (shape : true ≡ has_proof_shape (object_at os p)) (am : AreMembers os p m) where
    pub members_derived : derived_on b (object_at os p) ≡ by_parts (object_at os m.method) (object_at os m.conclusion) (object_at os m.subproofs) (object_at os m.extras)
    members_derived =
        let x = object_at os p in
        shape_derived x (sym shape)
        ∙ (ap (λ z. by_parts z (second_of x) (subproofs_of x) (fourth_of x)) (sym am.method_is)
        ∙ (ap (λ z. by_parts (object_at os m.method) z (subproofs_of x) (fourth_of x)) (sym am.conclusion_is)
        ∙ (ap (λ z. by_parts (object_at os m.method) (object_at os m.conclusion) z (fourth_of x)) (sym am.subproofs_are)
        ∙ ap (λ z. by_parts (object_at os m.method) (object_at os m.conclusion) (object_at os m.subproofs) z) (sym am.extras_are))))

    pub no_formula : is_formula_object b.table (object_at os m.conclusion) ≡ false → derived_on b (object_at os p) ≡ None
    no_formula h = members_derived ∙ no_formula_derived (rule_among rules (object_at os m.method)) (formula_of (object_at os m.conclusion)) (each_derived_on b (object_at os m.subproofs)) (object_at os m.extras) h

    pub no_subproofs : each_derived_on b (object_at os m.subproofs) ≡ None → derived_on b (object_at os p) ≡ None
    no_subproofs h =
        members_derived ∙ (ap (λ o. derived_by (rule_among rules (object_at os m.method)) (formula_of (object_at os m.conclusion)) o (Some (object_at os m.extras))) h
        ∙ no_list_derived (rule_among rules (object_at os m.method)) (formula_of (object_at os m.conclusion)) (Some (object_at os m.extras)))

  -- so where one of what it is made of is no derivation, it is none
  member_derived : (x r : Object) → is_member r x ≡ true → derived_on b r ≡ None → each_derived_on b x ≡ None
  member_derived (Natural n) r k none = cc
  member_derived (Symbol s) r k none = cc
  member_derived (Pair p ps) r k none = go (or_cases (same_object r p) (is_member r ps) k) (member_derived ps r)
    where
      go : (same_object r p ≡ true) ⊎ (is_member r ps ≡ true) → (is_member r ps ≡ true → derived_on b r ≡ None → each_derived_on b ps ≡ None) → and_more (derived_on b p) (each_derived_on b ps) ≡ None
      go (inl e) later = ap (λ o. and_more o (each_derived_on b ps)) (ap (derived_on b) (sym (same_object-eq r p e)) ∙ none) ∙ none_more (each_derived_on b ps)
      go (inr i) later = ap (and_more (derived_on b p)) (later i none) ∙ more_none (derived_on b p)

  pub no_derivation : (p q : Object) → IsMadeOf p q → derived_on b q ≡ None → derived_on b p ≡ None
  no_derivation p q itself none = none
  no_derivation p r (subproof q r' made s) none =
      no_derivation p q made
      (shape_derived q s.0 ∙ (ap (λ o. derived_by (rule_among rules (car q)) (formula_of (second_of q)) o (Some (fourth_of q))) (member_derived (subproofs_of q) r s.1 none)
      ∙ no_list_derived (rule_among rules (car q)) (formula_of (second_of q)) (Some (fourth_of q))))
