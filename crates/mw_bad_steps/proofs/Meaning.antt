-- The conclusion that may be meant, and the one with which a step follows.
use Rattle.std.proofs.Common.{◌≡◌, ℕ, Bool, true, false, ◌&&◌, not, List, [], ◌∷◌, Option, Some, None, is_some, option_map, refl, sym, ap, ◌∙◌, subst}
use Rattle.std.specs.Cmp.{both_ways as same_test}
use Rattle.mw_model.specs.Terms.Object.{Object, list4}
use Rattle.mw_model.specs.Terms.Term.{Term, Terms, Variable, Constant, If, Call, Lambda, NoTerms, More, Formula, Equal, Not, Or, ArityTable, IsFormula, is_formula, formula_object}
use Rattle.mw_model.specs.Terms.Reading.{formula_of, when, that, map2}
use Rattle.mw_model.specs.Terms.Substitution.{Substitution, substitute_formula, substitution_of, is_substitution}
use Rattle.mw_model.specs.Values.Primitive.{Profile, Primitive, primitive_named, apply}
use Rattle.mw_model.specs.Values.Truth.{Each}
use Rattle.mw_model.specs.Proofs.Proof.{Method, Axiom, Theorem, PropositionalSchema, FunctionalEquality, BetaReduction, BaseEval, Expansion, Contraction, Associativity, Cut, Instantiation, Induction, unless_equal, three_terms}
use Rattle.mw_model.specs.Proofs.Judgment.{methods, method_among, last_disjunct, constant_values, follows, judge_step, judge_each}
use Rattle.mw_model.specs.Events.Fate.{is_out_of_range}
use Rattle.mw_model.proofs.Readable.{Readable, AreReadable, ReadableFormula, readable_formula, formula_readable, substitute-readable, substitute_formula-readable, substitution_readable, actuals_for-readable}
use Rattle.mw_model.proofs.RulesExact.{passes, that-present}
use Rattle.mw_heap.specs.Objects.{object_at, IsIn}
use Rattle.mw_proof.specs.Judging.{Basis, is_proof_on, are_proofs_on, is_step_on}
use Rattle.mw_proof.proofs.StepExact.{are_proofs-is}
use Rattle.mw_commands.specs.Commands.ExplanationSteps.{are_extras, candidate, equal_calls, mended}
use Rattle.mw_bad_steps.specs.Candidates.{IsCandidate, IsMended, equality_of, schema_of, expansion_of, contraction_of, associativity_of, cut_of, beta_of, value_of_call, computed_of, one_of, by_premises, meant_of}
use Rattle.mw_bad_steps.proofs.OneStep.{proof_holds, proof_by_step}

-- ---- the candidates by method are those of the definition

equality_is : (F : Formula) → equal_calls F ≡ equality_of F
equality_is (Not F) = refl
equality_is (Or F G) = refl
equality_is (Equal (Variable x) u) = refl
equality_is (Equal (Constant c) u) = refl
equality_is (Equal (Lambda xs b ts) u) = refl
equality_is (Equal (Call f ts) (Variable x)) = refl
equality_is (Equal (Call f ts) (Constant c)) = refl
equality_is (Equal (Call f ts) (If a b c)) = refl
equality_is (Equal (Call f ts) (Call g us)) = refl
equality_is (Equal (Call f ts) (Lambda xs b us)) = refl
equality_is (Equal (If a b c) (Variable x)) = refl
equality_is (Equal (If a b c) (Constant k)) = refl
equality_is (Equal (If a b c) (If d e f)) = refl
equality_is (Equal (If a b c) (Call g us)) = refl
equality_is (Equal (If a b c) (Lambda xs d us)) = refl

module _ (P : Profile) where
  schema_is : (F : Formula) (Fs : List Formula) (x : Object) → candidate P PropositionalSchema F Fs x ≡ schema_of F
  schema_is (Equal a b) Fs x = refl
  schema_is (Not F) Fs x = refl
  schema_is (Or F G) Fs x = refl

  beta_is : (F : Formula) (Fs : List Formula) (x : Object) → candidate P BetaReduction F Fs x ≡ beta_of F
  beta_is (Not F) Fs x = refl
  beta_is (Or F G) Fs x = refl
  beta_is (Equal (Variable v) u) Fs x = refl
  beta_is (Equal (Constant c) u) Fs x = refl
  beta_is (Equal (If a b c) u) Fs x = refl
  beta_is (Equal (Call f ts) u) Fs x = refl
  beta_is (Equal (Lambda xs b ts) u) Fs x = refl

  call_is : (t : Term) (o : Option Primitive) (q : Option (List Object)) → map2 (λ p cs. Equal t (Constant (apply p cs))) o q ≡ option_map (λ v. Equal t (Constant v)) (map2 apply o q)
  call_is t None q = refl
  call_is t (Some p) None = refl
  call_is t (Some p) (Some cs) = refl

  computed_is : (F : Formula) (Fs : List Formula) (x : Object) → candidate P BaseEval F Fs x ≡ computed_of P F
  computed_is (Not F) Fs x = refl
  computed_is (Or F G) Fs x = refl
  computed_is (Equal (Variable v) u) Fs x = refl
  computed_is (Equal (Constant c) u) Fs x = refl
  computed_is (Equal (Lambda xs b ts) u) Fs x = refl
  computed_is (Equal (Call f ts) u) Fs x = call_is (Call f ts) (primitive_named P f) (constant_values ts)
  computed_is (Equal (If (Constant a) (Constant b) (Constant c)) u) Fs x = refl
  computed_is (Equal (If (Constant a) (Constant b) (Variable v)) u) Fs x = refl
  computed_is (Equal (If (Constant a) (Constant b) (If d e f)) u) Fs x = refl
  computed_is (Equal (If (Constant a) (Constant b) (Call f ts)) u) Fs x = refl
  computed_is (Equal (If (Constant a) (Constant b) (Lambda xs d ts)) u) Fs x = refl
  computed_is (Equal (If (Constant a) (Variable v) c) u) Fs x = refl
  computed_is (Equal (If (Constant a) (If d e f) c) u) Fs x = refl
  computed_is (Equal (If (Constant a) (Call f ts) c) u) Fs x = refl
  computed_is (Equal (If (Constant a) (Lambda xs d ts) c) u) Fs x = refl
  computed_is (Equal (If (Variable v) b c) u) Fs x = refl
  computed_is (Equal (If (If d e f) b c) u) Fs x = refl
  computed_is (Equal (If (Call f ts) b c) u) Fs x = refl
  computed_is (Equal (If (Lambda xs d ts) b c) u) Fs x = refl

  expansion_is : (F : Formula) (Fs : List Formula) (x : Object) → candidate P Expansion F Fs x ≡ by_premises Expansion F Fs x
  expansion_is (Or F G) [] x = refl
  expansion_is (Or F G) (H ∷ Fs) x = refl
  expansion_is (Equal a b) [] x = refl
  expansion_is (Equal a b) (H ∷ Fs) x = refl
  expansion_is (Not F) [] x = refl
  expansion_is (Not F) (H ∷ Fs) x = refl

  contraction_is : (F : Formula) (Fs : List Formula) (x : Object) → candidate P Contraction F Fs x ≡ by_premises Contraction F Fs x
  contraction_is F [] x = refl
  contraction_is F (Or G H ∷ Fs) x = refl
  contraction_is F (Equal a b ∷ Fs) x = refl
  contraction_is F (Not G ∷ Fs) x = refl

  associativity_is : (F : Formula) (Fs : List Formula) (x : Object) → candidate P Associativity F Fs x ≡ by_premises Associativity F Fs x
  associativity_is F [] x = refl
  associativity_is F (Or G (Or H K) ∷ Fs) x = refl
  associativity_is F (Or G (Equal a b) ∷ Fs) x = refl
  associativity_is F (Or G (Not H) ∷ Fs) x = refl
  associativity_is F (Equal a b ∷ Fs) x = refl
  associativity_is F (Not G ∷ Fs) x = refl

  cut_is : (F : Formula) (Fs : List Formula) (x : Object) → candidate P Cut F Fs x ≡ by_premises Cut F Fs x
  cut_is F [] x = refl
  cut_is F (Or G H ∷ []) x = refl
  cut_is F (Equal a b ∷ []) x = refl
  cut_is F (Not G ∷ []) x = refl
  cut_is F (Or G H ∷ Or K L ∷ Fs) x = refl
  cut_is F (Or G H ∷ Equal a b ∷ Fs) x = refl
  cut_is F (Or G H ∷ Not K ∷ Fs) x = refl
  cut_is F (Equal a b ∷ K ∷ Fs) x = refl
  cut_is F (Not G ∷ K ∷ Fs) x = refl

  instance_is : (F : Formula) (Fs : List Formula) (x : Object) → candidate P Instantiation F Fs x ≡ by_premises Instantiation F Fs x
  instance_is F [] x = refl
  instance_is F (G ∷ Fs) x = refl

  pub candidate_is : (m : Method) (F : Formula) (Fs : List Formula) (x : Object) → candidate P m F Fs x ≡ meant_of P m F Fs x
  candidate_is Axiom F Fs x = refl
  candidate_is Theorem F Fs x = refl
  candidate_is PropositionalSchema F Fs x = schema_is F Fs x
  candidate_is FunctionalEquality F Fs x = equality_is (last_disjunct F)
  candidate_is BetaReduction F Fs x = beta_is F Fs x
  candidate_is BaseEval F Fs x = computed_is F Fs x
  candidate_is Expansion F Fs x = expansion_is F Fs x
  candidate_is Contraction F Fs x = contraction_is F Fs x
  candidate_is Associativity F Fs x = associativity_is F Fs x
  candidate_is Cut F Fs x = cut_is F Fs x
  candidate_is Instantiation F Fs x = instance_is F Fs x
  candidate_is Induction F Fs x = refl

-- ---- they can be read back

abbrev AreRead : Option Formula → Type 0
AreRead None = Unit {0}
AreRead (Some G) = ReadableFormula G

last_read : (F : Formula) → ReadableFormula F → ReadableFormula (last_disjunct F)
last_read (Equal a b) i = i
last_read (Not F) i = i
last_read (Or F G) i = last_read G i.1

unless_read : (ts us : Terms) (F : Formula) → AreReadable ts → AreReadable us → ReadableFormula F → ReadableFormula (unless_equal ts us F)
unless_read NoTerms us F i j k = k
unless_read (More t ts) NoTerms F i j k = k
unless_read (More t ts) (More u us) F i j k = ((i.0, j.0), unless_read ts us F i.1 j.1 k)

calls_read : (F : Formula) → ReadableFormula F → AreRead (equal_calls F)
calls_read (Not F) i = tt
calls_read (Or F G) i = tt
calls_read (Equal (Variable x) u) i = tt
calls_read (Equal (Constant c) u) i = tt
calls_read (Equal (Lambda xs b ts) u) i = tt
calls_read (Equal (Call f ts) (Variable x)) i = tt
calls_read (Equal (Call f ts) (Constant c)) i = tt
calls_read (Equal (Call f ts) (If a b c)) i = tt
calls_read (Equal (Call f ts) (Call g us)) i = unless_read ts us (Equal (Call f ts) (Call g us)) i.0.1 i.1.1 i
calls_read (Equal (Call f ts) (Lambda xs b us)) i = tt
calls_read (Equal (If a b c) (Variable x)) i = tt
calls_read (Equal (If a b c) (Constant k)) i = tt
calls_read (Equal (If a b c) (If d e f)) i = unless_read (three_terms a b c) (three_terms d e f) (Equal (If a b c) (If d e f)) (i.0.0, (i.0.1, (i.0.2, tt))) (i.1.0, (i.1.1, (i.1.2, tt))) i
calls_read (Equal (If a b c) (Call g us)) i = tt
calls_read (Equal (If a b c) (Lambda xs d us)) i = tt

beta_read : (F : Formula) → ReadableFormula F → AreRead (beta_of F)
beta_read (Not F) i = tt
beta_read (Or F G) i = tt
beta_read (Equal (Variable v) u) i = tt
beta_read (Equal (Constant c) u) i = tt
beta_read (Equal (If a b c) u) i = tt
beta_read (Equal (Call f ts) u) i = tt
beta_read (Equal (Lambda xs b ts) u) i = (i.0, substitute-readable _ (actuals_for-readable xs ts i.0.1) b i.0.0)

value_read : (t : Term) (o : Option Object) → Readable t → AreRead (option_map (λ v. Equal t (Constant v)) o)
value_read t None i = tt
value_read t (Some v) i = (i, tt)

computed_read : (P : Profile) (F : Formula) → ReadableFormula F → AreRead (computed_of P F)
computed_read P (Not F) i = tt
computed_read P (Or F G) i = tt
computed_read P (Equal t u) i = value_read t (value_of_call P t) i.0

schema_read : (F : Formula) → ReadableFormula F → AreRead (schema_of F)
schema_read (Equal a b) i = tt
schema_read (Not F) i = tt
schema_read (Or F G) i = (i.1, i.1)

expansion_read : (F G : Formula) → ReadableFormula F → ReadableFormula G → AreRead (expansion_of F G)
expansion_read (Equal a b) G i j = tt
expansion_read (Not F) G i j = tt
expansion_read (Or F H) G i j = (i.0, j)

contraction_read : (G : Formula) → ReadableFormula G → AreRead (contraction_of G)
contraction_read (Equal a b) i = tt
contraction_read (Not F) i = tt
contraction_read (Or F H) i = i.0

associativity_read : (G : Formula) → ReadableFormula G → AreRead (associativity_of G)
associativity_read (Equal a b) i = tt
associativity_read (Not F) i = tt
associativity_read (Or F (Equal a b)) i = tt
associativity_read (Or F (Not H)) i = tt
associativity_read (Or F (Or H K)) i = ((i.0, i.1.0), i.1.1)

cut_read : (F G : Formula) → ReadableFormula F → ReadableFormula G → AreRead (cut_of F G)
cut_read (Equal a b) G i j = tt
cut_read (Not F) G i j = tt
cut_read (Or F H) (Equal a b) i j = tt
cut_read (Or F H) (Not G) i j = tt
cut_read (Or F H) (Or K L) i j = (i.1, j.1)

instance_read : (A : ArityTable) (G : Formula) (o : Option Substitution) → ReadableFormula G → passes (is_substitution A) o ≡ true → AreRead (option_map (λ s. substitute_formula s G) o)
instance_read A G None i h = tt
instance_read A G (Some s) i h = substitute_formula-readable s (substitution_readable A s h) G i

one_read : (A : ArityTable) (m : Method) (F G : Formula) (x : Object) → ReadableFormula F → ReadableFormula G → are_extras A m x ≡ true → AreRead (one_of m F G x)
one_read A Axiom F G x i j h = tt
one_read A Theorem F G x i j h = tt
one_read A PropositionalSchema F G x i j h = tt
one_read A FunctionalEquality F G x i j h = tt
one_read A BetaReduction F G x i j h = tt
one_read A BaseEval F G x i j h = tt
one_read A Expansion F G x i j h = expansion_read F G i j
one_read A Contraction F G x i j h = contraction_read G j
one_read A Associativity F G x i j h = associativity_read G j
one_read A Cut F G x i j h = tt
one_read A Instantiation F G x i j h = instance_read A G (substitution_of x) j (sym (that-present (is_substitution A) (substitution_of x)) ∙ h)
one_read A Induction F G x i j h = tt

module _ (A : ArityTable) (P : Profile) (F : Formula) (i : ReadableFormula F) (x : Object) where
  premises_read : (m : Method) (Fs : List Formula) → Each ReadableFormula Fs → are_extras A m x ≡ true → AreRead (by_premises m F Fs x)
  premises_read m [] j h = tt
  premises_read Cut (G ∷ []) j h = tt
  premises_read Cut (G ∷ H ∷ Fs) j h = cut_read G H j.0 j.1.0
  premises_read Axiom (G ∷ Fs) j h = tt
  premises_read Theorem (G ∷ Fs) j h = tt
  premises_read PropositionalSchema (G ∷ Fs) j h = tt
  premises_read FunctionalEquality (G ∷ Fs) j h = tt
  premises_read BetaReduction (G ∷ Fs) j h = tt
  premises_read BaseEval (G ∷ Fs) j h = tt
  premises_read Expansion (G ∷ Fs) j h = one_read A Expansion F G x i j.0 h
  premises_read Contraction (G ∷ Fs) j h = one_read A Contraction F G x i j.0 h
  premises_read Associativity (G ∷ Fs) j h = one_read A Associativity F G x i j.0 h
  premises_read Instantiation (G ∷ Fs) j h = one_read A Instantiation F G x i j.0 h
  premises_read Induction (G ∷ Fs) j h = tt

  meant_read : (m : Method) (Fs : List Formula) → Each ReadableFormula Fs → are_extras A m x ≡ true → AreRead (meant_of P m F Fs x)
  meant_read Axiom Fs j h = tt
  meant_read Theorem Fs j h = tt
  meant_read PropositionalSchema Fs j h = schema_read F i
  meant_read FunctionalEquality Fs j h = subst AreRead (equality_is (last_disjunct F)) (calls_read (last_disjunct F) (last_read F i))
  meant_read BetaReduction Fs j h = beta_read F i
  meant_read BaseEval Fs j h = computed_read P F i
  meant_read Expansion Fs j h = premises_read Expansion Fs j h
  meant_read Contraction Fs j h = premises_read Contraction Fs j h
  meant_read Associativity Fs j h = premises_read Associativity Fs j h
  meant_read Cut Fs j h = premises_read Cut Fs j h
  meant_read Instantiation Fs j h = premises_read Instantiation Fs j h
  meant_read Induction Fs j h = tt

-- ---- the one with which the step follows

some_when : (t : Bool) (G : Formula) → is_some (when t (Some G)) ≡ t
some_when true G = refl
some_when false G = refl

and_skip : (f r w : Bool) → r ≡ false → (f && (not r && w)) ≡ (f && w)
and_skip f true w h = cc
and_skip f false w h = refl

and_past : (f r w : Bool) → r ≡ true → (f && (not r && w)) ≡ false
and_past true true w h = refl
and_past false true w h = refl
and_past f false w h = cc

each_read : (A : ArityTable) (Fs : List Formula) → Each (IsFormula A) Fs → Each ReadableFormula Fs
each_read A [] h = tt
each_read A (F ∷ Fs) h = (formula_readable A F h.0, each_read A Fs h.1)

module _ (b : Basis) (m : Method) (F : Formula) (Fs : List Formula) (mo ps x : Object) (is_m : method_among methods mo ≡ Some m) (is_Fs : judge_each b.axioms b.theorems b.table b.profile ps ≡ Some Fs) where
  abbrev holds_with : Formula → Bool
  holds_with G = follows b.axioms b.theorems b.table b.profile m G Fs x

  abbrev step_with : Object → Object
  step_with y = list4 mo y ps x

  judged : (G : Formula) → ReadableFormula G → is_proof_on b (step_with (formula_object G)) ≡ (is_formula b.table G && holds_with G)
  judged G r =
      ap (λ o. is_some (judge_step b.axioms b.theorems b.table b.profile o (formula_of (formula_object G)) (judge_each b.axioms b.theorems b.table b.profile ps) x)) is_m
      ∙ (ap (λ o. is_some (judge_step b.axioms b.theorems b.table b.profile (Some m) o (judge_each b.axioms b.theorems b.table b.profile ps) x)) (readable_formula G r)
      ∙ (ap (λ o. is_some (judge_step b.axioms b.theorems b.table b.profile (Some m) (Some G) o x)) is_Fs ∙ some_when (is_formula b.table G && holds_with G) G))

  stepped : (G : Formula) → ReadableFormula G → is_step_on b (step_with (formula_object G)) ≡ (is_formula b.table G && holds_with G)
  stepped G r =
      let p = step_with (formula_object G) in
      let are : are_proofs_on b ps ≡ true = sym (are_proofs-is b.axioms b.theorems b.table b.profile ps) ∙ ap is_some is_Fs in
      same_test (is_step_on b p) (is_formula b.table G && holds_with G) (λ h. sym (judged G r) ∙ proof_by_step b p h are) (λ h. proof_holds b p (judged G r ∙ h))

  abbrev Mended : Option Formula → Option Formula
  Mended o = that (λ G. is_formula b.table G && (not (is_out_of_range (formula_object G)) && holds_with G)) o

  module _ (os : List Object) where
    none_meant : (o : Option Formula) → IsCandidate os o None → IsMended os (Mended o) None
    none_meant None h = tt
    none_meant (Some G) h = subst (λ t. IsMended os (when t (Some G)) None) (sym (and_past (is_formula b.table G) (is_out_of_range (formula_object G)) (holds_with G) h)) tt

    one_meant : (o : Option Formula) (new : List Object) (r : ℕ) (s : Bool) → AreRead o → IsCandidate os o (Some r) → IsIn new r → object_at new r ≡ object_at os r → is_out_of_range (object_at os r) ≡ false → s ≡ is_step_on b (step_with (object_at os r)) → (s ≡ true → IsMended new (Mended o) (Some r)) × (s ≡ false → IsMended new (Mended o) None)
    one_meant None new r s i h j e n d = absurd h
    one_meant (Some G) new r s i h j e n d =
        let in_range : is_out_of_range (formula_object G) ≡ false = ap is_out_of_range (sym h.1) ∙ n in
        let flag = and_skip (is_formula b.table G) (is_out_of_range (formula_object G)) (holds_with G) in_range in
        let same = sym (stepped G i) ∙ (ap (λ y. is_step_on b (step_with y)) (sym h.1) ∙ sym d) in (
          λ k. subst (λ t. IsMended new (when t (Some G)) (Some r)) (sym (flag ∙ (same ∙ k))) (j, e ∙ h.1),
          λ k. subst (λ t. IsMended new (when t (Some G)) None) (sym (flag ∙ (same ∙ k))) tt,
        )

    -- by the definition
    abbrev Defined : Option Formula
    Defined = mended b.axioms b.theorems b.table b.profile m F Fs x

    defined : Defined ≡ Mended (meant_of b.profile m F Fs x)
    defined = ap Mended (candidate_is b.profile m F Fs x)

    pub nothing_meant : IsCandidate os (meant_of b.profile m F Fs x) None → IsMended os Defined None
    nothing_meant h = subst (λ o. IsMended os o None) (sym defined) (none_meant (meant_of b.profile m F Fs x) h)

    module _ (f : IsFormula b.table F) (fs : Each (IsFormula b.table) Fs) (ex : are_extras b.table m x ≡ true) (new : List Object) (r : ℕ) (s : Bool) (c : IsCandidate os (meant_of b.profile m F Fs x) (Some r)) (j : IsIn new r) (e : object_at new r ≡ object_at os r) (n : is_out_of_range (object_at os r) ≡ false) (d : s ≡ is_step_on b (step_with (object_at os r))) where
      both : (s ≡ true → IsMended new (Mended (meant_of b.profile m F Fs x)) (Some r)) × (s ≡ false → IsMended new (Mended (meant_of b.profile m F Fs x)) None)
      both = one_meant (meant_of b.profile m F Fs x) new r s (meant_read b.table b.profile F (formula_readable b.table F f) x m Fs (each_read b.table Fs fs) ex) c j e n d

      pub meant_follows : s ≡ true → IsMended new Defined (Some r)
      meant_follows k = subst (λ o. IsMended new o (Some r)) (sym defined) (both.0 k)

      pub meant_fails : s ≡ false → IsMended new Defined None
      meant_fails k = subst (λ o. IsMended new o None) (sym defined) (both.1 k)
