-- The reference checker's step is the table of methods.
use Rattle.std.proofs.Common.{◌≡◌, ℕ, ◌<◌, Bool, true, false, ◌&&◌, cond, eqb, List, [], ◌∷◌, Option, Some, None, refl, sym, ap, ap₂, ◌∙◌, subst, arith}
use Rattle.std.proofs.lemmas.Bool.{ne_eqb}
use Rattle.mw_model.specs.Terms.Object.{Name, Object, Natural, Symbol, named, same_object, NIL, car, second_of, third_of, fourth_of, truth_of, is_member}
use Rattle.mw_model.specs.Terms.Term.{Formula, formula_object, ArityTable, arity_of, table_object, is_function_name, IsFormula}
use Rattle.mw_model.specs.Values.Primitive.{Profile, choose}
use Rattle.mw_model.specs.Terms.Substitution.{substitution_of}
use Rattle.mw_model.specs.Values.Truth.{Each}
use Rattle.mw_model.specs.Proofs.Proof.{Method, Axiom, Theorem, PropositionalSchema, FunctionalEquality, BetaReduction, BaseEval, Expansion, Contraction, Associativity, Cut, Instantiation, Induction, method_name}
use Rattle.mw_model.specs.Proofs.Judgment.{methods, method_among, is_schema, last_disjunct, is_functional_equality, is_beta, is_base_eval, is_expansion, is_contraction, is_associativity, is_cut, is_instance, follows}
use Rattle.mw_model.proofs.Rows.{of_none, of_one, of_two, rows, follows-rows}
use Rattle.mw_model.specs.Laws.RulesInduction.{formulas_object, length_object}
use Rattle.mw_model.proofs.Names.{same_object-eq}
use Rattle.mw_model.proofs.Readable.{formula_readable}
use Rattle.mw_model.proofs.Judging.{method_among-name, method_back}
use Rattle.mw_model.proofs.RulesExact.{object_is_schema-exact, object_is_expansion-exact, object_is_contraction-exact, object_is_associativity-exact, object_is_cut-exact, object_is_instance-exact}
use Rattle.mw_model.proofs.InductionExact.{object_is_induction-exact}
use Rattle.mw_model.proofs.BuiltInAnswers.{answer, answer-body}
use Rattle.mw_reflect.proofs.ListAnswers.{passes, len-answer, memberp-answer}
use Rattle.mw_reflect.proofs.RuleAnswers.{schema-answer, expansion-answer, contraction-answer, associativity-answer, cut-answer, beta-answer}
use Rattle.mw_reflect.proofs.EqualityAnswers.{functional_equality-answer}
use Rattle.mw_reflect.proofs.BaseEvalAnswers.{base_eval-answer}
use Rattle.mw_reflect.proofs.InductionAnswers.{instantiation-answer, induction-answer}

-- the number of subproofs, and the value with none, one or two
abbrev by_number : Object → Object → Object → Object → Object
by_number n none one two = choose (truth_of (same_object n (Natural 0))) none (choose (truth_of (same_object n (Natural 1))) one (choose (truth_of (same_object n (Natural 2))) two NIL))

abbrev number_of : List Formula → Object
number_of Fs = Natural (length_object (formulas_object Fs))

many : (G H K : Formula) (Fs : List Formula) (n : ℕ) → n < 3 → eqb (length_object (formulas_object (G ∷ H ∷ K ∷ Fs))) n ≡ false
many G H K Fs n l = ne_eqb (length_object (formulas_object (G ∷ H ∷ K ∷ Fs))) n (λ e. omega (arith, e, l))

for_many : (G H K : Formula) (Fs : List Formula) (none one two : Object) → by_number (number_of (G ∷ H ∷ K ∷ Fs)) none one two ≡ NIL
for_many G H K Fs none one two =
    let n = length_object (formulas_object (G ∷ H ∷ K ∷ Fs)) in
    ap (λ b. choose (truth_of b) none (choose (truth_of (eqb n 1)) one (choose (truth_of (eqb n 2)) two NIL))) (many G H K Fs 0 (omega arith))
    ∙ (ap (λ b. choose (truth_of b) one (choose (truth_of (eqb n 2)) two NIL)) (many G H K Fs 1 (omega arith))
    ∙ ap (λ b. choose (truth_of b) two NIL) (many G H K Fs 2 (omega arith)))

-- where the extras are NIL
no_extras : (x v : Object) (b : Bool) → v ≡ truth_of b → choose x NIL v ≡ truth_of (same_object x NIL && b)
no_extras x v b h = go (same_object x NIL)
  where
    go : (t : Bool) → cond t v NIL ≡ truth_of (t && b)
    go true = h
    go false = refl

with_none : (x : Object) (Fs : List Formula) (v : Object) (b : Bool) → v ≡ truth_of b → choose x NIL (by_number (number_of Fs) v NIL NIL) ≡ truth_of (same_object x NIL && of_none b Fs)
with_none x [] v b h = no_extras x _ b h
with_none x (F ∷ []) v b h = no_extras x _ false refl
with_none x (F ∷ G ∷ []) v b h = no_extras x _ false refl
with_none x (F ∷ G ∷ H ∷ Fs) v b h = no_extras x _ false (for_many F G H Fs v NIL NIL)

with_one : (x : Object) (Fs : List Formula) (v : Object → Object) (b : Formula → Bool) → ((F : Formula) → Fs ≡ F ∷ [] → v (formula_object F) ≡ truth_of (b F)) → choose x NIL (by_number (number_of Fs) NIL (v (car (formulas_object Fs))) NIL) ≡ truth_of (same_object x NIL && of_one b Fs)
with_one x [] v b h = no_extras x _ false refl
with_one x (F ∷ []) v b h = no_extras x _ (b F) (h F refl)
with_one x (F ∷ G ∷ []) v b h = no_extras x _ false refl
with_one x (F ∷ G ∷ H ∷ Fs) v b h = no_extras x _ false (for_many F G H Fs NIL (v (formula_object F)) NIL)

with_two : (x : Object) (Fs : List Formula) (v : Object → Object → Object) (b : Formula → Formula → Bool) → ((F G : Formula) → Fs ≡ F ∷ G ∷ [] → v (formula_object F) (formula_object G) ≡ truth_of (b F G)) → choose x NIL (by_number (number_of Fs) NIL NIL (v (car (formulas_object Fs)) (second_of (formulas_object Fs)))) ≡ truth_of (same_object x NIL && of_two b Fs)
with_two x [] v b h = no_extras x _ false refl
with_two x (F ∷ []) v b h = no_extras x _ false refl
with_two x (F ∷ G ∷ []) v b h = no_extras x _ (b F G) (h F G refl)
with_two x (F ∷ G ∷ H ∷ Fs) v b h = no_extras x _ false (for_many F G H Fs NIL NIL (v (formula_object F) (formula_object G)))

-- one subproof, whatever the extras
one_alone : (Fs : List Formula) (v : Object → Object) (b : Formula → Bool) → ((F : Formula) → Fs ≡ F ∷ [] → v (formula_object F) ≡ truth_of (b F)) → choose (truth_of (same_object (number_of Fs) (Natural 1))) (v (car (formulas_object Fs))) NIL ≡ truth_of (of_one b Fs)
one_alone [] v b h = refl
one_alone (F ∷ []) v b h = h F refl
one_alone (F ∷ G ∷ []) v b h = refl
one_alone (F ∷ G ∷ H ∷ Fs) v b h = ap (λ t. choose (truth_of t) (v (formula_object F)) NIL) (many F G H Fs 1 (omega arith))

nothing : (x : Object) (Fs : List Formula) → choose x NIL (by_number (number_of Fs) NIL NIL NIL) ≡ NIL
nothing x Fs = with_none x Fs NIL false refl ∙ go (same_object x NIL) Fs
  where
    go : (b : Bool) (Fs : List Formula) → truth_of (b && of_none false Fs) ≡ NIL
    go true [] = refl
    go true (F ∷ Fs) = refl
    go false Fs = refl

not_method : (m : Object) → method_among methods m ≡ None → (k : Method) → same_object m (Symbol (method_name k)) ≡ false
not_method m h k = go (same_object m (Symbol (method_name k))) refl
  where
    go : (b : Bool) → same_object m (Symbol (method_name k)) ≡ b → b ≡ false
    go true e = absurd (cc (sym h, ap (method_among methods) (same_object-eq m (Symbol (method_name k)) e), method_back k))
    go false e = refl

-- the body by its parts
module _ (P : Profile) where
  abbrev is_that : Object → Method → Object
  is_that m k = truth_of (same_object m (Symbol (method_name k)))

  abbrev for_none : Object → Object → Object → Object → Object
  for_none m c axioms theorems =
      choose (is_that m Axiom) (answer P "LOGIC.MEMBERP" (c ∷ axioms ∷ []))
      (choose (is_that m Theorem) (answer P "LOGIC.MEMBERP" (c ∷ theorems ∷ []))
      (choose (is_that m PropositionalSchema) (answer P "LOGIC.SCHEMA-OKP" (c ∷ []))
      (choose (is_that m FunctionalEquality) (answer P "LOGIC.FUNCTIONAL-EQUALITY-OKP" (c ∷ []))
      (choose (is_that m BetaReduction) (answer P "LOGIC.BETA-REDUCTION-OKP" (c ∷ []))
      (choose (is_that m BaseEval) (answer P "LOGIC.BASE-EVAL-OKP" (c ∷ [])) NIL)))))

  abbrev for_one : Object → Object → Object → Object
  for_one m c a =
      choose (is_that m Expansion) (answer P "LOGIC.EXPANSION-OKP" (c ∷ a ∷ []))
      (choose (is_that m Contraction) (answer P "LOGIC.CONTRACTION-OKP" (c ∷ a ∷ []))
      (choose (is_that m Associativity) (answer P "LOGIC.ASSOCIATIVITY-OKP" (c ∷ a ∷ [])) NIL))

  abbrev for_two : Object → Object → Object → Object → Object
  for_two m c a b = choose (is_that m Cut) (answer P "LOGIC.CUT-OKP" (c ∷ a ∷ b ∷ [])) NIL

  abbrev step_by : Object → Object → Object → Object → Object → Object → Object → Object → Object
  step_by m c gs x n axioms theorems table =
      choose (is_that m Instantiation) (choose (truth_of (same_object n (Natural 1))) (answer P "LOGIC.INSTANTIATION-OKP" (c ∷ car gs ∷ x ∷ table ∷ [])) NIL)
      (choose (is_that m Induction) (answer P "LOGIC.INDUCTION-OKP" (c ∷ gs ∷ x ∷ table ∷ []))
      (choose x NIL (by_number n (for_none m c axioms theorems) (for_one m c (car gs)) (for_two m c (car gs) (second_of gs)))))

  step-body : (p axioms theorems table : Object) → answer P "LOGIC.STEP-OKP" (p ∷ axioms ∷ theorems ∷ table ∷ []) ≡ step_by (car p) (second_of p) (answer P "LOGIC.CONCLUSIONS" (third_of p ∷ [])) (fourth_of p) (answer P "LOGIC.LEN" (answer P "LOGIC.CONCLUSIONS" (third_of p ∷ []) ∷ [])) axioms theorems table
  step-body p axioms theorems table = answer-body P "LOGIC.STEP-OKP" (p ∷ axioms ∷ theorems ∷ table ∷ [])

  module _ (axioms theorems : Object) (A : ArityTable) (three : arity_of A (named "IF") ≡ Some 3) (names : (f : Name) (n : ℕ) → arity_of A f ≡ Some n → is_function_name f ≡ true) (F : Formula) (i : IsFormula A F) (Fs : List Formula) (js : Each (IsFormula A) Fs) (x : Object) where
    abbrev at : Object → Object
    at m = step_by m (formula_object F) (formulas_object Fs) x (number_of Fs) axioms theorems (table_object A)

    the_first : (G : Formula) (Gs : List Formula) → Fs ≡ G ∷ Gs → IsFormula A G
    the_first G Gs q = let h : Each (IsFormula A) (G ∷ Gs) = subst (Each (IsFormula A)) q js in h.0

    the_second : (G H : Formula) (Gs : List Formula) → Fs ≡ G ∷ H ∷ Gs → IsFormula A H
    the_second G H Gs q = let h : Each (IsFormula A) (G ∷ H ∷ Gs) = subst (Each (IsFormula A)) q js in h.1.0

    abbrev F' : Object
    F' = formula_object F

    by_row : (m : Method) → at (Symbol (method_name m)) ≡ truth_of (rows axioms theorems A P m F Fs x)
    by_row Axiom = with_none x Fs _ (is_member F' axioms) (memberp-answer P F' axioms)
    by_row Theorem = with_none x Fs _ (is_member F' theorems) (memberp-answer P F' theorems)
    by_row PropositionalSchema = with_none x Fs _ (is_schema F) (schema-answer P F' ∙ ap truth_of (object_is_schema-exact F (formula_readable A F i)))
    by_row FunctionalEquality = with_none x Fs _ (is_functional_equality F (last_disjunct F)) (functional_equality-answer P A names F i)
    by_row BetaReduction = with_none x Fs _ (is_beta F) (beta-answer P A F i)
    by_row BaseEval = with_none x Fs _ (is_base_eval P F) (base_eval-answer P A F i)
    by_row Expansion =
        with_one x Fs (λ a. answer P "LOGIC.EXPANSION-OKP" (F' ∷ a ∷ [])) (is_expansion F) (λ G q. expansion-answer P F' (formula_object G) ∙ ap truth_of (object_is_expansion-exact F G (formula_readable A F i) (formula_readable A G (the_first G [] q))))
    by_row Contraction =
        with_one x Fs (λ a. answer P "LOGIC.CONTRACTION-OKP" (F' ∷ a ∷ [])) (is_contraction F) (λ G q. contraction-answer P F' (formula_object G) ∙ ap truth_of (object_is_contraction-exact F G (formula_readable A F i) (formula_readable A G (the_first G [] q))))
    by_row Associativity =
        with_one x Fs (λ a. answer P "LOGIC.ASSOCIATIVITY-OKP" (F' ∷ a ∷ [])) (is_associativity F) (λ G q. associativity-answer P F' (formula_object G) ∙ ap truth_of (object_is_associativity-exact F G (formula_readable A F i) (formula_readable A G (the_first G [] q))))
    by_row Cut =
        with_two x Fs (λ a b. answer P "LOGIC.CUT-OKP" (F' ∷ a ∷ b ∷ [])) (is_cut F) (λ G H q. cut-answer P F' (formula_object G) (formula_object H) ∙ ap truth_of (object_is_cut-exact F G H (formula_readable A F i) (formula_readable A G (the_first G (H ∷ []) q)) (formula_readable A H (the_second G H [] q))))
    by_row Instantiation =
        one_alone Fs (λ a. answer P "LOGIC.INSTANTIATION-OKP" (F' ∷ a ∷ x ∷ table_object A ∷ [])) (λ G. is_instance A F G (substitution_of x)) (λ G q. instantiation-answer P A three G F' x ∙ ap truth_of (object_is_instance-exact A F G i (the_first G [] q) x))
    by_row Induction = induction-answer P A three F (formulas_object Fs) x ∙ ap truth_of (object_is_induction-exact A F Fs x i js)

    by_method : (m : Method) → at (Symbol (method_name m)) ≡ truth_of (follows axioms theorems A P m F Fs x)
    by_method m = by_row m ∙ ap truth_of (sym (follows-rows axioms theorems A P m F Fs x))

    no_method : (m : Object) → method_among methods m ≡ None → at m ≡ NIL
    no_method m h =
        rw (not_method m h Instantiation, not_method m h Induction, not_method m h Axiom, not_method m h Theorem, not_method m h PropositionalSchema, not_method m h FunctionalEquality, not_method m h BetaReduction, not_method m h BaseEval, not_method m h Expansion, not_method m h Contraction, not_method m h Associativity, not_method m h Cut) (nothing x Fs)

    by_some_method : (m : Object) (o : Option Method) → method_among methods m ≡ o → at m ≡ truth_of (passes (λ k. follows axioms theorems A P k F Fs x) o)
    by_some_method m None h = no_method m h
    by_some_method m (Some k) h = ap at (sym (method_among-name methods m k h)) ∙ by_method k

    pub step-answer : (p : Object) → second_of p ≡ F' → answer P "LOGIC.CONCLUSIONS" (third_of p ∷ []) ≡ formulas_object Fs → fourth_of p ≡ x → answer P "LOGIC.STEP-OKP" (p ∷ axioms ∷ theorems ∷ table_object A ∷ []) ≡ truth_of (passes (λ k. follows axioms theorems A P k F Fs x) (method_among methods (car p)))
    step-answer p hc hs hx =
        step-body p axioms theorems (table_object A)
        ∙ (ap₂ (λ c gs. step_by (car p) c gs (fourth_of p) (answer P "LOGIC.LEN" (gs ∷ [])) axioms theorems (table_object A)) hc hs
        ∙ (ap₂ (λ e n. step_by (car p) F' (formulas_object Fs) e n axioms theorems (table_object A)) hx (len-answer P (formulas_object Fs))
        ∙ by_some_method (car p) (method_among methods (car p)) refl))
