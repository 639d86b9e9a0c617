-- Induction: the test on objects of formulas is the test on formulas. The conditions are read back from the first
-- premise, the measure from the premise that it is an ordinal.
use Rattle.std.proofs.Common.{◌≡◌, ◌+◌, true, false, ◌&&◌, eqb, eqb-true, eq-eqb, List, [], ◌∷◌, Option, Some, None, refl, sym, ap, ap₂, ◌∙◌, subst, arith}
use Rattle.std.proofs.lemmas.Bool.{and_parts, and_from}
use Rattle.std.specs.Cmp.{both_ways as same_test}
use Rattle.mw_model.specs.Terms.Object.{Object, Natural, Symbol, Pair, symbol, same_object, NIL, car, cdr, second_of, third_of, has_members, list2, list3, Member, first, later}
use Rattle.mw_model.specs.Terms.Term.{Term, Variable, Constant, If, Call, Lambda, NoTerms, More, Formula, Equal, Not, Or, term_object, formula_object, ArityTable, is_term, is_formula, IsTerm, IsFormula}
use Rattle.mw_model.specs.Values.Primitive.{One}
use Rattle.mw_model.specs.Terms.Substitution.{Substitution, substitution_object, substitution_of, is_substitution}
use Rattle.mw_model.specs.Values.Truth.{Each}
use Rattle.mw_model.specs.Proofs.Induction.{Case, premises, conditions_object, substitutions_object, cases_object, are_substitutions, are_cases}
use Rattle.mw_model.specs.Proofs.Proof.{Induction, Follows, by_induction}
use Rattle.mw_model.specs.Proofs.Judgment.{is_induction}
use Rattle.mw_model.specs.Laws.Rules.{is_substitution_object}
use Rattle.mw_model.specs.Laws.RulesInduction.{formulas_object, is_list_object, length_object, are_substitution_objects, are_case_objects, disjunction_object, steps_object, ordinal_object, all_falls_object, premises_object, object_is_induction_by, object_is_induction}
use Rattle.mw_model.proofs.Names.{same_object-eq, same_object-from}
use Rattle.mw_model.proofs.Formed.{formed, is_term-from}
use Rattle.mw_model.proofs.Readable.{ReadableFormula, ReadableSubstitution, term_readable, formula_readable, substitution_readable}
use Rattle.mw_model.proofs.ReadBack.{nil_is}
use Rattle.mw_model.proofs.Follows.{substitution_back, row_is}
use Rattle.mw_model.proofs.Judging.{row_holds, substitution_read, measure_formed}
use Rattle.mw_model.proofs.RulesExact.{passes, is_substitution_object-is}
use Rattle.mw_model.proofs.PremisesObject.{ReadableCase, premises_object-is, premises-readable, formulas_object-one}

-- three members
three_members : (x : Object) → has_members 3 x ≡ true → x ≡ list3 (car x) (second_of x) (third_of x)
three_members (Natural n) h = cc
three_members (Symbol s) h = cc
three_members (Pair a (Natural n)) h = cc
three_members (Pair a (Symbol s)) h = cc
three_members (Pair a (Pair b (Natural n))) h = cc
three_members (Pair a (Pair b (Symbol s))) h = cc
three_members (Pair a (Pair b (Pair c z))) h = ap (λ y. Pair a (Pair b (Pair c y))) (same_object-eq z NIL h)

-- words that differ
differ : (x y : Object) → same_object x y ≡ false → x ≡ y → ⊥
differ x y h e = cc (h, same_object-from x y e)

-- the conditions are formulas
record Conditions (A : ArityTable) (c qs : Object) : Type 0 where
  conclusion : Formula
  conditions : List Formula
  is_conclusion : formula_object conclusion ≡ c
  are_conditions : formulas_object conditions ≡ qs
  formula : IsFormula A conclusion
  formulas : Each (IsFormula A) conditions

conditions_back : (A : ArityTable) (qs c : Object) (F : Formula) → is_list_object qs ≡ true → IsFormula A F → formula_object F ≡ disjunction_object (Pair c qs) → Conditions A c qs
conditions_back A (Natural n) c F h i e = cc
conditions_back A (Symbol s) c F h i e = record { conclusion = F; conditions = []; is_conclusion = e; are_conditions = nil_is s h; formula = i; formulas = tt }
conditions_back A (Pair q r) c (Equal a b) h i e = absurd (differ (symbol "PEQUAL*") (symbol "POR*") refl (ap car e))
conditions_back A (Pair q r) c (Not F) h i e = absurd (differ (symbol "PNOT*") (symbol "POR*") refl (ap car e))
conditions_back A (Pair q r) c (Or G H) h i e =
    let p = and_parts (is_formula A G) (is_formula A H) i in
    let k = conditions_back A r q H h p.1 (ap third_of e) in
    record { conclusion = G; conditions = k.conclusion ∷ k.conditions; is_conclusion = ap second_of e; are_conditions = ap₂ Pair k.is_conclusion k.are_conditions; formula = p.0; formulas = (k.formula, k.formulas) }

-- substitutions
substitution_from : (A : ArityTable) (x : Object) → is_substitution_object A x ≡ true → (s : Substitution) × (substitution_object s ≡ x) × (is_substitution A s ≡ true)
substitution_from A x h = go (substitution_of x) refl (sym (is_substitution_object-is A x) ∙ h)
  where
    go : (o : Option Substitution) → substitution_of x ≡ o → passes (is_substitution A) o ≡ true → (s : Substitution) × (substitution_object s ≡ x) × (is_substitution A s ≡ true)
    go None e k = cc
    go (Some s) e k = (s, substitution_back x s e, k)

substitutions_from : (A : ArityTable) (x : Object) → are_substitution_objects A x ≡ true → (ss : List Substitution) × (substitutions_object ss ≡ x) × (are_substitutions A ss ≡ true)
substitutions_from A (Natural n) h = cc
substitutions_from A (Symbol s) h = ([], nil_is s h, refl)
substitutions_from A (Pair a r) h =
    let p = and_parts (is_substitution_object A a) (are_substitution_objects A r) h in
    let s = substitution_from A a p.0 in
    let k = substitutions_from A r p.1 in
    (s.0 ∷ k.0, ap₂ Pair s.1 k.1, and_from (is_substitution A s.0) (are_substitutions A k.0) s.2 k.2)

-- conditions and lists of substitutions, side by side
record Paired (A : ArityTable) (Qs : List Formula) (ss : Object) : Type 0 where
  cases : List Case
  are_conditions : conditions_object cases ≡ formulas_object Qs
  are_lists : cases_object cases ≡ ss
  right : are_cases A cases ≡ true
  formulas : Each (λ c. IsFormula A c.condition) cases

paired : (A : ArityTable) (Qs : List Formula) (ss : Object) → Each (IsFormula A) Qs → length_object (formulas_object Qs) ≡ length_object ss → are_case_objects A ss ≡ true → Paired A Qs ss
paired A [] (Natural n) i l h = cc
paired A [] (Symbol s) i l h = record { cases = []; are_conditions = refl; are_lists = nil_is s h; right = refl; formulas = tt }
paired A [] (Pair a r) i l h = absurd (omega arith)
paired A (Q ∷ Qs) (Natural n) i l h = cc
paired A (Q ∷ Qs) (Symbol s) i l h = absurd (omega arith)
paired A (Q ∷ Qs) (Pair a r) i l h =
    let p = and_parts (are_substitution_objects A a) (are_case_objects A r) h in
    let s = substitutions_from A a p.0 in
    let k = paired A Qs r i.1 (omega arith) p.1 in
    record { cases = record { condition = Q; substitutions = s.0 } ∷ k.cases; are_conditions = ap (Pair (formula_object Q)) k.are_conditions; are_lists = ap₂ Pair s.1 k.are_lists; right = and_from (are_substitutions A s.0) (are_cases A k.cases) s.2 k.right; formulas = (i.0, k.formulas) }

-- the measure is a term
member_formula : (A : ArityTable) (Fs : List Formula) (x : Object) → Each (IsFormula A) Fs → Member x (formulas_object Fs) → (G : Formula) × (formula_object G ≡ x) × IsFormula A G
member_formula A [] x i m = elim m [ ]
member_formula A (F ∷ Fs) x i m = go (formulas_object (F ∷ Fs)) refl m (member_formula A Fs x i.1)
  where
    go : (y : Object) → y ≡ Pair (formula_object F) (formulas_object Fs) → Member x y → (Member x (formulas_object Fs) → (G : Formula) × (formula_object G ≡ x) × IsFormula A G) → (G : Formula) × (formula_object G ≡ x) × IsFormula A G
    go y e (first ys) ih = (F, sym (ap car e), i.0)
    go y e (later z ys k) ih = ih (subst (Member x) (ap cdr e) k)

member_steps : (x c qs ss rest : Object) → Member x rest → Member x (steps_object c qs ss rest)
member_steps x c (Natural n) ss rest m = m
member_steps x c (Symbol s) ss rest m = m
member_steps x c (Pair q qs) ss rest m = later _ _ (member_steps x c qs (cdr ss) rest m)

ordinal_term : (A : ArityTable) (a : Term) (m : Object) → IsTerm A a → term_object a ≡ list2 (symbol "ORDP") m → (t : Term) × (term_object t ≡ m) × IsTerm A t
ordinal_term A (Variable x) m i e = cc
ordinal_term A (Constant c) m i e = absurd (differ (symbol "QUOTE") (symbol "ORDP") refl (ap car e))
ordinal_term A (If a b c) m i e = absurd (differ (symbol "IF") (symbol "ORDP") refl (ap car e))
ordinal_term A (Lambda xs b ts) m i e = cc
ordinal_term A (Call f NoTerms) m i e = cc
ordinal_term A (Call f (More t NoTerms)) m i e = (t, ap second_of e, is_term-from A t (formed A (Call f (More t NoTerms)) i).2.0)
ordinal_term A (Call f (More t (More u ts))) m i e = cc

ordinal_measure : (A : ArityTable) (G : Formula) (m : Object) → IsFormula A G → formula_object G ≡ ordinal_object m → (t : Term) × (term_object t ≡ m) × IsTerm A t
ordinal_measure A (Equal a b) m i e = ordinal_term A a m (and_parts (is_term A a) (is_term A b) i).0 (ap second_of e)
ordinal_measure A (Not F) m i e = absurd (differ (symbol "PNOT*") (symbol "PEQUAL*") refl (ap car e))
ordinal_measure A (Or F G) m i e = absurd (differ (symbol "POR*") (symbol "PEQUAL*") refl (ap car e))

-- the other way
conditions_list : (cs : List Case) → is_list_object (conditions_object cs) ≡ true
conditions_list [] = refl
conditions_list (c ∷ cs) = conditions_list cs

same_length : (cs : List Case) → length_object (conditions_object cs) ≡ length_object (cases_object cs)
same_length [] = refl
same_length (c ∷ cs) = ap (λ n. 1 + n) (same_length cs)

each_formula-readable : (A : ArityTable) (Fs : List Formula) → Each (IsFormula A) Fs → Each ReadableFormula Fs
each_formula-readable A [] h = tt
each_formula-readable A (F ∷ Fs) h = (formula_readable A F h.0, each_formula-readable A Fs h.1)

each_substitution-readable : (A : ArityTable) (ss : List Substitution) → are_substitutions A ss ≡ true → Each ReadableSubstitution ss
each_substitution-readable A [] h = tt
each_substitution-readable A (s ∷ ss) h = let p = and_parts (is_substitution A s) (are_substitutions A ss) h in (substitution_readable A s p.0, each_substitution-readable A ss p.1)

each_case-readable : (A : ArityTable) (cs : List Case) → Each (λ c. IsFormula A c.condition) cs → are_cases A cs ≡ true → Each ReadableCase cs
each_case-readable A [] i h = tt
each_case-readable A (c ∷ cs) i h =
    let p = and_parts (are_substitutions A c.substitutions) (are_cases A cs) h in
    ((formula_readable A c.condition i.0, each_substitution-readable A c.substitutions p.0), each_case-readable A cs i.1 p.1)

module _ (A : ArityTable) where
  substitution_objects : (ss : List Substitution) → are_substitutions A ss ≡ true → are_substitution_objects A (substitutions_object ss) ≡ true
  substitution_objects [] h = refl
  substitution_objects (s ∷ ss) h =
      let p = and_parts (is_substitution A s) (are_substitutions A ss) h in
      and_from (is_substitution_object A (substitution_object s)) (are_substitution_objects A (substitutions_object ss)) (is_substitution_object-is A (substitution_object s) ∙ (ap (passes (is_substitution A)) (substitution_read A s p.0) ∙ p.0)) (substitution_objects ss p.1)

  case_objects : (cs : List Case) → are_cases A cs ≡ true → are_case_objects A (cases_object cs) ≡ true
  case_objects [] h = refl
  case_objects (c ∷ cs) h =
      let p = and_parts (are_substitutions A c.substitutions) (are_cases A cs) h in
      and_from (are_substitution_objects A (substitutions_object c.substitutions)) (are_case_objects A (cases_object cs)) (substitution_objects c.substitutions p.0) (case_objects cs p.1)

  module _ (F : Formula) (i : IsFormula A F) where
    abbrev Is : List Formula → Object → Type 0
    Is Fs x = Follows NIL NIL A One Induction F Fs x

    -- the three extras
    extras_are : (Fs : List Formula) (m qs ss : Object) → Each (IsFormula A) Fs → object_is_induction_by A (formula_object F) (formulas_object Fs) m qs ss ≡ true → Is Fs (list3 m qs ss)
    extras_are [] m qs ss j h =
        let p = and_parts (is_list_object qs) _ h in
        let q = and_parts (eqb (length_object qs) (length_object ss)) _ p.1 in
        absurd (cc (and_parts (are_case_objects A ss) false q.1).1)
    extras_are (G ∷ Gs) m qs ss j h =
        let wanted = premises_object (formula_object F) m qs ss in
        let p = and_parts (is_list_object qs) (eqb (length_object qs) (length_object ss) && (are_case_objects A ss && same_object (formulas_object (G ∷ Gs)) wanted)) h in
        let q = and_parts (eqb (length_object qs) (length_object ss)) (are_case_objects A ss && same_object (formulas_object (G ∷ Gs)) wanted) p.1 in
        let r = and_parts (are_case_objects A ss) (same_object (formulas_object (G ∷ Gs)) wanted) q.1 in
        let e : formulas_object (G ∷ Gs) ≡ wanted = same_object-eq (formulas_object (G ∷ Gs)) wanted r.1 in
        let s = conditions_back A qs (formula_object F) G p.0 j.0 (ap car e) in
        let l : length_object (formulas_object s.conditions) ≡ length_object ss = ap length_object s.are_conditions ∙ eqb-true (length_object qs) (length_object ss) q.0 in
        let d = paired A s.conditions ss s.formulas l r.0 in
        let g = member_formula A Gs (ordinal_object m) j.1 (subst (Member (ordinal_object m)) (sym (ap cdr e)) (member_steps (ordinal_object m) (formula_object F) qs ss (Pair (ordinal_object m) (all_falls_object m qs ss)) (first (all_falls_object m qs ss)))) in
        let t = ordinal_measure A g.0 m g.2 g.1 in
        let eq : conditions_object d.cases ≡ qs = d.are_conditions ∙ s.are_conditions in
        let rt = term_readable A t.0 (formed A t.0 t.2) in
        let rF = formula_readable A F i in
        let same : formulas_object (G ∷ Gs) ≡ formulas_object (premises F t.0 d.cases) =
        e ∙ (ap₂ (λ a b. premises_object (formula_object F) a b ss) (sym t.1) (sym eq) ∙ (ap (premises_object (formula_object F) (term_object t.0) (conditions_object d.cases)) (sym d.are_lists) ∙ premises_object-is t.0 rt F rF d.cases)) in
        let premises_are : G ∷ Gs ≡ premises F t.0 d.cases = formulas_object-one (G ∷ Gs) (premises F t.0 d.cases) (each_formula-readable A (G ∷ Gs) j) (premises-readable t.0 rt F rF d.cases (each_case-readable A d.cases d.formulas d.right)) same in
        let ex : list3 (term_object t.0) (conditions_object d.cases) (cases_object d.cases) ≡ list3 m qs ss = ap₂ Pair t.1 (ap₂ Pair eq (ap (λ z. Pair z NIL) d.are_lists)) in
        subst (λ z. Is (G ∷ Gs) z) ex
        (subst (λ Hs. Is Hs (list3 (term_object t.0) (conditions_object d.cases) (cases_object d.cases))) (sym premises_are) (by_induction F t.0 d.cases d.right))

    to_row : (Fs : List Formula) (x : Object) → Each (IsFormula A) Fs → object_is_induction A (formula_object F) (formulas_object Fs) x ≡ true → Is Fs x
    to_row Fs x j h =
        let p = and_parts (has_members 3 x) (object_is_induction_by A (formula_object F) (formulas_object Fs) (car x) (second_of x) (third_of x)) h in
        subst (λ z. Is Fs z) (sym (three_members x p.0)) (extras_are Fs (car x) (second_of x) (third_of x) j p.1)

  from_row : (F : Formula) (Fs : List Formula) (x : Object) → IsFormula A F → Each (IsFormula A) Fs → Follows NIL NIL A One Induction F Fs x → object_is_induction A (formula_object F) (formulas_object Fs) x ≡ true
  from_row F Fs x i j (by_induction F' m cs k) =
      let r = term_readable A m (measure_formed A F' m cs j) in
      and_from (is_list_object (conditions_object cs)) _ (conditions_list cs)
      (and_from (eqb (length_object (conditions_object cs)) (length_object (cases_object cs))) _ (eq-eqb (length_object (conditions_object cs)) (length_object (cases_object cs)) (same_length cs))
      (and_from (are_case_objects A (cases_object cs)) _ (case_objects cs k)
      (same_object-from (formulas_object (premises F' m cs)) (premises_object (formula_object F') (term_object m) (conditions_object cs) (cases_object cs)) (sym (premises_object-is m r F' (formula_readable A F' i) cs)))))

  pub object_is_induction-exact : (F : Formula) (Fs : List Formula) (x : Object) → IsFormula A F → Each (IsFormula A) Fs → object_is_induction A (formula_object F) (formulas_object Fs) x ≡ is_induction A F Fs x
  object_is_induction-exact F Fs x i j =
      same_test (object_is_induction A (formula_object F) (formulas_object Fs) x) (is_induction A F Fs x)
      (λ h. row_holds NIL NIL A One Induction F Fs x (to_row F i Fs x j h) i j)
      (λ h. from_row F Fs x i j (row_is NIL NIL A One Induction F Fs x h))
