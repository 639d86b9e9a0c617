-- The equation of two calls at the end of a formula, and what is made of it.
use Rattle.std.proofs.Common.{◌≡◌, ℕ, Bool, true, false, List, [], ◌∷◌, ◌++◌, Option, Some, None, refl, sym, ap, ap₂, ◌∙◌, subst}
use Rattle.mw_model.specs.Terms.Object.{Object, Natural, Symbol, Pair, symbol, same_object, car, cdr, second_of, third_of, list3}
use Rattle.mw_model.specs.Terms.Term.{Term, Terms, Variable, Constant, If, Call, Lambda, Formula, Equal, Not, Or, ArityTable, is_term, is_formula, IsTerm, IsFormula, term_object, formula_object}
use Rattle.mw_model.specs.Values.Primitive.{is_pair, is_symbol}
use Rattle.mw_model.specs.Laws.Rules.{or_object, not_object, equal_object, unless_equal_object}
use Rattle.mw_model.specs.Laws.RulesInduction.{disjunction_object}
use Rattle.mw_model.specs.Proofs.Proof.{unless_equal}
use Rattle.mw_model.specs.Proofs.Judgment.{last_disjunct}
use Rattle.mw_model.proofs.Names.{same_object-from}
use Rattle.mw_model.proofs.Formed.{formed}
use Rattle.mw_model.proofs.Readable.{term_readable, not_quote, not_if}
use Rattle.mw_model.proofs.EqualityExact.{unless_equal_object-is}
use Rattle.std.proofs.lemmas.Bool.{and_parts}
use Rattle.mw_heap.specs.Objects.{object_at, IsIn}
use Rattle.mw_commands.specs.Commands.ExplanationSteps.{listed}
use Rattle.mw_bad_steps.specs.Candidates.{IsCandidate, AreActuals, actuals, unless_calls, equality_of, inequalities_in}

differ : (x y : Object) → same_object x y ≡ false → x ≡ y → ⊥
differ x y h e = cc (h, same_object-from x y e)

-- ---- the last disjunct

pub last_in : (os : List Object) (F : Formula) (x a b : Object) → x ≡ formula_object F → x ≡ list3 (symbol "POR*") a b → (G : Formula) × (b ≡ formula_object G) × (last_disjunct F ≡ last_disjunct G)
last_in os (Or G H) x a b e f = (H, ap third_of (sym f ∙ e), refl)
last_in os (Equal s t) x a b e f = absurd (differ (symbol "PEQUAL*") (symbol "POR*") refl (ap car (sym e ∙ f)))
last_in os (Not G) x a b e f = absurd (differ (symbol "PNOT*") (symbol "POR*") refl (ap car (sym e ∙ f)))

pub last_here : (F : Formula) (x : Object) → x ≡ formula_object F → ((a b : Object) → same_object x (list3 (symbol "POR*") a b) ≡ false) → F ≡ last_disjunct F
last_here (Or G H) x e n = absurd (differ x (or_object (formula_object G) (formula_object H)) (n (formula_object G) (formula_object H)) e)
last_here (Equal a b) x e n = refl
last_here (Not G) x e n = refl

-- ---- actuals

module _ (os : List Object) where
  pub no_pair : (t : Term) (x : Object) → x ≡ term_object t → is_pair x ≡ false → AreActuals os (actuals t) None
  no_pair (Variable v) x e h = tt
  no_pair (Constant c) x e h = tt
  no_pair (If a b c) x e h = let k : true ≡ is_pair x = ap is_pair (sym e) in cc
  no_pair (Call f ts) x e h = let k : true ≡ is_pair x = ap is_pair (sym e) in cc
  no_pair (Lambda xs b ts) x e h = tt

  pub no_symbol : (t : Term) (x h r : Object) → x ≡ term_object t → x ≡ Pair h r → is_symbol h ≡ false → AreActuals os (actuals t) None
  no_symbol (Variable v) x h r e f n = tt
  no_symbol (Constant c) x h r e f n = tt
  no_symbol (If a b c) x h r e f n = let k : true ≡ is_symbol h = ap (λ y. is_symbol (car y)) (sym e ∙ f) in cc
  no_symbol (Call g ts) x h r e f n = let k : true ≡ is_symbol h = ap (λ y. is_symbol (car y)) (sym e ∙ f) in cc
  no_symbol (Lambda xs b ts) x h r e f n = tt

  pub no_quoted : (A : ArityTable) (t : Term) (x h r : Object) → IsTerm A t → x ≡ term_object t → x ≡ Pair h r → same_object h (symbol "QUOTE") ≡ true → AreActuals os (actuals t) None
  no_quoted A (Variable v) x h r i e f q = tt
  no_quoted A (Constant c) x h r i e f q = tt
  no_quoted A (If a b c) x h r i e f q = let k : false ≡ same_object h (symbol "QUOTE") = ap (λ y. same_object (car y) (symbol "QUOTE")) (sym e ∙ f) in cc
  no_quoted A (Call g ts) x h r i e f q =
      let k : same_object (Symbol g) (symbol "QUOTE") ≡ same_object h (symbol "QUOTE") = ap (λ y. same_object (car y) (symbol "QUOTE")) (sym e ∙ f) in
      let n = not_quote g (term_readable A (Call g ts) (formed A (Call g ts) i)).0 in
      absurd (cc (k, n, q))
  no_quoted A (Lambda xs b ts) x h r i e f q = tt

  pub actuals_found : (A : ArityTable) (t : Term) (x h : Object) (r : ℕ) (b : Bool) → IsTerm A t → x ≡ term_object t → x ≡ Pair h (object_at os r) → is_symbol h ≡ true → same_object h (symbol "QUOTE") ≡ false → b ≡ same_object h (symbol "IF") → AreActuals os (actuals t) (Some (b, r))
  actuals_found A (Variable v) x h r b i e f s q d = let k : false ≡ is_pair (Pair h (object_at os r)) = ap is_pair (sym e ∙ f) in cc
  actuals_found A (Constant c) x h r b i e f s q d = let k : true ≡ same_object h (symbol "QUOTE") = ap (λ y. same_object (car y) (symbol "QUOTE")) (sym e ∙ f) in cc
  actuals_found A (If a u c) x h r b i e f s q d = (d ∙ ap (λ y. same_object (car y) (symbol "IF")) (sym f ∙ e), ap cdr (sym f ∙ e))
  actuals_found A (Call g ts) x h r b i e f s q d = (d ∙ (ap (λ y. same_object (car y) (symbol "IF")) (sym f ∙ e) ∙ not_if g (term_readable A (Call g ts) (formed A (Call g ts) i)).0), ap cdr (sym f ∙ e))
  actuals_found A (Lambda xs u ts) x h r b i e f s q d = let k : false ≡ is_symbol h = ap (λ y. is_symbol (car y)) (sym e ∙ f) in cc

-- ---- equations

module _ (os new : List Object) where
  pub no_equation : (F : Formula) (x : Object) → x ≡ formula_object F → ((a b : Object) → same_object x (list3 (symbol "PEQUAL*") a b) ≡ false) → IsCandidate new (equality_of F) None
  no_equation (Equal a b) x e n = absurd (differ x (equal_object (term_object a) (term_object b)) (n (term_object a) (term_object b)) e)
  no_equation (Or G H) x e n = tt
  no_equation (Not G) x e n = tt

  -- the terms of an equation
  pub equation_terms : (A : ArityTable) (F : Formula) (x a b : Object) → IsFormula A F → x ≡ formula_object F → x ≡ list3 (symbol "PEQUAL*") a b → (t : Term) × (u : Term) × (F ≡ Equal t u) × IsTerm A t × IsTerm A u × (a ≡ term_object t) × (b ≡ term_object u)
  equation_terms A (Equal t u) x a b i e f = let p = and_parts (is_term A t) (is_term A u) i in (t, u, refl, p.0, p.1, ap second_of (sym f ∙ e), ap third_of (sym f ∙ e))
  equation_terms A (Or G H) x a b i e f = absurd (differ (symbol "POR*") (symbol "PEQUAL*") refl (ap car (sym e ∙ f)))
  equation_terms A (Not G) x a b i e f = absurd (differ (symbol "PNOT*") (symbol "PEQUAL*") refl (ap car (sym e ∙ f)))

  none_first : (o p : Option (Bool × Terms)) (E : Formula) → AreActuals os o None → unless_calls o p E ≡ None
  none_first None p E h = refl
  none_first (Some o) p E h = absurd h

  none_second : (o p : Option (Bool × Terms)) (E : Formula) → AreActuals os p None → unless_calls o p E ≡ None
  none_second None p E h = refl
  none_second (Some (true, ts)) None E h = refl
  none_second (Some (false, ts)) None E h = refl
  none_second (Some o) (Some p) E h = absurd h

  none_other : (o p : Option (Bool × Terms)) (E : Formula) (q r : Bool × ℕ) → AreActuals os o (Some q) → AreActuals os p (Some r) → (q.0 ≡ r.0 → ⊥) → unless_calls o p E ≡ None
  none_other None p E q r h k n = absurd h
  none_other (Some o) None E q r h k n = absurd k
  none_other (Some (true, ts)) (Some (true, us)) E q r h k n = absurd (n (h.0 ∙ sym k.0))
  none_other (Some (true, ts)) (Some (false, us)) E q r h k n = refl
  none_other (Some (false, ts)) (Some (true, us)) E q r h k n = refl
  none_other (Some (false, ts)) (Some (false, us)) E q r h k n = absurd (n (h.0 ∙ sym k.0))

  both_calls : (o p : Option (Bool × Terms)) (E : Formula) (q r : Bool × ℕ) (y : Object) → AreActuals os o (Some q) → AreActuals os p (Some r) → q.0 ≡ r.0 → y ≡ unless_equal_object (object_at os q.1) (object_at os r.1) (formula_object E) → (G : Formula) × (unless_calls o p E ≡ Some G) × (y ≡ formula_object G)
  both_calls None p E q r y h k s d = absurd h
  both_calls (Some o) None E q r y h k s d = absurd k
  both_calls (Some (true, ts)) (Some (true, us)) E q r y h k s d = (unless_equal ts us E, refl, d ∙ (ap₂ (λ v w. unless_equal_object v w (formula_object E)) h.1 k.1 ∙ unless_equal_object-is ts us E))
  both_calls (Some (false, ts)) (Some (false, us)) E q r y h k s d = (unless_equal ts us E, refl, d ∙ (ap₂ (λ v w. unless_equal_object v w (formula_object E)) h.1 k.1 ∙ unless_equal_object-is ts us E))
  both_calls (Some (true, ts)) (Some (false, us)) E q r y h k s d = let e : true ≡ false = sym h.0 ∙ (s ∙ k.0) in cc
  both_calls (Some (false, ts)) (Some (true, us)) E q r y h k s d = let e : false ≡ true = sym h.0 ∙ (s ∙ k.0) in cc

  module _ (A : ArityTable) (F : Formula) (x a b : ℕ) (i : IsFormula A F) (e : object_at os x ≡ formula_object F) (f : object_at os x ≡ list3 (symbol "PEQUAL*") (object_at os a) (object_at os b)) where
    abbrev Actuals : ℕ → Option (Bool × ℕ) → Type 0
    Actuals y o = (B : ArityTable) (t : Term) → IsTerm B t → object_at os y ≡ term_object t → AreActuals os (actuals t) o

    pub first_no_call : Actuals a None → IsCandidate new (equality_of F) None
    first_no_call h =
        let p = equation_terms A F (object_at os x) (object_at os a) (object_at os b) i e f in
        subst (λ o. IsCandidate new o None) (sym (ap equality_of p.2 ∙ none_first (actuals p.0) (actuals p.1) (Equal p.0 p.1) (h A p.0 p.3 p.5))) tt

    pub second_no_call : Actuals b None → IsCandidate new (equality_of F) None
    second_no_call h =
        let p = equation_terms A F (object_at os x) (object_at os a) (object_at os b) i e f in
        subst (λ o. IsCandidate new o None) (sym (ap equality_of p.2 ∙ none_second (actuals p.0) (actuals p.1) (Equal p.0 p.1) (h A p.1 p.4 p.6))) tt

    pub other_call : (q r : Bool × ℕ) → Actuals a (Some q) → Actuals b (Some r) → (q.0 ≡ r.0 → ⊥) → IsCandidate new (equality_of F) None
    other_call q r h k n =
        let p = equation_terms A F (object_at os x) (object_at os a) (object_at os b) i e f in
        subst (λ o. IsCandidate new o None) (sym (ap equality_of p.2 ∙ none_other (actuals p.0) (actuals p.1) (Equal p.0 p.1) q r (h A p.0 p.3 p.5) (k A p.1 p.4 p.6) n)) tt

    pub calls_made : (q r : Bool × ℕ) (m : ℕ) → Actuals a (Some q) → Actuals b (Some r) → q.0 ≡ r.0 → IsIn new m → object_at new m ≡ unless_equal_object (object_at os q.1) (object_at os r.1) (object_at os x) → IsCandidate new (equality_of F) (Some m)
    calls_made q r m h k s j d =
        let p = equation_terms A F (object_at os x) (object_at os a) (object_at os b) i e f in
        let whole = e ∙ ap formula_object p.2 in
        let g = both_calls (actuals p.0) (actuals p.1) (Equal p.0 p.1) q r (object_at new m) (h A p.0 p.3 p.5) (k A p.1 p.4 p.6) s (d ∙ ap (unless_equal_object (object_at os q.1) (object_at os r.1)) whole) in
        subst (λ o. IsCandidate new o (Some m)) (sym (ap equality_of p.2 ∙ g.1)) (j, g.2)

-- ---- inequalities

pub no_inequalities : (x y : Object) → is_pair x ≡ false → inequalities_in x y ≡ []
no_inequalities (Natural n) y h = refl
no_inequalities (Symbol s) y h = refl
no_inequalities (Pair a b) y h = cc

pub no_inequality : (x y a r : Object) → x ≡ Pair a r → is_pair y ≡ false → inequalities_in x y ≡ []
no_inequality x (Natural n) a r e h = ap (λ z. inequalities_in z (Natural n)) e
no_inequality x (Symbol s) a r e h = ap (λ z. inequalities_in z (Symbol s)) e
no_inequality x (Pair b q) a r e h = cc

pub next_inequality : (x y a r b q : Object) → x ≡ Pair a r → y ≡ Pair b q → inequalities_in x y ≡ not_object (equal_object a b) ∷ inequalities_in r q
next_inequality x y a r b q e f = ap₂ inequalities_in e f

more_disjuncts : (z : Object) (zs : List Object) (e : Object) → disjunction_object (Pair z (listed (zs ++ e ∷ []))) ≡ or_object z (disjunction_object (listed (zs ++ e ∷ [])))
more_disjuncts z [] e = refl
more_disjuncts z (y ∷ zs) e = refl

pub unless_listed : (x y e : Object) → disjunction_object (listed (inequalities_in x y ++ e ∷ [])) ≡ unless_equal_object x y e
unless_listed (Pair a ts) (Pair b us) e = more_disjuncts (not_object (equal_object a b)) (inequalities_in ts us) e ∙ ap (or_object (not_object (equal_object a b))) (unless_listed ts us e)
unless_listed (Pair a ts) (Natural n) e = refl
unless_listed (Pair a ts) (Symbol s) e = refl
unless_listed (Natural n) y e = refl
unless_listed (Symbol s) y e = refl

pub last_formula : (A : ArityTable) (F : Formula) → IsFormula A F → IsFormula A (last_disjunct F)
last_formula A (Equal a b) i = i
last_formula A (Not F) i = i
last_formula A (Or F G) i = last_formula A G (and_parts (is_formula A F) (is_formula A G) i).1
