-- The obligations of a block are formulas under the older table.
use Rattle.std.proofs.Common.{◌≡◌, Bool, true, false, not, cond, List, [], ◌∷◌, map, filter, Option, Some, None, refl, sym, ap, ◌∙◌, is_some, zip}
use Rattle.std.proofs.lemmas.Bool.{or_parts, and_from}
use Rattle.mw_model.specs.Terms.Object.{Name, Object, named, same_name, NIL, T}
use Rattle.mw_model.specs.Terms.Term.{Term, Terms, Variable, Constant, If, Call, Lambda, NoTerms, More, Formula, Equal, Or, ArityTable, arity_of, is_variable, is_term, is_formula, IsFormula, firsts}
use Rattle.mw_model.specs.Terms.Same.{same_formula}
use Rattle.mw_model.specs.Terms.Substitution.{Substitution, substitute, substitute_each, image, actuals_for}
use Rattle.mw_model.specs.Values.Definition.{Function, function_named, add_functions}
use Rattle.mw_model.specs.Values.Truth.{Each}
use Rattle.mw_model.specs.Events.Obligation.{mentions, any_mentions, Test, IsNotNil, IsNil, RecursiveCall, under_test, Actual, Pending, pending_terms, pending_calls, all_calls, call_or, collect, actuals_with, recursive_calls, some_nested, is_nested, Measures, measure_of, ordinal_formula, tested, test_formula, under_tests, falls, obligation, owed, calls_none, obligations}
use Rattle.mw_model.proofs.PremisesObject.{each_append}
use Rattle.mw_model.proofs.Formed.{Formed, AreFormed, is_term-from}
use Rattle.mw_truth.proofs.Having.{count_subs}
use Rattle.mw_truth.proofs.BlockTotal.{term_without, terms_without}

each_filter : {X : Type 0} (Q : X → Type 0) (t : X → Bool) (xs : List X) → Each Q xs → Each Q (filter t xs)
each_filter Q t [] h = tt
each_filter Q t (x ∷ xs) h = go (t x) (each_filter Q t xs h.1)
  where
    go : (b : Bool) → Each Q (filter t xs) → Each Q (cond b (x ∷ filter t xs) (filter t xs))
    go true k = (h.0, k)
    go false k = k

each_of_firsts : {X : Type 0} (Q : X → Type 0) (same : X → X → Bool) (xs : List X) → Each Q xs → Each Q (firsts same xs)
each_of_firsts Q same [] h = tt
each_of_firsts Q same (x ∷ xs) h = (h.0, each_filter Q (λ y. not (same x y)) (firsts same xs) (each_of_firsts Q same xs h.1))

-- substitution keeps terms
module _ (A : ArityTable) where
  abbrev Gives : Substitution → Type 0
  Gives s = (x : Name) → is_variable x ≡ true → Formed A (image s x)

  mutual
    substitute_formed : (s : Substitution) → Gives s → (t : Term) → Formed A t → Formed A (substitute s t)
    substitute_formed s g (Variable x) i = g x i
    substitute_formed s g (Constant c) i = tt
    substitute_formed s g (If a b c) i = (i.0, substitute_formed s g a i.1, substitute_formed s g b i.2, substitute_formed s g c i.3)
    substitute_formed s g (Call f ts) i = (i.0, i.1 ∙ ap Some (sym (count_subs s ts)), substitute_each_formed s g ts i.2)
    substitute_formed s g (Lambda xs b ts) i = (i.0, i.1, i.2, i.3 ∙ sym (count_subs s ts), i.4, substitute_each_formed s g ts i.5)

    substitute_each_formed : (s : Substitution) → Gives s → (ts : Terms) → AreFormed A ts → AreFormed A (substitute_each s ts)
    substitute_each_formed s g NoTerms i = tt
    substitute_each_formed s g (More t ts) i = (substitute_formed s g t i.0, substitute_each_formed s g ts i.1)

  cond_formed : (b : Bool) (t u : Term) → Formed A t → Formed A u → Formed A (cond b t u)
  cond_formed true t u i j = i
  cond_formed false t u i j = j

  gives_actuals : (xs : List Name) (ts : Terms) → AreFormed A ts → Gives (actuals_for xs ts)
  gives_actuals [] ts i x v = v
  gives_actuals (y ∷ xs) NoTerms i x v = v
  gives_actuals (y ∷ xs) (More t ts) i x v = cond_formed (same_name y x) t (image (actuals_for xs ts) x) i.0 (gives_actuals xs ts i.1 x v)

-- what is collected is made of terms under the newer table, and its functions are of the block
module _ (A : ArityTable) (B : List Function) where
  record CallFormed (r : RecursiveCall) : Type 0 where
    pub tests : Each (λ t. Formed A (tested t)) r.tests
    pub actuals : AreFormed A r.actuals
    pub name : Name
    pub found : function_named B name ≡ Some r.function

  abbrev ActualFormed : Actual → Type 0
  ActualFormed u = Formed A u.term × Each CallFormed u.calls

  abbrev PendingFormed : Pending → Type 0
  PendingFormed p = Formed A p.1.term × Each CallFormed p.1.calls

  gives_pending : (s : List Pending) → Each PendingFormed s → Gives A (pending_terms s)
  gives_pending [] h x v = v
  gives_pending (p ∷ s) h x v = cond_formed A (same_name p.0 x) p.1.term (image (pending_terms s) x) h.0.0 (gives_pending s h.1 x v)

  pending_formed : (s : List Pending) → Each PendingFormed s → (x : Name) → Each CallFormed (pending_calls s x)
  pending_formed [] h x = tt
  pending_formed (p ∷ s) h x = go (same_name p.0 x) (pending_formed s h.1 x)
    where
      go : (b : Bool) → Each CallFormed (pending_calls s x) → Each CallFormed (cond b p.1.calls (pending_calls s x))
      go true k = h.0.1
      go false k = k

  pend_formed : (ys : List Name) (us : List Actual) → Each ActualFormed us → Each PendingFormed (zip ys us)
  pend_formed [] us h = tt
  pend_formed (y ∷ ys) [] h = tt
  pend_formed (y ∷ ys) (u ∷ us) h = (h.0, pend_formed ys us h.1)

  all_formed : (us : List Actual) → Each ActualFormed us → Each CallFormed (all_calls us)
  all_formed [] h = tt
  all_formed (u ∷ us) h = each_append CallFormed u.calls (all_calls us) h.0.1 (all_formed us h.1)

  under_formed : (t : Test) → Formed A (tested t) → (rs : List RecursiveCall) → Each CallFormed rs → Each CallFormed (map (under_test t) rs)
  under_formed t i [] h = tt
  under_formed t i (r ∷ rs) h = (record { tests = (i, h.0.tests); actuals = h.0.actuals; name = h.0.name; found = h.0.found }, under_formed t i rs h.1)

  call_formed : (f : Name) (o : Option Function) → function_named B f ≡ o → (ts : Terms) → AreFormed A ts → (rs : List RecursiveCall) → Each CallFormed rs → Each CallFormed (call_or o ts rs)
  call_formed f None q ts i rs h = h
  call_formed f (Some g) q ts i rs h = (record { tests = tt; actuals = i; name = f; found = q }, tt)

  mutual
    collect_formed : (s : List Pending) → Each PendingFormed s → (t : Term) → Formed A t → Each CallFormed (collect B s t)
    collect_formed s h (Variable x) i = pending_formed s h x
    collect_formed s h (Constant c) i = tt
    collect_formed s h (If a b c) i =
        let ta = substitute_formed A (pending_terms s) (gives_pending s h) a i.1 in
        each_append CallFormed (collect B s a) _ (collect_formed s h a i.1)
        (each_append CallFormed (map (under_test (IsNotNil (substitute (pending_terms s) a))) (collect B s b)) _
        (under_formed (IsNotNil (substitute (pending_terms s) a)) ta (collect B s b) (collect_formed s h b i.2))
        (under_formed (IsNil (substitute (pending_terms s) a)) ta (collect B s c) (collect_formed s h c i.3)))
    collect_formed s h (Call f ts) i =
        call_formed f (function_named B f) refl (substitute_each (pending_terms s) ts) (substitute_each_formed A (pending_terms s) (gives_pending s h) ts i.2) (all_calls (actuals_with B s ts)) (all_formed (actuals_with B s ts) (actuals_formed s h ts i.2))
    collect_formed s h (Lambda ys b ts) i =
        let us = actuals_formed s h ts i.5 in
        each_append CallFormed (all_calls (actuals_with B s ts)) _ (all_formed (actuals_with B s ts) us) (collect_formed (zip ys (actuals_with B s ts)) (pend_formed ys (actuals_with B s ts) us) b i.4)

    actuals_formed : (s : List Pending) → Each PendingFormed s → (ts : Terms) → AreFormed A ts → Each ActualFormed (actuals_with B s ts)
    actuals_formed s h NoTerms i = tt
    actuals_formed s h (More t ts) i = ((substitute_formed A (pending_terms s) (gives_pending s h) t i.0, collect_formed s h t i.0), actuals_formed s h ts i.1)

-- under the older table: what mentions the block is left out
module _ (A : ArityTable) (B : List Function) (M : Measures) (no_if : is_some (function_named B (named "IF")) ≡ false) (less : arity_of A (named "ORD<") ≡ Some 2) (ordp : arity_of A (named "ORDP") ≡ Some 1) (measured : (f : Name) (h : Function) → function_named B f ≡ Some h → Formed A (measure_of M h.name)) where
  abbrev New : ArityTable
  New = add_functions B A

  equal_formed : (t : Term) (c : Object) → Formed A t → IsFormula A (Equal t (Constant c))
  equal_formed t c i = and_from (is_term A t) true (is_term-from A t i) refl

  test_formed : (t : Test) → Formed A (tested t) → IsFormula A (test_formula t)
  test_formed (IsNotNil a) i = equal_formed a NIL i
  test_formed (IsNil a) i = equal_formed a NIL i

  under_tests_formed : (ts : List Test) (F : Formula) → Each (λ t. Formed New (tested t)) ts → IsFormula A F → IsFormula A (under_tests B ts F)
  under_tests_formed [] F h i = i
  under_tests_formed (t ∷ ts) F h i = go (mentions B (tested t)) refl (under_tests_formed ts F h.1 i)
    where
      go : (b : Bool) → mentions B (tested t) ≡ b → IsFormula A (under_tests B ts F) → IsFormula A (cond b (under_tests B ts F) (Or (test_formula t) (under_tests B ts F)))
      go true q k = k
      go false q k = and_from (is_formula A (test_formula t)) (is_formula A (under_tests B ts F)) (test_formed t (term_without B A no_if (tested t) q h.0)) k

  ordinal_formed : (m : Term) → Formed A m → IsFormula A (ordinal_formula m)
  ordinal_formed m i = equal_formed (Call (named "ORDP") (More m NoTerms)) T (refl, ordp, (i, tt))

  falls_formed : (h g : Function) (ts : Terms) → Formed A (measure_of M h.name) → Formed A (measure_of M g.name) → AreFormed A ts → IsFormula A (falls M h g ts)
  falls_formed h g ts i j k =
      let p = substitute_formed A (actuals_for g.formals ts) (gives_actuals A g.formals ts k) (measure_of M g.name) j in
      equal_formed (Call (named "ORD<") (More (substitute (actuals_for g.formals ts) (measure_of M g.name)) (More (measure_of M h.name) NoTerms))) T (refl, less, (p, (i, tt)))

  calls_formed : (h : Function) → Formed A (measure_of M h.name) → (rs : List RecursiveCall) → Each (CallFormed New B) rs → some_nested B rs ≡ false → Each (IsFormula A) (map (obligation B M h) rs)
  calls_formed h i [] c n = tt
  calls_formed h i (r ∷ rs) c n =
      let p = or_parts (any_mentions B r.actuals) (some_nested B rs) n in
      (under_tests_formed r.tests (falls M h r.function r.actuals) c.0.tests (falls_formed h r.function r.actuals i (measured c.0.name r.function c.0.found) (terms_without B A no_if r.actuals p.0 c.0.actuals)), calls_formed h i rs c.1 p.1)

  owed_formed : (hs : List Function) → Each (λ h. function_named B h.name ≡ Some h) hs → Each (λ h. Formed New h.body) hs → is_nested B hs ≡ false → Each (IsFormula A) (owed B M hs)
  owed_formed [] f b n = tt
  owed_formed (h ∷ hs) f b n =
      let p = or_parts (some_nested B (recursive_calls B h)) (is_nested B hs) n in
      let i = measured h.name h f.0 in
      (ordinal_formed (measure_of M h.name) i, each_append (IsFormula A) (map (obligation B M h) (recursive_calls B h)) (owed B M hs) (calls_formed h i (recursive_calls B h) (collect_formed New B [] tt h.body b.0) p.0) (owed_formed hs f.1 b.1 p.1))

  pub obligations_formed : Each (λ h. function_named B h.name ≡ Some h) B → Each (λ h. Formed New h.body) B → is_nested B B ≡ false → Each (IsFormula A) (obligations B M)
  obligations_formed f b n = go (calls_none B B)
    where
      go : (c : Bool) → Each (IsFormula A) (cond c [] (firsts same_formula (owed B M B)))
      go true = tt
      go false = each_of_firsts (IsFormula A) same_formula (owed B M B) (owed_formed B f b n)
