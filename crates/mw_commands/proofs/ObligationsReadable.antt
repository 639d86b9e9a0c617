-- The obligations of a block are readable formulas, where its bodies and measures are readable terms.
use Rattle.std.proofs.Common.{Bool, true, false, cond, List, [], ◌∷◌, map, filter, not, Option, Some, None, refl, zip}
use Rattle.mw_model.specs.Terms.Object.{Name, same_name}
use Rattle.mw_model.specs.Terms.Term.{Term, Terms, Variable, Constant, If, Call, Lambda, NoTerms, More, Or, Formula, firsts}
use Rattle.mw_model.specs.Terms.Same.{same_formula}
use Rattle.mw_model.specs.Terms.Substitution.{substitute, substitute_each, actuals_for}
use Rattle.mw_model.specs.Values.Definition.{Function, function_named}
use Rattle.mw_model.specs.Values.Truth.{Each}
use Rattle.mw_model.specs.Events.Obligation.{mentions, Test, IsNotNil, IsNil, RecursiveCall, under_test, Actual, Pending, pending_terms, pending_calls, all_calls, call_or, collect, actuals_with, recursive_calls, Measures, measure_of, tested, test_formula, under_tests, falls, obligation, owed, calls_none, obligations}
use Rattle.mw_model.proofs.PremisesObject.{each_append}
use Rattle.mw_model.proofs.Readable.{Readable, AreReadable, ReadableFormula, ReadableSubstitution, image-readable, substitute-readable, substitute_each-readable, actuals_for-readable}

-- what holds of each member holds of the first of equal ones
pub each_filter : {X : Type 0} (P : X → Type 0) (test : X → Bool) (xs : List X) → Each P xs → Each P (filter test xs)
each_filter P test [] h = tt
each_filter P test (x ∷ xs) h = go (test x) (each_filter P test xs h.1)
  where
    go : (b : Bool) → Each P (filter test xs) → Each P (cond b (x ∷ filter test xs) (filter test xs))
    go true k = (h.0, k)
    go false k = k

pub each_of_firsts : {X : Type 0} (P : X → Type 0) (same : X → X → Bool) (xs : List X) → Each P xs → Each P (firsts same xs)
each_of_firsts P same [] h = tt
each_of_firsts P same (x ∷ xs) h = (h.0, each_filter P (λ y. not (same x y)) (firsts same xs) (each_of_firsts P same xs h.1))

-- what is collected is made of readable terms
abbrev CallReadable : RecursiveCall → Type 0
CallReadable r = Each (λ t. Readable (tested t)) r.tests × AreReadable r.actuals

abbrev ActualReadable : Actual → Type 0
ActualReadable u = Readable u.term × Each CallReadable u.calls

abbrev PendingReadable : Pending → Type 0
PendingReadable p = Readable p.1.term × Each CallReadable p.1.calls

terms_pending : (s : List Pending) → Each PendingReadable s → ReadableSubstitution (pending_terms s)
terms_pending [] h x = tt
terms_pending (p ∷ s) h x = image-readable (p.0, p.1.term) (pending_terms s) x h.0.0 (terms_pending s h.1 x)

calls_pending : (s : List Pending) → Each PendingReadable s → (x : Name) → Each CallReadable (pending_calls s x)
calls_pending [] h x = tt
calls_pending (p ∷ s) h x = go (same_name p.0 x) (calls_pending s h.1 x)
  where
    go : (b : Bool) → Each CallReadable (pending_calls s x) → Each CallReadable (cond b p.1.calls (pending_calls s x))
    go true k = h.0.1
    go false k = k

pend_readable : (xs : List Name) (us : List Actual) → Each ActualReadable us → Each PendingReadable (zip xs us)
pend_readable [] us h = tt
pend_readable (x ∷ xs) [] h = tt
pend_readable (x ∷ xs) (u ∷ us) h = (h.0, pend_readable xs us h.1)

all_readable : (us : List Actual) → Each ActualReadable us → Each CallReadable (all_calls us)
all_readable [] h = tt
all_readable (u ∷ us) h = each_append CallReadable u.calls (all_calls us) h.0.1 (all_readable us h.1)

under_readable : (t : Test) → Readable (tested t) → (rs : List RecursiveCall) → Each CallReadable rs → Each CallReadable (map (under_test t) rs)
under_readable t i [] h = tt
under_readable t i (r ∷ rs) h = (((i, h.0.0), h.0.1), under_readable t i rs h.1)

call_readable : (o : Option Function) (ts : Terms) (rs : List RecursiveCall) → AreReadable ts → Each CallReadable rs → Each CallReadable (call_or o ts rs)
call_readable None ts rs i h = h
call_readable (Some f) ts rs i h = ((tt, i), tt)

module _ (B : List Function) where
  mutual
    collect_readable : (s : List Pending) → Each PendingReadable s → (t : Term) → Readable t → Each CallReadable (collect B s t)
    collect_readable s h (Variable x) i = calls_pending s h x
    collect_readable s h (Constant c) i = tt
    collect_readable s h (If a b c) i =
        let test = substitute-readable (pending_terms s) (terms_pending s h) a i.0 in
        each_append CallReadable (collect B s a) _ (collect_readable s h a i.0)
        (each_append CallReadable (map (under_test (IsNotNil (substitute (pending_terms s) a))) (collect B s b)) _
        (under_readable (IsNotNil (substitute (pending_terms s) a)) test (collect B s b) (collect_readable s h b i.1))
        (under_readable (IsNil (substitute (pending_terms s) a)) test (collect B s c) (collect_readable s h c i.2)))
    collect_readable s h (Call f ts) i =
        call_readable (function_named B f) (substitute_each (pending_terms s) ts) (all_calls (actuals_with B s ts)) (substitute_each-readable (pending_terms s) (terms_pending s h) ts i.1) (all_readable (actuals_with B s ts) (actuals_readable s h ts i.1))
    collect_readable s h (Lambda xs b ts) i =
        let us = actuals_readable s h ts i.1 in
        each_append CallReadable (all_calls (actuals_with B s ts)) _ (all_readable (actuals_with B s ts) us) (collect_readable (zip xs (actuals_with B s ts)) (pend_readable xs (actuals_with B s ts) us) b i.0)

    actuals_readable : (s : List Pending) → Each PendingReadable s → (ts : Terms) → AreReadable ts → Each ActualReadable (actuals_with B s ts)
    actuals_readable s h NoTerms i = tt
    actuals_readable s h (More t ts) i = ((substitute-readable (pending_terms s) (terms_pending s h) t i.0, collect_readable s h t i.0), actuals_readable s h ts i.1)

  module _ (M : Measures) (measures_readable : (f : Name) → Readable (measure_of M f)) where
    test_readable : (t : Test) → Readable (tested t) → ReadableFormula (test_formula t)
    test_readable (IsNotNil a) i = (i, tt)
    test_readable (IsNil a) i = (i, tt)

    under_tests_readable : (ts : List Test) (F : Formula) → Each (λ t. Readable (tested t)) ts → ReadableFormula F → ReadableFormula (under_tests B ts F)
    under_tests_readable [] F h i = i
    under_tests_readable (t ∷ ts) F h i = go (mentions B (tested t)) (under_tests_readable ts F h.1 i)
      where
        go : (b : Bool) → ReadableFormula (under_tests B ts F) → ReadableFormula (cond b (under_tests B ts F) (Or (test_formula t) (under_tests B ts F)))
        go true k = k
        go false k = (test_readable t h.0, k)

    falls_readable : (h called : Function) (ts : Terms) → AreReadable ts → ReadableFormula (falls M h called ts)
    falls_readable h called ts i = ((refl, (substitute-readable (actuals_for called.formals ts) (actuals_for-readable called.formals ts i) (measure_of M called.name) (measures_readable called.name), (measures_readable h.name, tt))), tt)

    calls_readable : (h : Function) (rs : List RecursiveCall) → Each CallReadable rs → Each ReadableFormula (map (obligation B M h) rs)
    calls_readable h [] c = tt
    calls_readable h (r ∷ rs) c = (under_tests_readable r.tests (falls M h r.function r.actuals) c.0.0 (falls_readable h r.function r.actuals c.0.1), calls_readable h rs c.1)

    owed_readable : (hs : List Function) → Each (λ h. Readable h.body) hs → Each ReadableFormula (owed B M hs)
    owed_readable [] b = tt
    owed_readable (h ∷ hs) b =
        (((refl, (measures_readable h.name, tt)), tt), each_append ReadableFormula (map (obligation B M h) (recursive_calls B h)) (owed B M hs) (calls_readable h (recursive_calls B h) (collect_readable [] tt h.body b.0)) (owed_readable hs b.1))

    pub obligations_readable : Each (λ h. Readable h.body) B → Each ReadableFormula (obligations B M)
    obligations_readable b = go (calls_none B B)
      where
        go : (c : Bool) → Each ReadableFormula (cond c [] (firsts same_formula (owed B M B)))
        go true = tt
        go false = each_of_firsts ReadableFormula same_formula (owed B M B) (owed_readable B b)
