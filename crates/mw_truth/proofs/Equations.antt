-- The equations that methods conclude: of calls with equal actuals, of a lambda call, and of a primitive of constants.
use Rattle.std.proofs.Common.{◌≡◌, ◌≢◌, true, false, List, [], ◌∷◌, Some, refl, sym, ◌∙◌, subst, ◌⊎◌, inl, inr}
use Rattle.std.proofs.lemmas.Bool.{and_parts}
use Rattle.mw_model.specs.Terms.Object.{Name, Object, same_object, NIL}
use Rattle.mw_model.specs.Terms.Term.{Term, Terms, Constant, If, Call, Lambda, NoTerms, More, Formula, Equal, Not, Or, ArityTable, count, is_formula, IsTerm, IsFormula}
use Rattle.mw_model.specs.Terms.Substitution.{substitute, actuals_for}
use Rattle.mw_model.specs.Values.Primitive.{Profile, Primitive, primitive_named, apply, choose}
use Rattle.mw_model.specs.Values.Value.{Environment, bind, Calls, OnCall, HasValue, HaveValues}
use Rattle.mw_model.specs.Values.Truth.{TrueAt}
use Rattle.mw_model.specs.Proofs.Proof.{unless_equal, three_terms, constants}
use Rattle.mw_model.proofs.Names.{object_cases}
use Rattle.mw_model.proofs.Formed.{formed}
use Rattle.mw_model.proofs.Values.{Det, ev_det, evs_det, ev_sub-back, ev_vars}
use Rattle.mw_truth.proofs.Having.{over, induces_zip, over_same}
use Rattle.mw_truth.proofs.TrueSubstituted.{TermsHave}

-- the last disjunct is a formula too
pub last_formula : (A : ArityTable) (ts us : Terms) (E : Formula) → IsFormula A (unless_equal ts us E) → IsFormula A E
last_formula A NoTerms us E h = h
last_formula A (More t ts) NoTerms E h = h
last_formula A (More t ts) (More u us) E h = last_formula A ts us E (and_parts (is_formula A (Not (Equal t u))) (is_formula A (unless_equal ts us E)) h).1

module _ (P : Profile) (C : Calls) where
  -- not a = b or F, where F is true for each value that a and b have in common
  pub unless_one-true : (e : Environment) (a b : Term) (F : Formula) → ((v : Object) → HasValue P C e a v → HasValue P C e b v → TrueAt P C e F) → TrueAt P C e (Or (Not (Equal a b)) F)
  unless_one-true e a b F f = λ k l. k (λ t. t (λ v p q. l (f v p q)))

  pub unless_equal-true : (e : Environment) (ts us : Terms) (F : Formula) → count ts ≡ count us → ((vs : List Object) → HaveValues P C e ts vs → HaveValues P C e us vs → TrueAt P C e F) → TrueAt P C e (unless_equal ts us F)
  unless_equal-true e NoTerms NoTerms F l f = f [] refl refl
  unless_equal-true e NoTerms (More u us) F l f = cc
  unless_equal-true e (More t ts) NoTerms F l f = cc
  unless_equal-true e (More t ts) (More u us) F l f =
      unless_one-true e t u (unless_equal ts us F) (λ v p q. unless_equal-true e ts us F (cc l) (λ vs ps qs. f (v ∷ vs) (v, vs, refl, p, ps) (v, vs, refl, q, qs)))

  constants_have : (e : Environment) (cs : List Object) → HaveValues P C e (constants cs) cs
  constants_have e [] = refl
  constants_have e (c ∷ cs) = (c, cs, refl, refl, constants_have e cs)

  pub base_true : (e : Environment) (f : Name) (p : Primitive) (cs : List Object) → primitive_named P f ≡ Some p → TrueAt P C e (Equal (Call f (constants cs)) (Constant (apply p cs)))
  base_true e f p cs q k = k (apply p cs) (cs, constants_have e cs, subst (λ o. OnCall C o f cs (apply p cs)) (sym q) refl) refl

  pub base_if-true : (e : Environment) (a b c : Object) → TrueAt P C e (Equal (If (Constant a) (Constant b) (Constant c)) (Constant (choose a b c)))
  base_if-true e a b c k = k (choose a b c) (go (object_cases a NIL)) refl
    where
      go : ((same_object a NIL ≡ true) × (a ≡ NIL)) ⊎ ((same_object a NIL ≡ false) × (a ≢ NIL)) → HasValue P C e (If (Constant a) (Constant b) (Constant c)) (choose a b c)
      go (inl q) = inr (sym q.1, rw q.0 refl)
      go (inr q) = inl (a, q.1, refl, rw q.0 refl)

  module _ (det : Det C) (A : ArityTable) (some : TermsHave P C A) where
    -- the first side has a value, and each value of it is one of the second
    equal_by : (e : Environment) (a b : Term) → IsTerm A a → ((v : Object) → HasValue P C e a v → HasValue P C e b v) → TrueAt P C e (Equal a b)
    equal_by e a b i f k = some e a i (λ v h. k v h (f v h))

    pub calls_equal : (e : Environment) (f : Name) (ts us : Terms) → IsTerm A (Call f ts) → count ts ≡ count us → TrueAt P C e (unless_equal ts us (Equal (Call f ts) (Call f us)))
    calls_equal e f ts us i l =
        unless_equal-true e ts us (Equal (Call f ts) (Call f us)) l (λ vs p q.
        equal_by e (Call f ts) (Call f us) i (λ v h. (vs, q, subst (λ ws. OnCall C (primitive_named P f) f ws v) (evs_det P C det e ts h.0 vs h.1 p) h.2)))

    same_choice : (e : Environment) (a b c a' b' c' : Term) → IsTerm A (If a b c) → (u v w : Object) → HasValue P C e a u → HasValue P C e a' u → HasValue P C e b v → HasValue P C e b' v → HasValue P C e c w → HasValue P C e c' w → TrueAt P C e (Equal (If a b c) (If a' b' c'))
    same_choice e a b c a' b' c' i u v w hu hu' hv hv' hw hw' = equal_by e (If a b c) (If a' b' c') i go
      where
        go : (z : Object) → HasValue P C e (If a b c) z → HasValue P C e (If a' b' c') z
        go z (inl h) = inl (u, (λ q. h.1 (ev_det P C det e a h.0 u h.2 hu ∙ q)), hu', subst (λ o. HasValue P C e b' o) (ev_det P C det e b v z hv h.3) hv')
        go z (inr h) = inr (subst (λ o. HasValue P C e a' o) (ev_det P C det e a u NIL hu h.0) hu', subst (λ o. HasValue P C e c' o) (ev_det P C det e c w z hw h.1) hw')

    pub ifs_equal : (e : Environment) (a b c a' b' c' : Term) → IsTerm A (If a b c) → TrueAt P C e (unless_equal (three_terms a b c) (three_terms a' b' c') (Equal (If a b c) (If a' b' c')))
    ifs_equal e a b c a' b' c' i =
        let E = Equal (If a b c) (If a' b' c') in
        unless_one-true e a a' (Or (Not (Equal b b')) (Or (Not (Equal c c')) E)) (λ u hu hu'.
        unless_one-true e b b' (Or (Not (Equal c c')) E) (λ v hv hv'.
        unless_one-true e c c' E (λ w hw hw'.
        same_choice e a b c a' b' c' i u v w hu hu' hv hv' hw hw')))

    pub beta_true : (e : Environment) (xs : List Name) (b : Term) (ts : Terms) → IsTerm A (Lambda xs b ts) → TrueAt P C e (Equal (Lambda xs b ts) (substitute (actuals_for xs ts) b))
    beta_true e xs b ts i =
        let p = formed A (Lambda xs b ts) i in
        equal_by e (Lambda xs b ts) (substitute (actuals_for xs ts) b) i (λ v h.
        ev_sub-back P C e (over xs h.0 e) (actuals_for xs ts) (induces_zip P C e xs ts h.0 h.1 p.3) b v
        (ev_vars P C xs (bind xs h.0) (over xs h.0 e) (over_same P C e xs ts h.0 h.1 p.3) b v p.2 h.2))
