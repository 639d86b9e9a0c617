-- A block whose obligations are true keeps that each term has a value.
use Rattle.std.proofs.Common.{◌≡◌, ◌≢◌, Bool, true, false, ◌||◌, cond, List, [], ◌∷◌, ◌++◌, map, length, Option, Some, None, refl, sym, ap, ◌∙◌, subst, inl, inr, is_some, zip}
use Rattle.std.proofs.lemmas.Bool.{or_parts, or_from, true≢false, false≢true}
use Rattle.mw_model.specs.Terms.Object.{Name, Object, named, same_name, NIL}
use Rattle.mw_model.specs.Terms.Term.{Term, Terms, Variable, Constant, If, Call, Lambda, NoTerms, More, Formula, Equal, Not, Or, ArityTable, arity_of, is_closed, is_call_name, count}
use Rattle.mw_model.specs.Terms.Substitution.{Substitution, substitute, substitute_each, image, actuals_for}
use Rattle.mw_model.specs.Values.Primitive.{Profile, Primitive, primitive_named}
use Rattle.mw_model.specs.Values.Definition.{Function, function_named, add_functions, are_new}
use Rattle.mw_model.specs.Values.Value.{Environment, lookup, bind, Calls, OnCall, HasValue, HaveValues, OnFunction, CallAtSomeDepth}
use Rattle.mw_model.specs.Values.Truth.{TrueAt, TrueFor, Each}
use Rattle.mw_model.specs.Events.Obligation.{mentions, any_mentions, Test, IsNotNil, IsNil, RecursiveCall, under_test, Pending, pending_terms, all_calls, call_or, collect, actuals_with, recursive_calls, Measures, measure_of, ordinal_formula, tested, test_formula, under_tests, falls, obligation, is_empty, calls_none}
use Rattle.mw_model.proofs.Names.{same_name-eq}
use Rattle.mw_model.proofs.Formed.{Formed, AreFormed}
use Rattle.mw_model.proofs.Values.{Det, ev_det, Induces, ev_sub-back, evs_sub-back, ev_vars}
use Rattle.mw_model.proofs.Depth.{Now, block_fold}
use Rattle.mw_model.proofs.Older.{add_keeps, arity_here}
use Rattle.mw_descent.proofs.Descents.{Ordinal, Below, Passes, at_each}
use Rattle.mw_truth.proofs.Having.{Has, CallsHave, Orders, stable, each_left, each_right, evs_length, count_subs, on_has, if_has, term_has, terms_have, bound_over, ordp_says, less_says, over, induces_zip, over_same}

-- no actual mentions the block, and the obligation is true at e
abbrev pub IsGood : Profile → Calls → List Function → Environment → (Function → Terms → Formula) → RecursiveCall → Type 0
IsGood P C B e close r = (any_mentions B r.actuals ≡ false) × TrueAt P C e (under_tests B r.tests (close r.function r.actuals))

-- wherever a measure has the value a, its function's call is not without a value
abbrev pub BlockGoal : Profile → Calls → List Function → Measures → Object → Type 0
BlockGoal P C B M a = (h : Function) → function_named B h.name ≡ Some h → (ws : List Object) → HasValue P C (bind h.formals ws) (measure_of M h.name) a → Has (CallAtSomeDepth P C B h ws)

pub record BlockFormed (P : Profile) (A : ArityTable) (B : List Function) (M : Measures) (h : Function) : Type 0 where
  pub plain : primitive_named P h.name ≡ None
  pub call_name : is_call_name h.name ≡ true
  pub body : Formed (add_functions B A) h.body
  pub measure : Formed A (measure_of M h.name)
  pub shut : is_closed h.formals (measure_of M h.name) ≡ true

-- no call is nested, and the obligations of the block are true
pub record Owed (P : Profile) (C : Calls) (B : List Function) (M : Measures) : Type 0 where
  pub flat : Each (λ h. Each (λ r. any_mentions B r.actuals ≡ false) (recursive_calls B h)) B
  pub ordinal : calls_none B B ≡ false → Each (λ h. TrueFor P C (ordinal_formula (measure_of M h.name))) B
  pub falls : Each (λ h. Each (λ r. TrueFor P C (obligation B M h r)) (recursive_calls B h)) B

module _ (P : Profile) (C : Calls) (B : List Function) where
  -- the values of terms that do not mention the block
  past : (o : Option Function) (f : Name) (ws : List Object) (v : Object) → is_some o ≡ false → OnFunction C (CallAtSomeDepth P C B) o f ws v → C f ws v
  past None f ws v n h = h
  past (Some g) f ws v n h = absurd (true≢false n)

  other : (o : Option Function) (f : Name) (ws : List Object) (v : Object) → is_some o ≡ false → C f ws v → OnFunction C (CallAtSomeDepth P C B) o f ws v
  other None f ws v n h = h
  other (Some g) f ws v n h = absurd (true≢false n)

  on_avoid : (o : Option Primitive) (f : Name) (ws : List Object) (v : Object) → is_some (function_named B f) ≡ false → OnCall (Now P C B) o f ws v → OnCall C o f ws v
  on_avoid None f ws v n h = past (function_named B f) f ws v n h
  on_avoid (Some p) f ws v n h = h

  pub on_keep : (o : Option Primitive) (f : Name) (ws : List Object) (v : Object) → is_some (function_named B f) ≡ false → OnCall C o f ws v → OnCall (Now P C B) o f ws v
  on_keep None f ws v n h = other (function_named B f) f ws v n h
  on_keep (Some p) f ws v n h = h

  mutual
    pub ev_avoid : (e : Environment) (t : Term) (v : Object) → mentions B t ≡ false → HasValue P (Now P C B) e t v → HasValue P C e t v
    ev_avoid e (Variable x) v n h = h
    ev_avoid e (Constant c) v n h = h
    ev_avoid e (If a b c) v n (inl h) =
        let p = or_parts (mentions B a) (mentions B b || mentions B c) n in
        let q = or_parts (mentions B b) (mentions B c) p.1 in
        inl (h.0, h.1, ev_avoid e a h.0 p.0 h.2, ev_avoid e b v q.0 h.3)
    ev_avoid e (If a b c) v n (inr h) =
        let p = or_parts (mentions B a) (mentions B b || mentions B c) n in
        let q = or_parts (mentions B b) (mentions B c) p.1 in
        inr (ev_avoid e a NIL p.0 h.0, ev_avoid e c v q.1 h.1)
    ev_avoid e (Call f ts) v n h =
        let p = or_parts (is_some (function_named B f)) (any_mentions B ts) n in
        (h.0, evs_avoid e ts h.0 p.1 h.1, on_avoid (primitive_named P f) f h.0 v p.0 h.2)
    ev_avoid e (Lambda ys b ts) v n h =
        let p = or_parts (mentions B b) (any_mentions B ts) n in
        (h.0, evs_avoid e ts h.0 p.1 h.1, ev_avoid (bind ys h.0) b v p.0 h.2)

    pub evs_avoid : (e : Environment) (ts : Terms) (ws : List Object) → any_mentions B ts ≡ false → HaveValues P (Now P C B) e ts ws → HaveValues P C e ts ws
    evs_avoid e NoTerms ws n h = h
    evs_avoid e (More t ts) ws n h =
        let p = or_parts (mentions B t) (any_mentions B ts) n in
        (h.0, h.1, h.2, ev_avoid e t h.0 p.0 h.3, evs_avoid e ts h.1 p.1 h.4)

  mutual
    pub ev_keep : (e : Environment) (t : Term) (v : Object) → mentions B t ≡ false → HasValue P C e t v → HasValue P (Now P C B) e t v
    ev_keep e (Variable x) v n h = h
    ev_keep e (Constant c) v n h = h
    ev_keep e (If a b c) v n (inl h) =
        let p = or_parts (mentions B a) (mentions B b || mentions B c) n in
        let q = or_parts (mentions B b) (mentions B c) p.1 in
        inl (h.0, h.1, ev_keep e a h.0 p.0 h.2, ev_keep e b v q.0 h.3)
    ev_keep e (If a b c) v n (inr h) =
        let p = or_parts (mentions B a) (mentions B b || mentions B c) n in
        let q = or_parts (mentions B b) (mentions B c) p.1 in
        inr (ev_keep e a NIL p.0 h.0, ev_keep e c v q.1 h.1)
    ev_keep e (Call f ts) v n h =
        let p = or_parts (is_some (function_named B f)) (any_mentions B ts) n in
        (h.0, evs_keep e ts h.0 p.1 h.1, on_keep (primitive_named P f) f h.0 v p.0 h.2)
    ev_keep e (Lambda ys b ts) v n h =
        let p = or_parts (mentions B b) (any_mentions B ts) n in
        (h.0, evs_keep e ts h.0 p.1 h.1, ev_keep (bind ys h.0) b v p.0 h.2)

    pub evs_keep : (e : Environment) (ts : Terms) (ws : List Object) → any_mentions B ts ≡ false → HaveValues P C e ts ws → HaveValues P (Now P C B) e ts ws
    evs_keep e NoTerms ws n h = h
    evs_keep e (More t ts) ws n h =
        let p = or_parts (mentions B t) (any_mentions B ts) n in
        (h.0, h.1, h.2, ev_keep e t h.0 p.0 h.3, evs_keep e ts h.1 p.1 h.4)

-- what a substituted term does not mention, the term does not
mutual
  pub sub_mentions : (B : List Function) (s : Substitution) (t : Term) → mentions B (substitute s t) ≡ false → mentions B t ≡ false
  sub_mentions B s (Variable x) n = refl
  sub_mentions B s (Constant c) n = refl
  sub_mentions B s (If a b c) n =
      let p = or_parts (mentions B (substitute s a)) (mentions B (substitute s b) || mentions B (substitute s c)) n in
      let q = or_parts (mentions B (substitute s b)) (mentions B (substitute s c)) p.1 in
      or_from (mentions B a) (mentions B b || mentions B c) (sub_mentions B s a p.0) (or_from (mentions B b) (mentions B c) (sub_mentions B s b q.0) (sub_mentions B s c q.1))
  sub_mentions B s (Call f ts) n =
      let p = or_parts (is_some (function_named B f)) (any_mentions B (substitute_each s ts)) n in
      or_from (is_some (function_named B f)) (any_mentions B ts) p.0 (subs_mentions B s ts p.1)
  sub_mentions B s (Lambda ys b ts) n =
      let p = or_parts (mentions B b) (any_mentions B (substitute_each s ts)) n in
      or_from (mentions B b) (any_mentions B ts) p.0 (subs_mentions B s ts p.1)

  pub subs_mentions : (B : List Function) (s : Substitution) (ts : Terms) → any_mentions B (substitute_each s ts) ≡ false → any_mentions B ts ≡ false
  subs_mentions B s NoTerms n = refl
  subs_mentions B s (More t ts) n =
      let p = or_parts (mentions B (substitute s t)) (any_mentions B (substitute_each s ts)) n in
      or_from (mentions B t) (any_mentions B ts) (sub_mentions B s t p.0) (subs_mentions B s ts p.1)

-- the arity of a name that is not in the block
arity_past : (B : List Function) (A : ArityTable) (f : Name) → is_some (function_named B f) ≡ false → arity_of (add_functions B A) f ≡ arity_of A f
arity_past B A f n = add_keeps B A f (none (function_named B f) n)
  where
    none : (o : Option Function) → is_some o ≡ false → o ≡ None
    none None i = refl
    none (Some k) i = absurd (true≢false i)

mutual
  pub term_without : (B : List Function) (A : ArityTable) → is_some (function_named B (named "IF")) ≡ false → (t : Term) → mentions B t ≡ false → Formed ((add_functions B A)) t → Formed A t
  term_without B A d (Variable x) m h = h
  term_without B A d (Constant c) m h = h
  term_without B A d (If a b c) m h =
      let p = or_parts (mentions B a) (mentions B b || mentions B c) m in
      let q = or_parts (mentions B b) (mentions B c) p.1 in
      (sym (arity_past B A (named "IF") d) ∙ h.0, term_without B A d a p.0 h.1, term_without B A d b q.0 h.2, term_without B A d c q.1 h.3)
  term_without B A d (Call f ts) m h =
      let p = or_parts (is_some (function_named B f)) (any_mentions B ts) m in
      (h.0, sym (arity_past B A f p.0) ∙ h.1, terms_without B A d ts p.1 h.2)
  term_without B A d (Lambda ys b ts) m h =
      let p = or_parts (mentions B b) (any_mentions B ts) m in
      (h.0, h.1, h.2, h.3, term_without B A d b p.0 h.4, terms_without B A d ts p.1 h.5)

  pub terms_without : (B : List Function) (A : ArityTable) → is_some (function_named B (named "IF")) ≡ false → (ts : Terms) → any_mentions B ts ≡ false → AreFormed ((add_functions B A)) ts → AreFormed A ts
  terms_without B A d NoTerms m h = h
  terms_without B A d (More t ts) m h =
      let p = or_parts (mentions B t) (any_mentions B ts) m in
      (term_without B A d t p.0 h.0, terms_without B A d ts p.1 h.1)

-- a test that is kept and is false may go
module _ (P : Profile) (C : Calls) (B : List Function) (e : Environment) (close : Function → Terms → Formula) where
  good_untested : (t : Test) (r : RecursiveCall) → (mentions B (tested t) ≡ false → TrueAt P C e (test_formula t) → ⊥) → IsGood P C B e close (under_test t r) → IsGood P C B e close r
  good_untested t r off h = (h.0, go (mentions B (tested t)) refl h.1)
    where
      go : (b : Bool) → mentions B (tested t) ≡ b → TrueAt P C e (cond b (under_tests B r.tests (close r.function r.actuals)) (Or (test_formula t) (under_tests B r.tests (close r.function r.actuals)))) → TrueAt P C e (under_tests B r.tests (close r.function r.actuals))
      go true q u = u
      go false q u = stable P C e (under_tests B r.tests (close r.function r.actuals)) (u (off q))

  each_untested : (t : Test) (rs : List RecursiveCall) → (mentions B (tested t) ≡ false → TrueAt P C e (test_formula t) → ⊥) → Each (IsGood P C B e close) (map (under_test t) rs) → Each (IsGood P C B e close) rs
  each_untested t [] off h = tt
  each_untested t (r ∷ rs) off h = (good_untested t r off h.0, each_untested t rs off h.1)

module _ (P : Profile) (C : Calls) (det : Det C) (A : ArityTable) (some : CallsHave P C A) (B : List Function) (news : are_new A B ≡ true) (plain : (f : Name) (h : Function) → function_named B f ≡ Some h → primitive_named P f ≡ None) (no_if : is_some (function_named B (named "IF")) ≡ false) (e : Environment) (close : Function → Terms → Formula) where
  abbrev Down : Type 0
  Down =
      (f : Name) (h : Function) → function_named B f ≡ Some h → (ts : Terms) → any_mentions B ts ≡ false → count ts ≡ length h.formals → TrueAt P C e (close h ts) → (ws : List Object) → HaveValues P C e ts ws → Has (CallAtSomeDepth P C B h ws)

  abbrev Also : Calls
  Also = Now P C B

  abbrev Fine : List RecursiveCall → Type 0
  Fine rs = Each (IsGood P C B e close) rs

  ev_cond : (b : Bool) (t u : Term) (v w : Object) → HasValue P Also e t v → HasValue P Also e u w → HasValue P Also e (cond b t u) (cond b v w)
  ev_cond true t u v w h i = h
  ev_cond false t u v w h i = i

  induces_pend : (s : List Pending) (e' : Environment) → Induces P Also e (pending_terms s) e' → (ys : List Name) (ts : Terms) (vs : List Object) → HaveValues P Also e' ts vs → Induces P Also e (pending_terms (zip ys (actuals_with B s ts))) (bind ys vs ++ e)
  induces_pend s e' ind [] ts vs h x = refl
  induces_pend s e' ind (y ∷ ys) NoTerms vs h x = subst (λ z. lookup (bind (y ∷ ys) z ++ e) x ≡ lookup e x) (sym h) refl
  induces_pend s e' ind (y ∷ ys) (More t ts) vs h x =
      subst (λ z. HasValue P Also e (cond (same_name y x) (substitute (pending_terms s) t) (image (pending_terms (zip ys (actuals_with B s ts))) x)) (lookup (bind (y ∷ ys) z ++ e) x)) (sym h.2)
      (ev_cond (same_name y x) (substitute (pending_terms s) t) (image (pending_terms (zip ys (actuals_with B s ts))) x) h.0 (lookup (bind ys h.1 ++ e) x) (ev_sub-back P Also e e' (pending_terms s) ind t h.0 h.3) (induces_pend s e' ind ys ts h.1 h.4 x))

  isnot_false : (s : List Pending) (e' : Environment) → Induces P Also e (pending_terms s) e' → (a : Term) (w : Object) → HasValue P Also e' a w → w ≢ NIL → mentions B (substitute (pending_terms s) a) ≡ false → TrueAt P C e (Equal (substitute (pending_terms s) a) (Constant NIL)) → ⊥
  isnot_false s e' ind a w hw ne m t =
      let h = ev_avoid P C B e (substitute (pending_terms s) a) w m (ev_sub-back P Also e e' (pending_terms s) ind a w hw) in
      t (λ v hv q. ne (ev_det P C det e (substitute (pending_terms s) a) w v h hv ∙ q))

  is_false : (s : List Pending) (e' : Environment) → Induces P Also e (pending_terms s) e' → (a : Term) (w : Object) → HasValue P Also e' a w → w ≡ NIL → mentions B (substitute (pending_terms s) a) ≡ false → TrueAt P C e (Not (Equal (substitute (pending_terms s) a) (Constant NIL))) → ⊥
  is_false s e' ind a w hw q m t =
      let h = ev_avoid P C B e (substitute (pending_terms s) a) w m (ev_sub-back P Also e e' (pending_terms s) ind a w hw) in
      t (λ k. k w h q)

  call_has : (down : Down) (s : List Pending) (e' : Environment) → Induces P Also e (pending_terms s) e' → (f : Name) (ts : Terms) → Formed ((add_functions B A)) (Call f ts) → (Fine (all_calls (actuals_with B s ts)) → Has (HaveValues P Also e' ts)) → Fine (collect B s (Call f ts)) → Has (HasValue P Also e' (Call f ts))
  call_has down s e' ind f ts i ih fine k = go (function_named B f) refl fine
    where
      go : (o : Option Function) → function_named B f ≡ o → Fine (call_or o (substitute_each (pending_terms s) ts) (all_calls (actuals_with B s ts))) → ⊥
      go (Some h) q fine =
          let nm = fine.0.0 in
          let nm' = subs_mentions B (pending_terms s) ts nm in
          let some_n : Some (length h.formals) ≡ Some (count ts) = sym (arity_here B A A f h news q) ∙ i.1 in
          let same_n : length h.formals ≡ count ts = cc in
          terms_have P C A some e' ts (terms_without B A no_if ts nm' i.2) (λ ws hws.
          let h1 = evs_keep P C B e' ts ws nm' hws in
          let h2 = evs_sub-back P Also e e' (pending_terms s) ind ts ws h1 in
          down f h q (substitute_each (pending_terms s) ts) nm (count_subs (pending_terms s) ts ∙ sym same_n) fine.0.1 ws (evs_avoid P C B e (substitute_each (pending_terms s) ts) ws nm h2) (λ v r.
          k v (ws, h1, subst (λ o. OnCall Also o f ws v) (sym (plain f h q)) (subst (λ o. OnFunction C (CallAtSomeDepth P C B) o f ws v) (sym q) r))))
      go None q fine =
          let out : is_some (function_named B f) ≡ false = ap is_some q in
          ih fine (λ ws hws. on_has P C A some (primitive_named P f) f (count ts) ws refl i.0 (sym (arity_past B A f out) ∙ i.1) (evs_length P Also e' ts ws hws) (λ v hv. k v (ws, hws, on_keep P C B (primitive_named P f) f ws v out hv)))

  mutual
    pub has_value : (down : Down) (s : List Pending) (e' : Environment) → Induces P Also e (pending_terms s) e' → (t : Term) → Formed ((add_functions B A)) t → Fine (collect B s t) → Has (HasValue P Also e' t)
    has_value down s e' ind (Variable x) i fine k = k (lookup e' x) refl
    has_value down s e' ind (Constant c) i fine k = k c refl
    has_value down s e' ind (If a b c) i fine k =
        let fb = each_right (IsGood P C B e close) (collect B s a) (map (under_test (IsNotNil (substitute (pending_terms s) a))) (collect B s b) ++ map (under_test (IsNil (substitute (pending_terms s) a))) (collect B s c)) fine in
        has_value down s e' ind a i.1 (each_left (IsGood P C B e close) (collect B s a) _ fine) (λ w hw. if_has P C A some w
        (λ ne. has_value down s e' ind b i.2 (each_untested P C B e close (IsNotNil (substitute (pending_terms s) a)) (collect B s b) (isnot_false s e' ind a w hw ne) (each_left (IsGood P C B e close) (map (under_test (IsNotNil (substitute (pending_terms s) a))) (collect B s b)) _ fb)) (λ v hv. k v (inl (w, ne, hw, hv))))
        (λ q. has_value down s e' ind c i.3 (each_untested P C B e close (IsNil (substitute (pending_terms s) a)) (collect B s c) (is_false s e' ind a w hw q) (each_right (IsGood P C B e close) (map (under_test (IsNotNil (substitute (pending_terms s) a))) (collect B s b)) _ fb)) (λ v hv. k v (inr (subst (λ z. HasValue P Also e' a z) q hw, hv)))))
    has_value down s e' ind (Call f ts) i fine k = call_has down s e' ind f ts i (have_values down s e' ind ts i.2) fine k
    has_value down s e' ind (Lambda ys b ts) i fine k =
        have_values down s e' ind ts i.5 (each_left (IsGood P C B e close) (all_calls (actuals_with B s ts)) (collect B (zip ys (actuals_with B s ts)) b) fine) (λ vs hvs.
        has_value down (zip ys (actuals_with B s ts)) (bind ys vs ++ e) (induces_pend s e' ind ys ts vs hvs) b i.4 (each_right (IsGood P C B e close) (all_calls (actuals_with B s ts)) (collect B (zip ys (actuals_with B s ts)) b) fine) (λ v hv.
        k v (vs, hvs, ev_vars P Also ys (bind ys vs ++ e) (bind ys vs) (bound_over ys vs e (i.3 ∙ sym (evs_length P Also e' ts vs hvs))) b v i.2 hv)))

    pub have_values : (down : Down) (s : List Pending) (e' : Environment) → Induces P Also e (pending_terms s) e' → (ts : Terms) → AreFormed ((add_functions B A)) ts → Fine (all_calls (actuals_with B s ts)) → Has (HaveValues P Also e' ts)
    have_values down s e' ind NoTerms i fine k = k [] refl
    have_values down s e' ind (More t ts) i fine k =
        has_value down s e' ind t i.0 (each_left (IsGood P C B e close) (collect B s t) (all_calls (actuals_with B s ts)) fine) (λ w hw. have_values down s e' ind ts i.1 (each_right (IsGood P C B e close) (collect B s t) (all_calls (actuals_with B s ts)) fine) (λ ws hws. k (w ∷ ws) (w, ws, refl, hw, hws)))

-- the name of the function found
pub fn_name : (B : List Function) (f : Name) (h : Function) → function_named B f ≡ Some h → h.name ≡ f
fn_name [] f h q = cc
fn_name (g ∷ B) f h q = go (same_name g.name f) refl q (fn_name B f h)
  where
    go : (b : Bool) → same_name g.name f ≡ b → cond b (Some g) (function_named B f) ≡ Some h → (function_named B f ≡ Some h → h.name ≡ f) → h.name ≡ f
    go true e q ih = let p : h ≡ g = cc in ap (λ k. k.name) p ∙ same_name-eq g.name f e
    go false e q ih = ih q

-- each function of a list that the name finds
pub each_at : (Q : Function → Type 0) (B : List Function) → Each Q B → (f : Name) (h : Function) → function_named B f ≡ Some h → Q h
each_at Q [] x f h q = cc
each_at Q (g ∷ B) x f h q = go (same_name g.name f) q (each_at Q B x.1 f h)
  where
    go : (b : Bool) → cond b (Some g) (function_named B f) ≡ Some h → (function_named B f ≡ Some h → Q h) → Q h
    go true q ih = let p : g ≡ h = cc in subst Q p x.0
    go false q ih = ih q

-- a block with its obligations true
module _ (P : Profile) (C : Calls) (det : Det C) (A : ArityTable) (some : CallsHave P C A) (o : Orders C) (B : List Function) (M : Measures) (news : are_new A B ≡ true) (formed : Each (BlockFormed P A B M) B) (no_if : is_some (function_named B (named "IF")) ≡ false) where
  plain : (f : Name) (h : Function) → function_named B f ≡ Some h → primitive_named P f ≡ None
  plain f h q = subst (λ n. primitive_named P n ≡ None) (fn_name B f h q) (each_at (BlockFormed P A B M) B formed f h q).plain

  down : (a : Object) → ((c : Object) → Ordinal c → Below c a → BlockGoal P C B M c) → Each (λ h. TrueFor P C (ordinal_formula (measure_of M h.name))) B → (i : Function) (ws : List Object) → HasValue P C (bind i.formals ws) (measure_of M i.name) a → (f : Name) (h : Function) → function_named B f ≡ Some h → (ts : Terms) → any_mentions B ts ≡ false → count ts ≡ length h.formals → TrueAt P C (bind i.formals ws) (falls M i h ts) → (us : List Object) → HaveValues P C (bind i.formals ws) ts us → Has (CallAtSomeDepth P C B h us)
  down a ih ord i ws hm f h q ts nm n t us hus k =
      let e = bind i.formals ws in
      let fm = each_at (BlockFormed P A B M) B formed f h q in
      let m = measure_of M h.name in
      term_has P C A some (bind h.formals us) m fm.measure (λ c hc.
      let hc' = ev_vars P C h.formals (bind h.formals us) (over h.formals us e) (over_same P C e h.formals ts us hus (sym n)) m c fm.shut hc in
      ordp_says P C det o (bind h.formals us) m c hc (each_at (λ g. TrueFor P C (ordinal_formula (measure_of M g.name))) B ord f h q (bind h.formals us)) (λ oc.
      less_says P C det o e (substitute (actuals_for h.formals ts) m) (measure_of M i.name) c a (ev_sub-back P C e (over h.formals us e) (actuals_for h.formals ts) (induces_zip P C e h.formals ts us hus (sym n)) m c hc') hm t (λ lt.
      ih c oc lt h (subst (λ z. function_named B z ≡ Some h) (sym (fn_name B f h q)) q) us hc k)))

  good_each : (i : Function) (e : Environment) (close : Function → Terms → Formula) (rs : List RecursiveCall) → Each (λ r. any_mentions B r.actuals ≡ false) rs → Each (λ r. TrueFor P C (under_tests B r.tests (close r.function r.actuals))) rs → Each (IsGood P C B e close) rs
  good_each i e close [] f t = tt
  good_each i e close (r ∷ rs) f t = ((f.0, t.0 e), good_each i e close rs f.1 t.1)

  pub block_passes : Owed P C B M → Each (λ h. TrueFor P C (ordinal_formula (measure_of M h.name))) B → Passes (BlockGoal P C B M)
  block_passes owed ord a oa ih h q ws hm k =
      let e = bind h.formals ws in
      let flat = each_at (λ g. Each (λ r. any_mentions B r.actuals ≡ false) (collect B [] g.body)) B owed.flat h.name h q in
      let fallen = each_at (λ g. Each (λ r. TrueFor P C (obligation B M g r)) (collect B [] g.body)) B owed.falls h.name h q in
      has_value P C det A some B news plain no_if e (falls M h) (down a ih ord h ws hm) [] e (λ x. refl) h.body (each_at (BlockFormed P A B M) B formed h.name h q).body (good_each h e (falls M h) (collect B [] h.body) flat fallen) (λ v hv.
      k v (block_fold P C B h ws v hv))

  none_is : (rs : List RecursiveCall) → is_empty rs ≡ true → rs ≡ []
  none_is [] q = refl
  none_is (r ∷ rs) q = absurd (false≢true q)

  each_none : (hs : List Function) → calls_none B hs ≡ true → Each (λ h. collect B [] h.body ≡ []) hs
  each_none [] q = tt
  each_none (h ∷ hs) q = go (is_empty (collect B [] h.body)) refl q (each_none hs)
    where
      go : (b : Bool) → is_empty (collect B [] h.body) ≡ b → cond b (calls_none B hs) false ≡ true → (calls_none B hs ≡ true → Each (λ h. collect B [] h.body ≡ []) hs) → (collect B [] h.body ≡ []) × Each (λ h. collect B [] h.body ≡ []) hs
      go true e q ih = (none_is (collect B [] h.body) e, ih q)
      go false e q ih = absurd (false≢true q)

  plain_has : (h : Function) → function_named B h.name ≡ Some h → collect B [] h.body ≡ [] → (ws : List Object) → Has (CallAtSomeDepth P C B h ws)
  plain_has h q none ws k =
      let e = bind h.formals ws in
      has_value P C det A some B news plain no_if e (λ h ts. Not (Equal (Constant NIL) (Constant NIL))) (λ f h q ts nm n t us hus k. t (λ h. h NIL refl refl)) [] e (λ x. refl) h.body (each_at (BlockFormed P A B M) B formed h.name h q).body (subst (Each (IsGood P C B e (λ h ts. Not (Equal (Constant NIL) (Constant NIL))))) (sym none) tt) (λ v hv.
      k v (block_fold P C B h ws v hv))

  pub block_has : Owed P C B M → (f : Name) (h : Function) → function_named B f ≡ Some h → (ws : List Object) → Has (CallAtSomeDepth P C B h ws)
  block_has owed f h q ws k = go (calls_none B B) refl
    where
      q' : function_named B h.name ≡ Some h
      q' = subst (λ z. function_named B z ≡ Some h) (sym (fn_name B f h q)) q

      go : (b : Bool) → calls_none B B ≡ b → ⊥
      go true e = plain_has h q' (each_at (λ g. collect B [] g.body ≡ []) B (each_none B e) f h q) ws k
      go false e =
          let ord = owed.ordinal e in
          term_has P C A some (bind h.formals ws) (measure_of M h.name) (each_at (BlockFormed P A B M) B formed f h q).measure (λ a ha.
          ordp_says P C det o (bind h.formals ws) (measure_of M h.name) a ha (each_at (λ g. TrueFor P C (ordinal_formula (measure_of M g.name))) B ord f h q (bind h.formals ws)) (λ oa.
          at_each (BlockGoal P C B M) (block_passes owed ord) a oa h q' ws ha k))

  -- the calls of the new table have values
  pub block_calls_have : Owed P C B M → CallsHave P (Now P C B) (add_functions B A)
  block_calls_have owed f n ws c a p l k = go (function_named B f) refl
    where
      go : (o : Option Function) → function_named B f ≡ o → ⊥
      go (Some h) q = block_has owed f h q ws (λ v hv. k v (subst (λ o. OnFunction C (CallAtSomeDepth P C B) o f ws v) (sym q) hv))
      go None q = some f n ws c (sym (arity_past B A f (ap is_some q)) ∙ a) p l (λ v hv. k v (subst (λ o. OnFunction C (CallAtSomeDepth P C B) o f ws v) (sym q) hv))

  -- each term has a value
  pub block_some : Owed P C B M → (e : Environment) (t : Term) → Formed (add_functions B A) t → Has (HasValue P (Now P C B) e t)
  block_some owed e t i = term_has P (Now P C B) (add_functions B A) (block_calls_have owed) e t i
