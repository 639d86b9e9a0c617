-- Having values, by denials; what the formulas on ordinals say.
use Rattle.std.proofs.Common.{◌≡◌, suc, Bool, true, false, cond, List, [], ◌∷◌, ◌++◌, length, refl, sym, ap, ap₂, ◌∙◌, subst, ◌⊎◌, inl, inr, ⊎_elim, arith}
use Rattle.std.proofs.lemmas.Bool.{or_cases, both_ways, false≢true, cond-true}
use Rattle.mw_model.specs.Terms.Object.{Name, Object, named, same_name, NIL, T, truth_of}
use Rattle.mw_model.specs.Terms.Term.{Term, Terms, NoTerms, More, Formula, Equal, Not, Or, is_among, count}
use Rattle.mw_model.specs.Terms.Substitution.{Substitution, substitute_each, image, actuals_for}
use Rattle.mw_model.specs.Values.Primitive.{Profile}
use Rattle.mw_model.specs.Values.Value.{Environment, lookup, bind, Calls, HasValue, HaveValues}
use Rattle.mw_model.specs.Values.Truth.{TrueAt, Each}
use Rattle.mw_model.specs.Laws.Ordinal.{is_below, is_ordinal}
use Rattle.mw_model.specs.Events.Obligation.{ordinal_formula, below_formula}
use Rattle.mw_model.proofs.Names.{same_name-eq, same_name-refl, same_name-from, same_object-from}
use Rattle.mw_model.proofs.Values.{Det, ev_det, Induces}
pub use Rattle.mw_model.proofs.SomeValue.{Has, CallsHave, evs_length, on_has, if_has, term_has, terms_have}
use Rattle.mw_descent.proofs.Descents.{Ordinal, Below}

-- the two functions on ordinals compute the test and the order
pub record Orders (C : Calls) : Type 0 where
  pub less : (x y v : Object) → C (named "ORD<") (x ∷ y ∷ []) v → v ≡ truth_of (is_below x y)
  pub ord : (x v : Object) → C (named "ORDP") (x ∷ []) v → v ≡ truth_of (is_ordinal x)

-- truth is stable
pub stable : (P : Profile) (C : Calls) (e : Environment) (F : Formula) → ((TrueAt P C e F → ⊥) → ⊥) → TrueAt P C e F
stable P C e (Equal a b) nn = λ x. nn (λ h. h x)
stable P C e (Not f) nn = λ t. nn (λ h. h t)
stable P C e (Or f g) nn = λ p q. nn (λ h. h p q)

pub each_left : {X : Type 0} (P : X → Type 0) (xs ys : List X) → Each P (xs ++ ys) → Each P xs
each_left P [] ys h = tt
each_left P (x ∷ xs) ys h = (h.0, each_left P xs ys h.1)

pub each_right : {X : Type 0} (P : X → Type 0) (xs ys : List X) → Each P (xs ++ ys) → Each P ys
each_right P [] ys h = h
each_right P (x ∷ xs) ys h = each_right P xs ys h.1

pub count_subs : (s : Substitution) (ts : Terms) → count (substitute_each s ts) ≡ count ts
count_subs s NoTerms = refl
count_subs s (More t ts) = ap suc (count_subs s ts)

-- the environment that a lambda call makes, over the outer one
pub bound_over : (ys : List Name) (vs : List Object) (e : Environment) → length ys ≡ length vs → (x : Name) → is_among x ys ≡ true → lookup (bind ys vs ++ e) x ≡ lookup (bind ys vs) x
bound_over [] vs e l x h = absurd (false≢true h)
bound_over (y ∷ ys) [] e l x h = absurd (omega arith)
bound_over (y ∷ ys) (v ∷ vs) e l x h = go (or_cases (same_name x y) (is_among x ys) h) (bound_over ys vs e (omega arith) x)
  where
    go : (same_name x y ≡ true) ⊎ (is_among x ys ≡ true) → (is_among x ys ≡ true → lookup (bind ys vs ++ e) x ≡ lookup (bind ys vs) x) → lookup (bind (y ∷ ys) (v ∷ vs) ++ e) x ≡ lookup (bind (y ∷ ys) (v ∷ vs)) x
    go (inl p) ih =
        let q = same_name-from y x (sym (same_name-eq x y p)) in
        cond-true (same_name y x) v (lookup (bind ys vs ++ e) x) q ∙ sym (cond-true (same_name y x) v (lookup (bind ys vs) x) q)
    go (inr p) ih = ap (λ z. cond (same_name y x) v z) (ih p)

pub truth_true : (b : Bool) (v : Object) → v ≡ truth_of b → v ≡ T → b ≡ true
truth_true true v h k = refl
truth_true false v h k = absurd (false≢true (same_object-from NIL T (sym h ∙ k)))

-- what the two formulas say
module _ (P : Profile) (C : Calls) (det : Det C) (o : Orders C) where
  pub ordp_says : (e : Environment) (m : Term) (a : Object) → HasValue P C e m a → TrueAt P C e (ordinal_formula m) → (Ordinal a → ⊥) → ⊥
  ordp_says e m a h t k =
      t (λ v hv q.
      let us = hv.1.2 ∙ ap₂ ◌∷◌ (ev_det P C det e m hv.1.0 a hv.1.3 h) hv.1.4 in
      k (truth_true (is_ordinal a) v (o.ord a v (subst (λ z. C (named "ORDP") z v) us hv.2)) q))

  pub less_says : (e : Environment) (p m : Term) (x a : Object) → HasValue P C e p x → HasValue P C e m a → TrueAt P C e (below_formula p m) → (Below x a → ⊥) → ⊥
  less_says e p m x a hp hm t k =
      t (λ v hv q.
      let vs = hv.1.4.2 ∙ ap₂ ◌∷◌ (ev_det P C det e m hv.1.4.0 a hv.1.4.3 hm) hv.1.4.4 in
      let us = hv.1.2 ∙ ap₂ ◌∷◌ (ev_det P C det e p hv.1.0 x hv.1.3 hp) vs in
      k (truth_true (is_below x a) v (o.less x a v (subst (λ z. C (named "ORD<") z v) us hv.2)) q))

-- one more pair
pub induces_more : (P : Profile) (C : Calls) (e e' : Environment) (s : Substitution) (x : Name) (t : Term) (w : Object) → HasValue P C e t w → Induces P C e s e' → Induces P C e ((x, t) ∷ s) ((x, w) ∷ e')
induces_more P C e e' s x t w h ind y = go (same_name x y)
  where
    go : (b : Bool) → HasValue P C e (cond b t (image s y)) (cond b w (lookup e' y))
    go true = h
    go false = ind y

-- the formals over an env
abbrev pub over : List Name → List Object → Environment → Environment
over xs ws e = bind xs ws ++ e

pub induces_zip : (P : Profile) (C : Calls) (e : Environment) (xs : List Name) (ts : Terms) (ws : List Object) → HaveValues P C e ts ws → length xs ≡ count ts → Induces P C e (actuals_for xs ts) (over xs ws e)
induces_zip P C e [] ts ws h l y = refl
induces_zip P C e (x ∷ xs) NoTerms ws h l y = cc
induces_zip P C e (x ∷ xs) (More t ts) ws h l y =
    subst (λ us. HasValue P C e (image ((x, t) ∷ actuals_for xs ts) y) (lookup (over (x ∷ xs) us e) y)) (sym h.2)
    (induces_more P C e (over xs h.1 e) (actuals_for xs ts) x t h.0 h.3 (induces_zip P C e xs ts h.1 h.4 (cc l)) y)

pub over_same : (P : Profile) (C : Calls) (e : Environment) (xs : List Name) (ts : Terms) (ws : List Object) → HaveValues P C e ts ws → length xs ≡ count ts → (y : Name) → is_among y xs ≡ true → lookup (bind xs ws) y ≡ lookup (over xs ws e) y
over_same P C e [] ts ws h l y i = cc
over_same P C e (x ∷ xs) NoTerms ws h l y i = cc
over_same P C e (x ∷ xs) (More t ts) ws h l y i =
    subst (λ us. lookup (bind (x ∷ xs) us) y ≡ lookup (over (x ∷ xs) us e) y) (sym h.2) (go (same_name x y) refl (over_same P C e xs ts h.1 h.4 (cc l) y))
  where
    go : (b : Bool) → same_name x y ≡ b → (is_among y xs ≡ true → lookup (bind xs h.1) y ≡ lookup (over xs h.1 e) y) → cond b h.0 (lookup (bind xs h.1) y) ≡ cond b h.0 (lookup (over xs h.1 e) y)
    go true q ih = refl
    go false q ih = ih (⊎_elim (λ p. absurd (both_ways (same_name x y) q (subst (λ c. same_name c y ≡ true) (same_name-eq y x p) (same_name-refl y)))) (λ p. p) (or_cases (same_name y x) (is_among y xs) i))
