-- LET and LET* from what was made of their bindings and their body.
use Rattle.std.proofs.Common.{◌≡◌, ℕ, arith, length, Bool, true, false, ◌&&◌, cond, List, [], ◌∷◌, ◌++◌, Option, Some, None, Result, Ok, Err, IfOk, option_map, refl, sym, ap, ap₂, ◌∙◌, subst}
use Rattle.std.proofs.lemmas.Bool.{and_parts, and_from}
use Rattle.mw_model.specs.Terms.Object.{Name, Object, Natural, Symbol, Pair, same_name, nil_name, list2}
use Rattle.mw_model.specs.Terms.Term.{Term, NoTerms, More, ArityTable, count, names_object, term_object, terms_object, are_formals, is_term, are_terms}
use Rattle.mw_model.specs.Terms.Reading.{and_more, when, map2}
use Rattle.mw_model.specs.Events.Expansion.{expanded, binding, bindings, bound_names, let_term, let_star}
use Rattle.mw_model.proofs.ReadBack.{some_one}
use Rattle.mw_model.proofs.NewNames.{none_some}
use Rattle.mw_heap.specs.Objects.{object_at, IsIn}
use Rattle.mw_translate.specs.declared.progress.Progress.{Progress}
use Rattle.mw_translate.specs.declared.progress.Progress.TheVariants as progress
use Rattle.mw_translate.specs.declared.shape.Two.{Two}
use Rattle.mw_translate.specs.Checked.{IsMade}
use Rattle.mw_translate.specs.declared.let_forms.Order.{Order}
use Rattle.mw_translate.specs.declared.let_forms.Order.TheVariants as order
use Rattle.mw_translate.specs.Bound.{bound_form, bound_term, IsBound}
use Rattle.mw_translate.specs.Lets.{let_stars, AreBindings, ArePairsIn, IsCall, IsLet}
use Rattle.mw_translate.specs.Meaning.{Meaning, of_term, of_terms, of_names, binding_names, values_of}
use Rattle.mw_translate.proofs.Letting.{let_is, let_term-term}

and_false : (b : Bool) → (b && false) ≡ false
and_false true = refl
and_false false = refl

-- the names of bindings that were read
names-bound : (x : Object) (ps : List (Name × Term)) → bindings x ≡ Some ps → binding_names x ≡ Some (bound_names ps)
names-bound (Natural n) ps h = cc
names-bound (Symbol s) ps h = go (same_name s nil_name) h
  where
    go : (b : Bool) → cond b (Some []) None ≡ Some ps → cond b (Some []) None ≡ Some (bound_names ps)
    go true e = ap (λ l. Some (bound_names l)) (some_one e)
    go false e = cc
names-bound (Pair (Natural n) r) ps h = cc
names-bound (Pair (Symbol s) r) ps h = cc
names-bound (Pair (Pair (Natural n) z) r) ps h = cc
names-bound (Pair (Pair (Pair a b) z) r) ps h = cc
names-bound (Pair (Pair (Symbol x) (Natural n)) r) ps h = cc
names-bound (Pair (Pair (Symbol x) (Symbol s)) r) ps h = cc
names-bound (Pair (Pair (Symbol x) (Pair e (Natural n))) r) ps h = cc
names-bound (Pair (Pair (Symbol x) (Pair e (Pair a b))) r) ps h = cc
names-bound (Pair (Pair (Symbol x) (Pair e (Symbol s))) r) ps h = go (same_name s nil_name) (expanded e) (bindings r) refl h (λ qs k. names-bound r qs k)
  where
    go : (b : Bool) (o : Option Term) (p : Option (List (Name × Term))) → bindings r ≡ p → and_more (when b (option_map (λ t. (x, t)) o)) p ≡ Some ps → ((qs : List (Name × Term)) → bindings r ≡ Some qs → binding_names r ≡ Some (bound_names qs)) → and_more (Some x) (binding_names r) ≡ Some (bound_names ps)
    go false o p k e rest = cc
    go true None p k e rest = cc
    go true (Some t) None k e rest = cc
    go true (Some t) (Some qs) k e rest = ap (and_more (Some x)) (rest qs k) ∙ ap (λ l. Some (bound_names l)) (some_one e)

module _ (A : ArityTable) where
  -- bindings whose values were made
  pub values_made : (o : Option (List (Name × Term))) (m : Meaning) → of_terms A (option_map values_of o) ≡ Some m → (ps : List (Name × Term)) × (o ≡ Some ps) × (are_terms A (values_of ps) ≡ true) × (terms_object (values_of ps) ≡ m.0)
  values_made None m h = cc
  values_made (Some ps) m h = go (are_terms A (values_of ps)) refl h
    where
      go : (b : Bool) → are_terms A (values_of ps) ≡ b → cond b (Some (terms_object (values_of ps), count (values_of ps))) None ≡ Some m → (qs : List (Name × Term)) × (Some ps ≡ Some qs) × (are_terms A (values_of qs) ≡ true) × (terms_object (values_of qs) ≡ m.0)
      go true e k = (ps, refl, e, ap (λ z. z.0) (some_one k))
      go false e k = cc

  pub names_made : (x : Object) (ps : List (Name × Term)) (m : Meaning) → bindings x ≡ Some ps → of_names A (binding_names x) ≡ Some m → names_object (bound_names ps) ≡ m.0
  names_made x ps m h k =
      let e : Some (names_object (bound_names ps), 0) ≡ Some m = sym (ap (of_names A) (names-bound x ps h)) ∙ k in
      ap (λ z. z.0) (some_one e)

  let-false : (ps : List (Name × Term)) (b : Term) (f t v : Bool) → are_formals (bound_names ps) ≡ f → is_term A b ≡ t → are_terms A (values_of ps) ≡ v → is_term A (let_term ps b) ≡ (f && (t && v))
  let-false ps b f t v p q r = let_term-term A ps b ∙ (ap₂ (λ x y. x && (y && are_terms A (values_of ps))) p q ∙ ap (λ z. f && (t && z)) r)

  no_names : (x : Object) → of_names A (binding_names x) ≡ None → bindings x ≡ None
  no_names x h = go (bindings x) refl
    where
      go : (o : Option (List (Name × Term))) → bindings x ≡ o → o ≡ None
      go None e = refl
      go (Some ps) e = absurd (none_some (names_object (bound_names ps), 0) (sym h ∙ ap (of_names A) (names-bound x ps e)))

-- LET* by its bindings
star-all : (x : Object) (ps : List (Name × Term)) (t : Term) → bindings x ≡ Some ps → let_star x (Some t) ≡ Some (let_stars ps t)
star-all (Natural n) ps t h = cc
star-all (Symbol s) ps t h = go (same_name s nil_name) h
  where
    go : (b : Bool) → cond b (Some []) None ≡ Some ps → when b (Some t) ≡ Some (let_stars ps t)
    go true e = ap (λ l. Some (let_stars l t)) (some_one e)
    go false e = cc
star-all (Pair a r) ps t h = go (binding a) (bindings r) refl h (λ qs k. star-all r qs t k)
  where
    go : (o : Option (Name × Term)) (p : Option (List (Name × Term))) → bindings r ≡ p → and_more o p ≡ Some ps → ((qs : List (Name × Term)) → bindings r ≡ Some qs → let_star r (Some t) ≡ Some (let_stars qs t)) → map2 (λ p c. let_term (p ∷ []) c) o (let_star r (Some t)) ≡ Some (let_stars ps t)
    go None p k e rest = cc
    go (Some b) None k e rest = cc
    go (Some b) (Some qs) k e rest = ap (map2 (λ p c. let_term (p ∷ []) c) (Some b)) (rest qs k) ∙ ap (λ l. Some (let_stars l t)) (some_one e)

star-none : (x : Object) → let_star x None ≡ None
star-none (Natural n) = refl
star-none (Symbol s) = go (same_name s nil_name)
  where
    go : (b : Bool) → when {X = Term} b None ≡ None
    go true = refl
    go false = refl
star-none (Pair a r) = go (binding a) (let_star r None) (star-none r)
  where
    go : (o : Option (Name × Term)) (p : Option Term) → p ≡ None → map2 (λ p c. let_term (p ∷ []) c) o p ≡ None
    go None p h = refl
    go (Some b) None h = refl
    go (Some b) (Some t) h = cc

star-unbound : (x : Object) (o : Option Term) → bindings x ≡ None → let_star x o ≡ None
star-unbound (Natural n) o h = refl
star-unbound (Symbol s) o h = go (same_name s nil_name) h
  where
    go : (b : Bool) → cond {A = Option (List (Name × Term))} b (Some []) None ≡ None → when b o ≡ None
    go true e = cc
    go false e = refl
star-unbound (Pair a r) o h = go (binding a) (bindings r) (let_star r o) h refl (star-unbound r o) refl
  where
    go : (b : Option (Name × Term)) (p : Option (List (Name × Term))) (q : Option Term) → and_more b p ≡ None → bindings r ≡ p → (bindings r ≡ None → let_star r o ≡ None) → let_star r o ≡ q → map2 (λ p c. let_term (p ∷ []) c) b q ≡ None
    go None p q e k rest l = refl
    go (Some b) p None e k rest l = refl
    go (Some b) None (Some t) e k rest l = let z : Some t ≡ None = sym l ∙ rest k in cc
    go (Some b) (Some ps) (Some t) e k rest l = cc

module _ (A : ArityTable) where
  -- without a term inside there is none outside
  stars-body : (ps : List (Name × Term)) (b : Term) → is_term A b ≡ false → is_term A (let_stars ps b) ≡ false
  stars-body [] b h = h
  stars-body (p ∷ ps) b h = let_term-term A (p ∷ []) (let_stars ps b) ∙ (ap (λ t. are_formals (p.0 ∷ []) && (t && (is_term A p.1 && true))) (stars-body ps b h) ∙ and_false (are_formals (p.0 ∷ [])))

  stars-values : (ps : List (Name × Term)) (b : Term) → are_terms A (values_of ps) ≡ false → is_term A (let_stars ps b) ≡ false
  stars-values [] b h = cc
  stars-values (p ∷ ps) b h = let_term-term A (p ∷ []) (let_stars ps b) ∙ go (are_formals (p.0 ∷ [])) (is_term A (let_stars ps b)) (is_term A p.1) (are_terms A (values_of ps)) refl refl h (stars-values ps b)
    where
      go : (f s v w : Bool) → is_term A (let_stars ps b) ≡ s → are_terms A (values_of ps) ≡ w → (v && w) ≡ false → (are_terms A (values_of ps) ≡ false → is_term A (let_stars ps b) ≡ false) → (f && (s && (v && true))) ≡ false
      go true true false w e q k rest = refl
      go true false v w e q k rest = refl
      go false s v w e q k rest = refl
      go true true true true e q k rest = cc
      go true true true false e q k rest = let z : is_term A (let_stars ps b) ≡ false = rest q in cc

-- a LET or a LET*, by its bindings and its body
module _ (o : Order) (bs b : Object) where
  unbound : bindings bs ≡ None → bound_form o (list2 bs b) ≡ None
  unbound h = go o
    where
      go : (o : Order) → bound_form o (list2 bs b) ≡ None
      go order.Parallel = ap (λ p. map2 let_term p (expanded b)) h
      go order.Sequential = star-unbound bs (expanded b) h

  no_body : expanded b ≡ None → bound_form o (list2 bs b) ≡ None
  no_body h = go o
    where
      none : (p : Option (List (Name × Term))) → map2 let_term p None ≡ None
      none None = refl
      none (Some ps) = refl

      go : (o : Order) → bound_form o (list2 bs b) ≡ None
      go order.Parallel = ap (map2 let_term (bindings bs)) h ∙ none (bindings bs)
      go order.Sequential = ap (let_star bs) h ∙ star-none bs

  bound : (ps : List (Name × Term)) (t : Term) → bindings bs ≡ Some ps → expanded b ≡ Some t → bound_form o (list2 bs b) ≡ Some (bound_term o ps t)
  bound ps t p q = go o
    where
      go : (o : Order) → bound_form o (list2 bs b) ≡ Some (bound_term o ps t)
      go order.Parallel = ap₂ (map2 let_term) p q
      go order.Sequential = ap (let_star bs) q ∙ star-all bs ps t p

module _ (A : ArityTable) where
  -- there is no term where a part is none
  body-needed : (o : Order) (ps : List (Name × Term)) (t : Term) → is_term A t ≡ false → is_term A (bound_term o ps t) ≡ false
  body-needed order.Parallel ps t h = let-false A ps t (are_formals (bound_names ps)) false (are_terms A (values_of ps)) refl h refl ∙ and_false (are_formals (bound_names ps))
  body-needed order.Sequential ps t h = stars-body A ps t h

  values-needed : (o : Order) (ps : List (Name × Term)) (t : Term) → are_terms A (values_of ps) ≡ false → is_term A (bound_term o ps t) ≡ false
  values-needed order.Parallel ps t h = let-false A ps t (are_formals (bound_names ps)) (is_term A t) false refl refl h ∙ (ap (λ b. are_formals (bound_names ps) && b) (and_false (is_term A t)) ∙ and_false (are_formals (bound_names ps)))
  values-needed order.Sequential ps t h = stars-values A ps t h

  -- a meaning that is none under a test
  none_given : (b : Bool) (m : Meaning) → cond b (Some m) None ≡ None → b ≡ false
  none_given true m e = cc
  none_given false m e = refl

  no_term : (t : Term) → is_term A t ≡ false → of_term A (Some t) ≡ None
  no_term t h = ap (λ b. cond {A = Option Meaning} b (Some (term_object t, 0)) None) h

  module _ (o : Order) (bs b : Object) where
    pub bound-names : of_names A (binding_names bs) ≡ None → of_term A (bound_form o (list2 bs b)) ≡ None
    bound-names h = ap (of_term A) (unbound o bs b (no_names A bs h))

    -- where the bindings and the body are none or make no term, there is none
    missing : ((ps : List (Name × Term)) (t : Term) → bindings bs ≡ Some ps → expanded b ≡ Some t → is_term A (bound_term o ps t) ≡ false) → of_term A (bound_form o (list2 bs b)) ≡ None
    missing h = go (bindings bs) (expanded b) refl refl
      where
        go : (p : Option (List (Name × Term))) (q : Option Term) → bindings bs ≡ p → expanded b ≡ q → of_term A (bound_form o (list2 bs b)) ≡ None
        go None q e f = ap (of_term A) (unbound o bs b e)
        go (Some ps) None e f = ap (of_term A) (no_body o bs b f)
        go (Some ps) (Some t) e f = ap (of_term A) (bound o bs b ps t e f) ∙ no_term (bound_term o ps t) (h ps t e f)

    pub bound-values : of_terms A (option_map values_of (bindings bs)) ≡ None → of_term A (bound_form o (list2 bs b)) ≡ None
    bound-values h = missing (λ ps t e f. values-needed o ps t (none_given (are_terms A (values_of ps)) (terms_object (values_of ps), count (values_of ps)) (sym (ap (λ p. of_terms A (option_map values_of p)) e) ∙ h)))

    pub bound-body : of_term A (expanded b) ≡ None → of_term A (bound_form o (list2 bs b)) ≡ None
    bound-body h = missing (λ ps t e f. body-needed o ps t (none_given (is_term A t) (term_object t, 0) (sym (ap (of_term A) f) ∙ h)))

    -- what was made of the call, or of the calls
    pub bound-made : (os : List Object) (ps : List (Name × Term)) (t : Term) (call : Option ℕ) (s : Progress) → bindings bs ≡ Some ps → expanded b ≡ Some t → IsBound A os o ps t call → IsCall call s → IsMade os (of_term A (bound_form o (list2 bs b))) s
    bound-made os ps t None progress.Fails p q h k = ap (of_term A) (bound o bs b ps t p q) ∙ no_term (bound_term o ps t) h
    bound-made os ps t (Some n) (progress.Made m) p q h k =
        let e : object_at os m.object ≡ term_object (bound_term o ps t) = ap (object_at os) k.0 ∙ h.2 in (
          subst (IsIn os) (sym k.0) h.1,
          ap (of_term A) (bound o bs b ps t p q) ∙ (ap (λ z. cond {A = Option Meaning} z (Some (term_object (bound_term o ps t), 0)) None) h.0 ∙ ap₂ (λ z n. Some (z, n)) (sym e) (sym k.1)),
        )
    bound-made os ps t None (progress.Made m) p q h k = absurd k
    bound-made os ps t None (progress.Wants w) p q h k = absurd k
    bound-made os ps t (Some n) (progress.Wants w) p q h k = absurd k
    bound-made os ps t (Some n) progress.Fails p q h k = absurd k

  -- the call of a LET
  pub let-bound : {E : Type 0} (os : List Object) (ps : List (Name × Term)) (t : Term) (r : Result (Option ℕ) E) → is_term A t ≡ true → are_terms A (values_of ps) ≡ true → IfOk r (IsLet os (bound_names ps) (values_of ps) t) → IfOk r (IsBound A os order.Parallel ps t)
  let-bound os ps t (Ok None) h v l = let-false A ps t false true true l h v
  let-bound os ps t (Ok (Some r)) h v l = (let-false A ps t true true true l.0 h v, l.1, l.2 ∙ ap term_object (sym (let_is ps t)))
  let-bound os ps t (Err e) h v l = l

-- the last binding
let_stars-push : (ps : List (Name × Term)) (p : Name × Term) (b : Term) → let_stars (ps ++ p ∷ []) b ≡ let_stars ps (let_term (p ∷ []) b)
let_stars-push [] p b = refl
let_stars-push (q ∷ ps) p b = ap (let_term (q ∷ [])) (let_stars-push ps p b)

values-push : (A : ArityTable) (ps : List (Name × Term)) (p : Name × Term) → are_terms A (values_of (ps ++ p ∷ [])) ≡ true → (are_terms A (values_of ps) ≡ true) × (is_term A p.1 ≡ true)
values-push A [] p h = (refl, (and_parts (is_term A p.1) true h).0)
values-push A (q ∷ ps) p h =
    let k = and_parts (is_term A q.1) (are_terms A (values_of (ps ++ p ∷ []))) h in
    let r = values-push A ps p k.1 in
    (and_from (is_term A q.1) (are_terms A (values_of ps)) k.0 r.0, r.1)

bindings-push : (os : List Object) (rs : List Two) (r : Two) (ps : List (Name × Term)) → AreBindings os (rs ++ r ∷ []) ps → (qs : List (Name × Term)) × (p : Name × Term) × (ps ≡ qs ++ p ∷ []) × AreBindings os rs qs × (object_at os r.first ≡ Symbol p.0) × (object_at os r.second ≡ term_object p.1)
bindings-push os [] r [] h = absurd h
bindings-push os [] r (p ∷ []) h = ([], p, refl, tt, h.0.0, h.0.1)
bindings-push os [] r (p ∷ q ∷ ps) h = absurd h.1
bindings-push os (s ∷ rs) r [] h = absurd h
bindings-push os (s ∷ rs) r (p ∷ ps) h = let k = bindings-push os rs r ps h.1 in (p ∷ k.0, k.1, ap (λ l. p ∷ l) k.2, (h.0, k.3), k.4, k.5)

pub pairs-front : (os : List Object) (rs : List Two) (r : Two) → ArePairsIn os (rs ++ r ∷ []) → ArePairsIn os rs × (IsIn os r.first × IsIn os r.second)
pairs-front os [] r h = (tt, h.0)
pairs-front os (q ∷ rs) r h = let k = pairs-front os rs r h.1 in ((h.0, k.0), k.1)

pub pairs-push : (os : List Object) (rs : List Two) (r : Two) → ArePairsIn os rs → IsIn os r.first → IsIn os r.second → ArePairsIn os (rs ++ r ∷ [])
pairs-push os [] r h i j = ((i, j), tt)
pairs-push os (q ∷ rs) r h i j = (h.0, pairs-push os rs r h.1 i j)

-- The calls that are still to be made, the innermost next.
module _ (A : ArityTable) (first : List Object) (given : List (Name × Term)) (body : Term) where
  pub record IsInside (os : List Object) (left : List Two) (made : ℕ) : Type 0 where
    pub bindings : List (Name × Term)
    pub inside : Term
    pub are : AreBindings first left bindings
    pub object : object_at os made ≡ term_object inside
    pub term : is_term A inside ≡ true
    pub values : are_terms A (values_of bindings) ≡ true
    pub same : let_stars given body ≡ let_stars bindings inside

  -- after one more call there is less to be made, or there is no term
  abbrev pub IsGoing : List Object → List Two → Option ℕ → Type 0
  IsGoing os left None = is_term A (let_stars given body) ≡ false
  IsGoing os left (Some r) = IsInside os left r

  pub inside-step : (old new : List Object) (rest : List Two) (binding : Two) (made : ℕ) (o : Option ℕ) → IsInside old (rest ++ binding ∷ []) made → ((x : Name) (t b : Term) → object_at first binding.first ≡ Symbol x → object_at first binding.second ≡ term_object t → object_at old made ≡ term_object b → is_term A b ≡ true → IsLet new (x ∷ []) (More t NoTerms) b o) → IsGoing new rest o
  inside-step old new rest binding made o h call = go o (call p.0 p.1 h.inside last.4 last.5 h.object h.term)
    where
      last : (qs : List (Name × Term)) × (p : Name × Term) × (h.bindings ≡ qs ++ p ∷ []) × AreBindings first rest qs × (object_at first binding.first ≡ Symbol p.0) × (object_at first binding.second ≡ term_object p.1)
      last = bindings-push first rest binding h.bindings h.are

      p : Name × Term
      p = last.1

      same : let_stars given body ≡ let_stars last.0 (let_term (p ∷ []) h.inside)
      same = h.same ∙ (ap (λ l. let_stars l h.inside) last.2 ∙ let_stars-push last.0 p h.inside)

      values : (are_terms A (values_of last.0) ≡ true) × (is_term A p.1 ≡ true)
      values = values-push A last.0 p (subst (λ l. are_terms A (values_of l) ≡ true) last.2 h.values)

      one : are_terms A (values_of (p ∷ [])) ≡ true
      one = and_from (is_term A p.1) true values.1 refl

      go : (o : Option ℕ) → IsLet new (p.0 ∷ []) (More p.1 NoTerms) h.inside o → IsGoing new rest o
      go None l = ap (is_term A) same ∙ stars-body A last.0 (let_term (p ∷ []) h.inside) (let-false A (p ∷ []) h.inside false true true l h.term one)
      go (Some r) l = record {
        bindings = last.0;
        inside = let_term (p ∷ []) h.inside;
        are = last.3;
        object = l.2 ∙ ap term_object (sym (let_is (p ∷ []) h.inside));
        term = let-false A (p ∷ []) h.inside true true true l.0 h.term one;
        values = values.0;
        same = same;
      }

  pub inside-start : (left : List Two) (made : ℕ) → AreBindings first left given → object_at first made ≡ term_object body → is_term A body ≡ true → are_terms A (values_of given) ≡ true → IsInside first left made
  inside-start left made are object term values = record { bindings = given; inside = body; are = are; object = object; term = term; values = values; same = refl }

  -- none is left to be made
  pub inside-end : (os : List Object) (left : List Two) (made : ℕ) → length left ≡ 0 → IsIn os made → IsInside os left made → IsBound A os order.Sequential given body (Some made)
  inside-end os (r ∷ left) made e i h = absurd (omega (arith, e))
  inside-end os [] made e i h = go h.bindings h.are h.same
    where
      go : (qs : List (Name × Term)) → AreBindings first [] qs → let_stars given body ≡ let_stars qs h.inside → IsBound A os order.Sequential given body (Some made)
      go [] k s = (ap (is_term A) s ∙ h.term, i, h.object ∙ ap term_object (sym s))
      go (q ∷ qs) k s = absurd k
