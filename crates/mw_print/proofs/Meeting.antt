-- The references that wait weigh less after each step, and the pairs were met as often as they stand in what was entered.
use Rattle.std.proofs.Common.{◌≡◌, ℕ, ◌+◌, ◌<◌, ◌≤◌, nat_eq, ltb, Bool, true, false, not, ◌&&◌, ◌||◌, if◌then◌else◌, List, [], ◌∷◌, ◌++◌, length, map, All, Some, inl, inr, refl, sym, ap, ◌∙◌, subst, lt-ltb, arith}
use Rattle.std.specs.List.{list_any}
use Rattle.std.proofs.lemmas.List.{map-append}
use Rattle.std.proofs.lemmas.List.Elements.{All-append, All-cons, All-nil, All-head, All-tail, All-pop}
use Rattle.indexmap.specs.IndexSet.{insert_key}
use Rattle.mw_model.specs.Terms.Object.{Object, Natural, Symbol, Pair, same_object, weight}
use Rattle.mw_model.specs.Values.Primitive.{is_pair}
use Rattle.mw_model.proofs.Names.{same_object-eq}
use Rattle.mw_heap.specs.Cells.{one_if}
use Rattle.mw_heap.specs.Objects.{object_at, IsIn, AreDistinct}
use Rattle.mw_print.specs.Waiting.{is_one_of}
use Rattle.mw_print.specs.Repeats.{Meets, AreRepeats}
use Rattle.mw_print.proofs.Times.{times}
use Rattle.mw_print.proofs.References.{swapped-references, list_any-references}
use Rattle.mw_print.proofs.Waiting.{All-one}
use Rattle.mw_print.proofs.Counting.{IsCounted, counted-start, counted-atom, counted-new, counted-again, counted-end}

pub from_not : (b r : Bool) → r ≡ not b → r ≡ false → b ≡ true
from_not true r e h = refl
from_not false r e h = cc

pub one_stays : (x : ℕ) (ks : List ℕ) → list_any (nat_eq x) ks ≡ true → insert_key nat_eq ks x ≡ ks
one_stays x ks h = ap (λ b. if b then ks else ks ++ x ∷ []) h

module _ (os : List Object) where
  abbrev pub path_weight : List ℕ → ℕ
  path_weight [] = 0
  path_weight (x ∷ xs) = path_weight xs + weight (object_at os x)

  path_weight-append : (xs ys : List ℕ) → path_weight (xs ++ ys) ≡ path_weight xs + path_weight ys
  path_weight-append [] ys = omega arith
  path_weight-append (x ∷ xs) ys = omega (arith, path_weight-append xs ys)

  some_weight : (x : Object) → 0 < weight x
  some_weight (Natural n) = omega arith
  some_weight (Symbol s) = omega arith
  some_weight (Pair a b) = omega arith

  module _ (x : ℕ) (old_path new_path old_seen new_seen old_again new_again : List ℕ) (m : Meets os x old_path new_path old_seen new_seen old_again new_again) where
    pub path_falls : (path : List ℕ) → path ≡ old_path ++ x ∷ [] → path_weight new_path < path_weight path
    path_falls path e =
        let was = ap path_weight e ∙ path_weight-append old_path (x ∷ []) in
        let some = some_weight (object_at os x) in
        elim m [
          | inl a ↦ let new = ap path_weight a.1 in omega (arith, was, some, new)
          | inr m ↦ elim m [
            | inl n ↦
                let new = ap path_weight n.6 ∙ path_weight-append old_path (n.1 ∷ n.0 ∷ []) in
                let heavy = ap weight n.4 in
                omega (arith, was, new, heavy)
            | inr s ↦ let new = ap path_weight s.1 in omega (arith, was, some, new)
          ]
        ]

-- ---- references and their objects

list_any-append : (f : ℕ → Bool) (ks ls : List ℕ) → list_any f (ks ++ ls) ≡ (list_any f ks || list_any f ls)
list_any-append f [] ls = refl
list_any-append f (k ∷ ks) ls = go (f k) (list_any-append f ks ls)
  where
    go : (b : Bool) → list_any f (ks ++ ls) ≡ (list_any f ks || list_any f ls) → (b || list_any f (ks ++ ls)) ≡ ((b || list_any f ks) || list_any f ls)
    go true h = refl
    go false h = h

or_false : (b : Bool) → b ≡ (b || false)
or_false true = refl
or_false false = refl

or_known : (b c : Bool) → (c ≡ true → b ≡ true) → b ≡ (b || c)
or_known true c h = refl
or_known false false h = refl
or_known false true h = h refl

module _ (os : List Object) (distinct : AreDistinct os) (y : ℕ) (y_in : IsIn os y) where
  none_there : (refs : List ℕ) → All (IsIn os) refs → list_any (nat_eq y) refs ≡ false → times (object_at os y) (map (object_at os) refs) ≡ 0
  none_there [] all h = refl
  none_there (r ∷ refs) all h = go (nat_eq y r) refl h (none_there refs (All-tail (IsIn os) r refs all))
    where
      go : (b : Bool) → nat_eq y r ≡ b → (b || list_any (nat_eq y) refs) ≡ false → (list_any (nat_eq y) refs ≡ false → times (object_at os y) (map (object_at os) refs) ≡ 0) → one_if (same_object (object_at os r) (object_at os y)) + times (object_at os y) (map (object_at os) refs) ≡ 0
      go true e k more = cc
      go false e k more = let none = ap one_if (sym (swapped-references os distinct y r y_in (All-head (IsIn os) r refs all)) ∙ e) in omega (arith, none, more k)

  some_there : (refs : List ℕ) → All (IsIn os) refs → list_any (nat_eq y) refs ≡ true → 1 ≤ times (object_at os y) (map (object_at os) refs)
  some_there [] all h = cc
  some_there (r ∷ refs) all h = go (nat_eq y r) refl h (some_there refs (All-tail (IsIn os) r refs all))
    where
      go : (b : Bool) → nat_eq y r ≡ b → (b || list_any (nat_eq y) refs) ≡ true → (list_any (nat_eq y) refs ≡ true → 1 ≤ times (object_at os y) (map (object_at os) refs)) → 1 ≤ one_if (same_object (object_at os r) (object_at os y)) + times (object_at os y) (map (object_at os) refs)
      go true e k more = let one = ap one_if (sym (swapped-references os distinct y r y_in (All-head (IsIn os) r refs all)) ∙ e) in omega (arith, one)
      go false e k more = omega (arith, more k)

  is_one_of-insert_key : (refs : List ℕ) (p : Object) → is_one_of os (insert_key nat_eq refs y) p ≡ (is_one_of os refs p || same_object (object_at os y) p)
  is_one_of-insert_key refs p = go (list_any (nat_eq y) refs) refl
    where
      here : (ltb y (length os) && same_object (object_at os y) p) ≡ same_object (object_at os y) p
      here = ap (λ b. b && same_object (object_at os y) p) (lt-ltb y (length os) y_in)

      go : (b : Bool) → list_any (nat_eq y) refs ≡ b → is_one_of os (if b then refs else refs ++ y ∷ []) p ≡ (is_one_of os refs p || same_object (object_at os y) p)
      go true e = or_known (is_one_of os refs p) (same_object (object_at os y) p)
          (λ same. ap (is_one_of os refs) (sym (same_object-eq (object_at os y) p same)) ∙ (sym (list_any-references os distinct refs y y_in) ∙ e))
      go false e =
          list_any-append (λ r. ltb r (length os) && same_object (object_at os r) p) refs (y ∷ [])
          ∙ ap (λ b. is_one_of os refs p || b) (sym (or_false (ltb y (length os) && same_object (object_at os y) p)) ∙ here)

-- ---- what was met, by reference

-- these references wait, these pairs were met, and these were met again
pub record IsCounting (os : List Object) (x : ℕ) (path seen again : List ℕ) : Type 0 where
  pub path_in : All (IsIn os) path
  pub seen_in : All (IsIn os) seen
  pub counted : IsCounted (object_at os x) (map (object_at os) path) (map (object_at os) seen) (is_one_of os again)

first_counting : (os : List Object) (x : ℕ) → IsIn os x → IsCounting os x (x ∷ []) [] []
first_counting os x i = record {
  path_in = All-one (IsIn os) x i;
  seen_in = All-nil (IsIn os);
  counted = counted-start (object_at os x);
}

pub counting_starts : (os : List Object) (x : ℕ) (path seen again : List ℕ) → IsIn os x → path ≡ x ∷ [] → seen ≡ [] → again ≡ [] → IsCounting os x path seen again
counting_starts os x path seen again i e f g =
    subst (λ a. IsCounting os x path seen a) (sym g) (subst (λ l. IsCounting os x path l []) (sym f) (subst (λ p. IsCounting os x p [] []) (sym e) (first_counting os x i)))

module _ (os : List Object) (x y : ℕ) (path seen again : List ℕ) (c : IsCounting os x (path ++ y ∷ []) seen again) where
  pub counting_rest : All (IsIn os) path × IsIn os y
  counting_rest = let k = All-pop (IsIn os) (path ++ y ∷ []) path (Some y) refl c.path_in in (k.0, k.1)

  was_counted : IsCounted (object_at os x) (map (object_at os) path ++ object_at os y ∷ []) (map (object_at os) seen) (is_one_of os again)
  was_counted = subst (λ p. IsCounted (object_at os x) p (map (object_at os) seen) (is_one_of os again)) (map-append (object_at os) path (y ∷ [])) c.counted

  met_atom : is_pair (object_at os y) ≡ false → IsCounting os x path seen again
  met_atom atom = record {
    path_in = counting_rest.0;
    seen_in = c.seen_in;
    counted = counted-atom (object_at os x) (object_at os y) (map (object_at os) path) (map (object_at os) seen) (is_one_of os again) was_counted atom;
  }

  module _ (distinct : AreDistinct os) where
    met_new : (a d : ℕ) → IsIn os a → IsIn os d → object_at os y ≡ Pair (object_at os a) (object_at os d) → list_any (nat_eq y) seen ≡ false → IsCounting os x (path ++ d ∷ a ∷ []) (seen ++ y ∷ []) again
    met_new a d a_in d_in pair none = record {
      path_in = All-append (IsIn os) path (d ∷ a ∷ []) counting_rest.0 (All-cons (IsIn os) d (a ∷ []) d_in (All-one (IsIn os) a a_in));
      seen_in = All-append (IsIn os) seen (y ∷ []) c.seen_in (All-one (IsIn os) y counting_rest.1);
      counted =
          subst (λ p. IsCounted (object_at os x) p (map (object_at os) (seen ++ y ∷ [])) (is_one_of os again)) (sym (map-append (object_at os) path (d ∷ a ∷ [])))
          (subst (λ q. IsCounted (object_at os x) (map (object_at os) path ++ object_at os d ∷ object_at os a ∷ []) q (is_one_of os again)) (sym (map-append (object_at os) seen (y ∷ [])))
          (counted-new (object_at os x) (object_at os y) (map (object_at os) path) (map (object_at os) seen) (is_one_of os again) was_counted (object_at os a) (object_at os d) pair
          (none_there os distinct y counting_rest.1 seen c.seen_in none)));
    }

    met_again : is_pair (object_at os y) ≡ true → list_any (nat_eq y) seen ≡ true → IsCounting os x path seen (insert_key nat_eq again y)
    met_again pair some = record {
      path_in = counting_rest.0;
      seen_in = c.seen_in;
      counted = counted-again (object_at os x) (object_at os y) (map (object_at os) path) (map (object_at os) seen) (is_one_of os again) was_counted
          (is_one_of os (insert_key nat_eq again y)) (is_one_of-insert_key os distinct y counting_rest.1 again) pair (some_there os distinct y counting_rest.1 seen c.seen_in some);
    }

    pub counting_goes : (new_path new_seen new_again : List ℕ) → Meets os y path new_path seen new_seen again new_again → IsCounting os x new_path new_seen new_again
    counting_goes new_path new_seen new_again m = elim m [
      | inl a ↦ by new_path new_seen new_again path seen again a.1 a.2 a.3 (met_atom a.0)
      | inr m ↦ elim m [
        | inl n ↦ by new_path new_seen new_again (path ++ n.1 ∷ n.0 ∷ []) (seen ++ y ∷ []) again n.6 n.7 n.8 (met_new n.0 n.1 n.2 n.3 n.4 n.5)
        | inr s ↦ by new_path new_seen new_again path seen (insert_key nat_eq again y) s.1 s.2 s.4 (met_again s.0 s.3)
      ]
    ]
      where
        by : (ps qs rs path seen again : List ℕ) → ps ≡ path → qs ≡ seen → rs ≡ again → IsCounting os x path seen again → IsCounting os x ps qs rs
        by ps qs rs path seen again e f g k = subst (λ r. IsCounting os x ps qs r) (sym g) (subst (λ q. IsCounting os x ps q again) (sym f) (subst (λ p. IsCounting os x p seen again) (sym e) k))

pub counting_ends : (os : List Object) (x : ℕ) (path seen again : List ℕ) → path ≡ [] → IsCounting os x path seen again → AreRepeats os (object_at os x) again
counting_ends os x path seen again e c =
    counted-end (object_at os x) (map (object_at os) seen) (is_one_of os again) (subst (λ p. IsCounted (object_at os x) (map (object_at os) p) (map (object_at os) seen) (is_one_of os again)) e c.counted)
