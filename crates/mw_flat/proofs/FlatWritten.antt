-- What is written for an event with numbers in place of its proofs: a list of proofs counts up to its end, and the event stands after the steps.
use Rattle.std.proofs.Common.{◌≡◌, ℕ, zero, suc, ◌-◌, ◌<◌, ◌≤◌, List, [], ◌∷◌, ◌++◌, length, map, drop, get_or, refl, sym, ap, ap₂, ◌∙◌, subst, arith}
use Rattle.std.proofs.lemmas.List.{drop_all}
use Rattle.mw_model.specs.Terms.Object.{Object, Natural, Symbol, Pair, NIL, list1, same_object}
use Rattle.mw_model.specs.Terms.Term.{firsts}
use Rattle.mw_model.specs.Texts.Written.{IsWritten}
use Rattle.mw_model.specs.Texts.Pieces.{InOrder, numbered}
use Rattle.mw_commands.specs.Commands.Subproofs.{proofs_within, each_within, distinct_proofs}
use Rattle.mw_commands.specs.Commands.Flattening.{number_among, numbers_among, IsStepLine, StepsWritten}
use Rattle.mw_heap.specs.Objects.{object_at, IsIn, Grows}
use Rattle.mw_heap.proofs.Objects.{object_at-Grows}
use Rattle.mw_heap.specs.Lists.{list_object, proper_list}
use Rattle.mw_flat.specs.FlatEvents.{numbers_object, put_before, WritesFlat}

-- ---- lists up to their ends

each_within-proper : (ps : Object) → each_within (proper_list ps) ≡ each_within ps
each_within-proper (Natural n) = refl
each_within-proper (Symbol s) = refl
each_within-proper (Pair p ps) = ap (λ l. proofs_within p ++ l) (each_within-proper ps)

pub distinct_proofs-proper : (ps : Object) → distinct_proofs (proper_list ps) ≡ distinct_proofs ps
distinct_proofs-proper ps = ap (firsts same_object) (each_within-proper ps)

numbers_among-proper : (qs : List Object) (ps : Object) → numbers_among qs (proper_list ps) ≡ numbers_among qs ps
numbers_among-proper qs (Natural n) = refl
numbers_among-proper qs (Symbol s) = refl
numbers_among-proper qs (Pair p ps) = ap (Pair (Natural (number_among qs p))) (numbers_among-proper qs ps)

module _ (os : List Object) where
  -- ---- the members of an event, made in another heap

  -- the last one alone
  pub list-begun : (members : List ℕ) (old mid new : List Object) (last end list : ℕ) → Grows old mid → IsIn old last → object_at mid end ≡ NIL → IsIn new list → object_at new list ≡ Pair (object_at mid last) (object_at mid end) →
      IsIn new list × (object_at new list ≡ put_before os (drop (length members) members) (list1 (object_at old last)))
  list-begun members old mid new last end list grows last_in nil list_in made = (
    list_in,
    made
        ∙ ap₂ Pair (object_at-Grows old mid grows last last_in) nil
        ∙ ap (λ xs. put_before os xs (list1 (object_at old last))) (sym (drop_all (length members) members (omega arith))),
  )

  drop-at : (xs : List ℕ) (i x : ℕ) → i < length xs → x ≡ get_or xs i x → drop i xs ≡ x ∷ drop (suc i) xs
  drop-at [] i x below is = absurd (omega (arith, below))
  drop-at (y ∷ xs) zero x below is = ap (λ z. z ∷ xs) (sym is)
  drop-at (y ∷ xs) (suc i) x below is = drop-at xs i x (omega (arith, below)) is

  -- one more, before those from n on
  pub list-more : (members : List ℕ) (n x : ℕ) (rest : Object) (old mid new : List Object) (list member made : ℕ) → 0 < n → n ≤ length members → x ≡ get_or members (n - 1) x → IsIn old list × (object_at old list ≡ put_before os (drop n members) rest) → Grows old mid →
      object_at mid member ≡ object_at os x → IsIn new made → object_at new made ≡ Pair (object_at mid member) (object_at mid list) → IsIn new made × (object_at new made ≡ put_before os (drop (n - 1) members) rest)
  list-more members n x rest old mid new list member made some below is listed grows copied made_in made_is =
      let next : suc (n - 1) ≡ n = omega (arith, some) in (
        made_in,
        made_is
            ∙ ap₂ Pair copied (object_at-Grows old mid grows list listed.0 ∙ listed.1)
            ∙ sym (ap (λ xs. put_before os xs rest) (drop-at members (n - 1) x (omega (arith, some, below)) is ∙ ap (λ i. x ∷ drop i members) next)),
      )

  -- ---- numbers in place of proofs

  numbers_object-map : (qs : List Object) (xs : List ℕ) → numbers_object (map (λ x. number_among qs (object_at os x)) xs) ≡ numbers_among qs (list_object os xs)
  numbers_object-map qs [] = refl
  numbers_object-map qs (x ∷ xs) = ap (Pair (Natural (number_among qs (object_at os x)))) (numbers_object-map qs xs)

  -- the numbers of the members of a list, among the proofs that the members are made of
  pub numbers_are : (ps : Object) (xs numbers : List ℕ) → list_object os xs ≡ proper_list ps → numbers ≡ map (λ x. number_among (distinct_proofs (list_object os xs)) (object_at os x)) xs → numbers_object numbers ≡ numbers_among (distinct_proofs ps) ps
  numbers_are ps xs numbers listed is =
      ap numbers_object is
      ∙ numbers_object-map (distinct_proofs (list_object os xs)) xs
      ∙ ap (λ o. numbers_among (distinct_proofs o) o) listed
      ∙ ap (λ qs. numbers_among qs (proper_list ps)) (distinct_proofs-proper ps)
      ∙ numbers_among-proper (distinct_proofs ps) ps

pub steps-proper : (ps x : Object) (text : List ℕ) → x ≡ proper_list ps → StepsWritten x text → StepsWritten ps text
steps-proper ps x text is h = subst (λ qs. InOrder (IsStepLine qs) (numbered 1 qs) text) (ap distinct_proofs is ∙ distinct_proofs-proper ps) h

-- the event x on its line, after the steps
pub written_after : (ps x y : Object) (was steps now : List ℕ) (f : (text : List ℕ) × StepsWritten ps text × (steps ≡ was ++ text)) (l : (text : List ℕ) × (next : ℕ) × IsWritten y 1 text next × (now ≡ steps ++ (text ++ 10 ∷ []))) → was ≡ [] → y ≡ x → WritesFlat ps x now
written_after ps x y was steps now f l empty same = (
  f.0,
  l.0 ++ 10 ∷ [],
  l.3 ∙ ap (λ u. u ++ (l.0 ++ 10 ∷ [])) (f.2 ∙ ap (λ u. u ++ f.0) empty),
  f.1,
  (l.0, l.1, subst (λ z. IsWritten z 1 l.0 l.1) same l.2, refl),
)
