-- Where no object of a heap is headed by THEOREM, the proofs of an event there name no theorem.
use Rattle.std.proofs.Common.{◌≡◌, ℕ, Bool, true, false, List, [], ◌∷◌, ◌++◌, map, filter, Option, Some, None, ◌⊎◌, inl, inr, refl, ap, ap₂, ◌∙◌, subst, arith}
use Rattle.std.proofs.lemmas.List.Elements.{filter-append}
use Rattle.mw_model.specs.Terms.Object.{Object, Natural, Symbol, Pair, NIL, car, cdr, second_of, third_of, fourth_of, sixth_of}
use Rattle.mw_model.specs.Events.Fate.{EventWord, Verify, Define, Skolem, Switch, Eval, Print, DefineAll, SetProfile, event_word}
use Rattle.mw_commands.specs.Commands.Slice.{begins_with, proofs_by_word, theorems_named}
use Rattle.mw_commands.specs.Commands.Subproofs.{proofs_within, each_within}
use Rattle.mw_heap.specs.Objects.{object_at, IsIn, ArePartsOlder}

abbrev headed : Object → Bool
headed = begins_with "THEOREM"

module _ (os : List Object) (older : ArePartsOlder os) (none : (r : ℕ) → IsIn os r → headed (object_at os r) ≡ false) where
  -- an object of the heap, or what stands for a missing part
  abbrev IsThere : Object → Type 0
  IsThere x = (x ≡ NIL) ⊎ ((r : ℕ) × IsIn os r × (object_at os r ≡ x))

  first_there : (a b : Object) → IsThere (Pair a b) → IsThere a
  first_there a b (inl e) = cc
  first_there a b (inr t) = let s = (older t.0 a b t.1 t.2).0 in inr (s.0, omega (arith, s.1, t.1), s.2)

  rest_there : (a b : Object) → IsThere (Pair a b) → IsThere b
  rest_there a b (inl e) = cc
  rest_there a b (inr t) = let s = (older t.0 a b t.1 t.2).1 in inr (s.0, omega (arith, s.1, t.1), s.2)

  car_there : (x : Object) → IsThere x → IsThere (car x)
  car_there (Pair a b) t = first_there a b t
  car_there (Natural n) t = inl refl
  car_there (Symbol s) t = inl refl

  cdr_there : (x : Object) → IsThere x → IsThere (cdr x)
  cdr_there (Pair a b) t = rest_there a b t
  cdr_there (Natural n) t = inl refl
  cdr_there (Symbol s) t = inl refl

  not_headed : (x : Object) → IsThere x → headed x ≡ false
  not_headed x (inl e) = ap headed e
  not_headed x (inr t) = subst (λ y. headed y ≡ false) t.2 (none t.0 t.1)

  alone : (x : Object) → IsThere x → filter headed (x ∷ []) ≡ []
  alone x t = go (headed x) (not_headed x t) refl
    where
      go : (b : Bool) → b ≡ false → headed x ≡ b → filter headed (x ∷ []) ≡ []
      go true f e = cc
      go false f e = rw e refl

  mutual
    within_none : (p : Object) → IsThere p → filter headed (proofs_within p) ≡ []
    within_none (Pair m (Pair c (Pair ps x))) t =
        let there = first_there ps x (rest_there c (Pair ps x) (rest_there m (Pair c (Pair ps x)) t)) in
        filter-append headed (each_within ps) (Pair m (Pair c (Pair ps x)) ∷ []) ∙ ap₂ (λ l k. l ++ k) (each_none ps there) (alone (Pair m (Pair c (Pair ps x))) t)
    within_none (Pair m (Pair c (Natural n))) t = alone (Pair m (Pair c (Natural n))) t
    within_none (Pair m (Pair c (Symbol s))) t = alone (Pair m (Pair c (Symbol s))) t
    within_none (Pair m (Natural n)) t = alone (Pair m (Natural n)) t
    within_none (Pair m (Symbol s)) t = alone (Pair m (Symbol s)) t
    within_none (Natural n) t = alone (Natural n) t
    within_none (Symbol s) t = alone (Symbol s) t

    each_none : (ps : Object) → IsThere ps → filter headed (each_within ps) ≡ []
    each_none (Pair p ps) t =
        filter-append headed (proofs_within p) (each_within ps) ∙ ap₂ (λ l k. l ++ k) (within_none p (first_there p ps t)) (each_none ps (rest_there p ps t))
    each_none (Natural n) t = refl
    each_none (Symbol s) t = refl

  of_word : (o : Option EventWord) (e : Object) → IsThere e → filter headed (each_within (proofs_by_word o e)) ≡ []
  of_word None e t = refl
  of_word (Some Verify) e t =
      let p = fourth_of e in
      filter-append headed (proofs_within p) [] ∙ ap₂ (λ l k. l ++ k) (within_none p (car_there (cdr (cdr (cdr e))) (cdr_there (cdr (cdr e)) (cdr_there (cdr e) (cdr_there e t))))) refl
  of_word (Some Define) e t =
      each_none (sixth_of e) (car_there (cdr (cdr (cdr (cdr (cdr e))))) (cdr_there (cdr (cdr (cdr (cdr e)))) (cdr_there (cdr (cdr (cdr e))) (cdr_there (cdr (cdr e)) (cdr_there (cdr e) (cdr_there e t))))))
  of_word (Some DefineAll) e t = each_none (third_of e) (car_there (cdr (cdr e)) (cdr_there (cdr e) (cdr_there e t)))
  of_word (Some Skolem) e t = refl
  of_word (Some Switch) e t = refl
  of_word (Some Eval) e t = refl
  of_word (Some Print) e t = refl
  of_word (Some SetProfile) e t = refl

  pub theorems_none : (e : Object) (r : ℕ) → IsIn os r → object_at os r ≡ e → theorems_named e ≡ []
  theorems_none e r within is = ap (map second_of) (of_word (event_word e) e (inr (r, within, is)))
