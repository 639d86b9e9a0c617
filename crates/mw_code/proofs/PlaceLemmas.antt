-- What is known of the places of variables, as one more is learned.
use Rattle.std.proofs.Common.{◌≡◌, ℕ, zero, suc, ◌+◌, ◌<◌, Bool, true, false, ◌||◌, cond, nat_eq, List, [], ◌∷◌, length, drop, Some, refl, sym, ap, ◌∙◌, subst, arith, eqb-true}
use Rattle.std.specs.Map.{lookup}
use Rattle.std.proofs.lemmas.Bool.{and_parts}
use Rattle.mw_model.specs.Terms.Object.{Name, Object, Symbol, Pair, same_name}
use Rattle.mw_model.specs.Terms.Term.{is_among}
use Rattle.mw_model.specs.Values.Primitive.{name_of}
use Rattle.mw_model.specs.Terms.Reading.{names_of}
use Rattle.mw_model.proofs.ReadBack.{some_one}
use Rattle.mw_model.proofs.SameObject.{same_object-swap}
use Rattle.mw_heap.specs.Objects.{object_at}
use Rattle.mw_code.specs.Jobs.{place_in}
use Rattle.mw_code.specs.Places.{same_variable, IsPlace, ArePlaces}
use Rattle.mw_code.proofs.ScopePlaces.{left-pair, place-distinct}

drop-next : {X : Type 0} (xs : List X) (k : ℕ) (y : X) (ys : List X) → drop k xs ≡ y ∷ ys → drop (k + 1) xs ≡ ys
drop-next [] zero y ys e = cc
drop-next [] (suc k) y ys e = cc
drop-next (x ∷ xs) zero y ys e = cc
drop-next (x ∷ xs) (suc k) y ys e = ap (λ i. drop i (x ∷ xs)) (let n : suc k + 1 ≡ suc (k + 1) = omega arith in n) ∙ drop-next xs k y ys e

pub place-within : (xs : List Name) (x : Name) → is_among x xs ≡ true → place_in xs x < length xs
place-within [] x h = cc
place-within (y ∷ xs) x h = go (same_name y x) refl (λ k. place-within xs x k)
  where
    go : (b : Bool) → same_name y x ≡ b → (is_among x xs ≡ true → place_in xs x < length xs) → cond b 0 (place_in xs x + 1) < suc (length xs)
    go true e ih = omega arith
    go false e ih = let i = ih (subst (λ c. c || is_among x xs ≡ true) (same_object-swap (Symbol x) (Symbol y) ∙ e) h) in omega (arith, i)

module _ (os : List Object) where
  -- the formals that are left, where the first of them stands at a place
  module _ (formals rest first others place : ℕ) (names : (xs : List Name) → names_of (object_at os formals) ≡ Some xs → names_of (object_at os rest) ≡ Some (drop place xs)) (is : object_at os rest ≡ Pair (object_at os first) (object_at os others)) where
    pub first-place : IsPlace os formals first place
    first-place xs n d =
        let p = left-pair (object_at os rest) (drop place xs) (names xs n) (object_at os first) (object_at os others) is in
        sym (ap (place_in xs) (ap name_of p.2) ∙ place-distinct xs place p.0 p.1 d p.4)

    pub others-left : (next : ℕ) → next ≡ place + 1 → (xs : List Name) → names_of (object_at os formals) ≡ Some xs → names_of (object_at os others) ≡ Some (drop next xs)
    others-left next e xs n =
        let p = left-pair (object_at os rest) (drop place xs) (names xs n) (object_at os first) (object_at os others) is in
        p.3 ∙ ap Some (sym (drop-next xs place p.0 p.1 p.4) ∙ ap (λ k. drop k xs) (sym e))

  -- one place more is known
  pub places-more : (old new : List ((ℕ × ℕ) × ℕ)) (formals x k : ℕ) → ((q : ℕ × ℕ) → lookup (same_variable q) new ≡ cond (same_variable (formals, x) q) (Some k) (lookup (same_variable q) old)) → IsPlace os formals x k → ArePlaces os old → ArePlaces os new
  places-more old new formals x k step place h q j e = go (same_variable (formals, x) q) refl (sym (step q) ∙ e)
    where
      go : (b : Bool) → same_variable (formals, x) q ≡ b → cond b (Some k) (lookup (same_variable q) old) ≡ Some j → IsPlace os q.0 q.1 j
      go true s f =
          let p = and_parts (nat_eq formals q.0) (nat_eq x q.1) s in
          subst (λ l. IsPlace os l q.1 j) (eqb-true formals q.0 p.0) (subst (λ y. IsPlace os formals y j) (eqb-true x q.1 p.1) (subst (IsPlace os formals x) (some_one f) place))
      go false s f = h q j f

  -- of no variable the place is known
  pub places-none : (es : List ((ℕ × ℕ) × ℕ)) → es ≡ [] → ArePlaces os es
  places-none es none q j e = cc (subst (λ l. lookup (same_variable q) l ≡ Some j) none e)
