-- A set of names holds its bytes, and finds a name by them.
use Rattle.std.proofs.Common.{◌≡◌, ℕ, ◌<◌, Bool, true, false, ◌&&◌, Option, Some, None, List, [], ◌∷◌, ◌++◌, length, take, get_or, slice_get, Vec, refl, sym, ap, ◌∙◌, subst, if◌then◌else◌, ◌⊎◌, inl, inr, eqb, arith}
use lib.Pointwise.{pointwise}
use Rattle.std.specs.List.{IsDistinct, list_any, position}
use Rattle.std.proofs.lemmas.List.{map-append, length-map, take-map}
use Rattle.std.proofs.lemmas.List.Quantifiers.{position-Some}
use Rattle.std.proofs.lemmas.Option.{slice_get-map, slice_get-get_or, slice_get_within, get_or_from_slice_get}
use Rattle.std.specs.Option.{option_map, IfSome}
use Rattle.indexmap.specs.IndexSet.{insert_key}
use Rattle.mw_model.specs.Terms.Object.{same_bytes}
use Rattle.mw_model.proofs.Names.{same_bytes-eq, same_bytes-refl}
use Rattle.mw_heap.specs.Cells.{bytes_of, IsInjective}
use Rattle.mw_heap.specs.Inserted.{Inserts}
use Rattle.mw_heap.proofs.Sound.{take-Inserts}
use Rattle.mw_heap.proofs.Lists.{IsDistinct-places, slice_get-some}

pub pointwise-same_bytes : (a b : List ℕ) → pointwise eqb a b ≡ same_bytes a b
pointwise-same_bytes [] [] = refl
pointwise-same_bytes [] (y ∷ b) = refl
pointwise-same_bytes (x ∷ a) [] = refl
pointwise-same_bytes (x ∷ a) (y ∷ b) = ap (λ t. eqb x y && t) (pointwise-same_bytes a b)

pub pointwise-eq : (a b : List ℕ) → pointwise eqb a b ≡ true → a ≡ b
pointwise-eq a b h = same_bytes-eq a b (sym (pointwise-same_bytes a b) ∙ h)

pub position-stands : {X : Type 0} (test : X → Bool) (xs : List X) (i : ℕ) → Some i ≡ position test xs → (x : X) × (slice_get xs i ≡ Some x) × (test x ≡ true)
position-stands test [] i h = cc
position-stands test (y ∷ xs) i h =
    let p = position-Some test (y ∷ xs) i y (sym h) in
    (_, slice_get-get_or (y ∷ xs) i y p.0, p.1)

module _ {A : Type 0} where
  pub slice_get-bytes_of : (names : List (Vec ℕ A)) (i : ℕ) (v : Vec ℕ A) → slice_get names i ≡ Some v → slice_get (bytes_of names) i ≡ Some v.items
  slice_get-bytes_of names i v h = slice_get-map (λ s. s.items) names i ∙ ap (option_map (λ s. s.items)) h

  pub length-bytes_of : (names : List (Vec ℕ A)) → length (bytes_of names) ≡ length names
  length-bytes_of names = length-map names (λ (s : Vec ℕ A). s.items)

  pub bytes_of-take : (n : ℕ) (names : List (Vec ℕ A)) → bytes_of (take n names) ≡ take n (bytes_of names)
  bytes_of-take n names = sym (take-map (λ s. s.items) n names)

  pub get_or-bytes_of : (names : List (Vec ℕ A)) (i : ℕ) (v : Vec ℕ A) → i < length names → v ≡ get_or names i v → get_or (bytes_of names) i [] ≡ v.items
  get_or-bytes_of names i v within is = get_or_from_slice_get (bytes_of names) i v.items [] (slice_get-bytes_of names i v (slice_get-get_or names i v within ∙ ap Some (sym is)))

  -- names that are distinct as vectors are so as bytes
  pub IsInjective-bytes_of : (names : List (Vec ℕ A)) → IsDistinct (λ x y. pointwise eqb x.items y.items) names → IsInjective (bytes_of names)
  IsInjective-bytes_of names apart i j within e =
      let a = slice_get-some names i (omega (arith, within, length-bytes_of names)) in
      let at_j : slice_get (bytes_of names) j ≡ Some a.0.items = sym e ∙ slice_get-bytes_of names i a.0 a.1 in
      let b = slice_get-some names j (omega (arith, slice_get_within (bytes_of names) j a.0.items at_j, length-bytes_of names)) in
      IsDistinct-places (λ x y. pointwise eqb x.items y.items) names apart i j a.0 b.0 a.1 b.1
      (same_true a.0.items b.0.items (some (sym at_j ∙ slice_get-bytes_of names j b.0 b.1)))
      (same_true b.0.items a.0.items (sym (some (sym at_j ∙ slice_get-bytes_of names j b.0 b.1))))
    where
      some : {x y : List ℕ} → Some x ≡ Some y → x ≡ y
      some p = cc

      same_true : (x y : List ℕ) → x ≡ y → pointwise eqb x y ≡ true
      same_true x y p = pointwise-same_bytes x y ∙ subst (λ z. same_bytes x z ≡ true) p (same_bytes-refl x)

  found_name : (names : List (Vec ℕ A)) (name : List ℕ) (i : ℕ) → Some i ≡ position (λ k. pointwise eqb name k.items) names → slice_get (bytes_of names) i ≡ Some name
  found_name names name i h =
      let s = position-stands _ names i h in
      slice_get-bytes_of names i s.0 s.1 ∙ ap Some (sym (pointwise-eq name s.0.items s.2))

  pub found_names : (names : List (Vec ℕ A)) (name : List ℕ) (o : Option ℕ) → o ≡ position (λ k. pointwise eqb name k.items) names → IfSome o (λ i. slice_get (bytes_of names) i ≡ Some name)
  found_names names name (Some i) h = found_name names name i h
  found_names names name None h = tt

  pub inserted_name : (old new : List (Vec ℕ A)) (owned : Vec ℕ A) (name : List ℕ) (i : ℕ) → owned.items ≡ name → new ≡ insert_key (λ x y. pointwise eqb x.items y.items) old owned
      → ((k : Vec ℕ A) × (slice_get new i ≡ Some k) × (pointwise eqb owned.items k.items ≡ true)) → Inserts (bytes_of old) (bytes_of new) name i
  inserted_name old new owned name i is e stored = record {
    stands = slice_get-bytes_of new i stored.0 stored.1 ∙ ap Some (sym (pointwise-eq owned.items stored.0.items stored.2) ∙ is);
    change = go (list_any (λ k. pointwise eqb owned.items k.items) old) e;
  }
    where
      go : (b : Bool) → new ≡ (if b then old else old ++ owned ∷ []) → (bytes_of new ≡ bytes_of old) ⊎ (bytes_of new ≡ bytes_of old ++ name ∷ [])
      go true p = inl (ap bytes_of p)
      go false p = inr (ap bytes_of p ∙ (map-append (λ s. s.items) old (owned ∷ []) ∙ ap (λ l. bytes_of old ++ l ∷ []) is))

  -- a name that was put last goes by a cut
  pub removed_name : (had : ℕ) (old new cut : List (Vec ℕ A)) (name : List ℕ) (i : ℕ) → had ≡ length old → Inserts (bytes_of old) (bytes_of new) name i → cut ≡ take had new → bytes_of cut ≡ bytes_of old
  removed_name had old new cut name i h inserts e =
      ap bytes_of e ∙ (bytes_of-take had new ∙ (ap (λ n. take n (bytes_of new)) (h ∙ sym (length-bytes_of old)) ∙ take-Inserts (bytes_of old) (bytes_of new) name i inserts))
