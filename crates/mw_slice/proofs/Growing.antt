-- What is gathered in a heap stays right as the heap grows.
use Rattle.std.proofs.Common.{◌≡◌, ℕ, Bool, true, ◌||◌, cond, nat_eq, List, [], ◌∷◌, Some, refl, sym, ap, ap₂, ◌∙◌, eq-eqb}
use Rattle.std.specs.List.{list_any}
use Rattle.std.specs.Prelude.{eqb, map, filter}
use Rattle.std.specs.Map.{keys_of}
use Rattle.std.proofs.lemmas.Bool.{or_left, or_right}
use Rattle.std.proofs.lemmas.List.Elements.{All-head, All-tail}
use Rattle.mw_model.specs.Terms.Object.{Object, same_object, second_of}
use Rattle.mw_commands.specs.Commands.Slice.{begins_with, some_passes, is_place, occurs, names_added, theorems_named, sets_profile}
use Rattle.mw_commands.specs.Commands.Subproofs.{proofs_within, each_within}
use Rattle.mw_heap.specs.Objects.{object_at, IsIn, Grows}
use Rattle.mw_heap.proofs.Objects.{IsIn-Grows, object_at-Grows}
use Rattle.mw_slice.specs.declared.basis.Basis.{Basis}
use Rattle.mw_slice.specs.declared.part.Part.{Part}
use Rattle.mw_slice.specs.declared.part.Part.TheVariants.{Cell, Proof, Proofs}
use Rattle.mw_slice.specs.Parts.{cell_of, theorems_in}
use Rattle.mw_slice.specs.Slices.{IsNil}
use Rattle.mw_slice.specs.Firsts.{AreFirsts, IsIndex, first_by}
use Rattle.mw_slice.specs.Supports.{Support, Named, Proved, same_atom, notes, names_place, event_asks, asks, is_asked_for, IsInside, IsBasis}

pub some_passes-same : {X : Type 0} (f g : X → Bool) → ((x : X) → f x ≡ g x) → (xs : List X) → some_passes f xs ≡ some_passes g xs
some_passes-same f g h [] = refl
some_passes-same f g h (x ∷ xs) = ap₂ (λ a b. a || b) (h x) (some_passes-same f g h xs)

module _ (os new : List Object) (grows : Grows os new) where
  pub nil_grows : (nil : ℕ) → IsNil os nil → IsNil new nil
  nil_grows nil h = (IsIn-Grows os new grows nil h.0, object_at-Grows os new grows nil h.0 ∙ h.1)

  any_same : (f : Object → Bool) (refs : List ℕ) → ((r : ℕ) → list_any (nat_eq r) refs ≡ true → IsIn os r) → list_any (λ r. f (object_at new r)) refs ≡ list_any (λ r. f (object_at os r)) refs
  any_same f [] all = refl
  any_same f (r ∷ refs) all =
      ap₂ (λ a b. a || b) (ap f (object_at-Grows os new grows r (all r (or_left (nat_eq r r) (list_any (nat_eq r) refs) (eq-eqb r r refl)))))
      (any_same f refs (λ q k. all q (or_right (nat_eq q r) (list_any (nat_eq q) refs) k)))

  module _ (basis : Basis) (inside : IsInside os basis) where
    pub inside_grows : IsInside new basis
    inside_grows p h = IsIn-Grows os new grows (cell_of p) (inside p h)

    pub notes_grow : (s : Support) → notes new basis s ≡ notes os basis s
    notes_grow (Named x) = any_same (same_atom x) basis.cells.keys (λ r h. inside (Cell r) h)
    notes_grow (Proved j) = refl

    pub names_met-grow : (names : List Object) → some_passes (λ f. notes new basis (Named f)) names ≡ some_passes (λ f. notes os basis (Named f)) names
    names_met-grow = some_passes-same (λ f. notes new basis (Named f)) (λ f. notes os basis (Named f)) (λ f. notes_grow (Named f))

    pub asked_for-grows : (goal : ℕ) (e : Object) (j : ℕ) → is_asked_for new basis goal e j ≡ is_asked_for os basis goal e j
    asked_for-grows goal e j = ap (λ b. eqb j goal || (sets_profile 2 e || (b || notes os basis (Proved j)))) (names_met-grow (names_added e))

  module _ (firsts : List (ℕ × ℕ)) (all : AreFirsts os firsts) where
    pub firsts_grow : AreFirsts new firsts
    firsts_grow i d l = IsIn-Grows os new grows _ (all i d l)

  pub first_by-grows : (firsts : List (ℕ × ℕ)) → AreFirsts os firsts → (c : Object) → first_by new firsts c ≡ first_by os firsts c
  first_by-grows [] all c = refl
  first_by-grows (e ∷ es) all c =
      ap₂ (λ b o. cond b (Some e.1) o) (ap (same_object c) (object_at-Grows os new grows e.0 (All-head (IsIn os) e.0 (keys_of es) all)))
      (first_by-grows es (All-tail (IsIn os) e.0 (keys_of es) all) c)

  pub index_grows : (firsts : List (ℕ × ℕ)) (es : List Object) → AreFirsts os firsts → IsIndex os firsts es → IsIndex new firsts es
  index_grows firsts es all right i c m = first_by-grows firsts all c ∙ right i c m

  module _ (firsts : List (ℕ × ℕ)) (all : AreFirsts os firsts) where
    places_grow : (j : ℕ) (cs : List Object) → some_passes (names_place new firsts j) cs ≡ some_passes (names_place os firsts j) cs
    places_grow j = some_passes-same (names_place new firsts j) (names_place os firsts j) (λ c. ap (λ o. is_place o j) (first_by-grows firsts all c))

    pub event_asks-grows : (s : Support) (e : Object) → event_asks new firsts s e ≡ event_asks os firsts s e
    event_asks-grows (Named x) e = refl
    event_asks-grows (Proved j) e = places_grow j (theorems_named e)

    theorems_in-grow : (p : Part) → IsIn os (cell_of p) → theorems_in new p ≡ theorems_in os p
    theorems_in-grow (Cell r) i = refl
    theorems_in-grow (Proof r) i = ap (λ x. map second_of (filter (begins_with "THEOREM") (proofs_within x))) (object_at-Grows os new grows r i)
    theorems_in-grow (Proofs r) i = ap (λ x. map second_of (filter (begins_with "THEOREM") (each_within x))) (object_at-Grows os new grows r i)

    asks-grow : (s : Support) (p : Part) → IsIn os (cell_of p) → asks new firsts s p ≡ asks os firsts s p
    asks-grow (Named x) (Cell r) i = ap (occurs x) (object_at-Grows os new grows r i)
    asks-grow (Named x) (Proof r) i = refl
    asks-grow (Named x) (Proofs r) i = refl
    asks-grow (Proved j) p i = places_grow j (theorems_in new p) ∙ ap (some_passes (names_place os firsts j)) (theorems_in-grow p i)

    pub basis_grows : (basis : Basis) → IsBasis os firsts basis → IsBasis new firsts basis
    basis_grows basis b = record {
      inside = inside_grows basis b.inside;
      closed = λ s p h k. notes_grow basis b.inside s ∙ b.closed s p h (sym (asks-grow s p (b.inside p h)) ∙ k);
    }
