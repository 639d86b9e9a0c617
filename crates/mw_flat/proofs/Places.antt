-- The number of a proof is its place, counted from 1.
use Rattle.std.proofs.Common.{◌≡◌, ℕ, suc, ◌+◌, ◌<◌, ◌≤◌, nat_eq, nat_lt, ltb, min, Bool, true, false, not, cond, List, [], ◌∷◌, ◌++◌, length, map, take, get_or, All, Some, None, refl, sym, ap, ◌∙◌, arith, ltb-true, ltb-false}
use Rattle.std.specs.List.{position_or_len}
use Rattle.std.proofs.lemmas.List.{get_or_read, take_more, map-append}
use Rattle.std.proofs.lemmas.List.Elements.{All-head, All-tail}
use Rattle.mw_model.specs.Terms.Object.{Object}
use Rattle.mw_commands.specs.Commands.Flattening.{number_among}
use Rattle.mw_heap.specs.Objects.{object_at, IsIn, AreDistinct}
use Rattle.mw_flat.proofs.Listed.{same_reference_to}

module _ (os : List Object) (distinct : AreDistinct os) (p : ℕ) (p_in : IsIn os p) where
  number_by : (b : Bool) (n place count : ℕ) → n ≡ min (suc place) count → cond b 1 (suc n) ≡ min (suc (cond (not b) (1 + place) 0)) (suc count)
  number_by true n place count h = omega arith
  number_by false n place count h = omega arith

  number_is : (keys : List ℕ) → All (IsIn os) keys → number_among (map (object_at os) keys) (object_at os p) ≡ min (suc (position_or_len (nat_eq p) keys)) (length keys)
  number_is [] h = omega arith
  number_is (k ∷ keys) h =
      ap (λ b. cond b 1 (suc (number_among (map (object_at os) keys) (object_at os p)))) (sym (same_reference_to os distinct p p_in k (All-head (IsIn os) k keys h)))
      ∙ number_by (nat_eq p k) (number_among (map (object_at os) keys) (object_at os p)) (position_or_len (nat_eq p) keys) (length keys) (number_is keys (All-tail (IsIn os) k keys h))

found_at : (i count place : ℕ) → Some place ≡ cond (nat_lt i count) (Some i) None → (place ≡ i) × (i < count)
found_at i count place h = go (ltb i count) refl h
  where
    go : (b : Bool) → ltb i count ≡ b → Some place ≡ cond b (Some i) None → (place ≡ i) × (i < count)
    go true e h = (cc, ltb-true i count e)
    go false e h = cc

found_nowhere : (i count : ℕ) → None ≡ cond (nat_lt i count) (Some i) None → count ≤ i
found_nowhere i count h = go (ltb i count) refl h
  where
    go : (b : Bool) → ltb i count ≡ b → None ≡ cond b (Some i) None → count ≤ i
    go true e h = cc
    go false e h = ltb-false i count e

module _ (os : List Object) (distinct : AreDistinct os) (p : ℕ) (p_in : IsIn os p) (keys : List ℕ) (all : All (IsIn os) keys) where
  pub number_at : (place : ℕ) → Some place ≡ cond (nat_lt (position_or_len (nat_eq p) keys) (length keys)) (Some (position_or_len (nat_eq p) keys)) None → place + 1 ≡ number_among (map (object_at os) keys) (object_at os p)
  number_at place h = let at = found_at (position_or_len (nat_eq p) keys) (length keys) place h in omega (arith, at, number_is os distinct p p_in keys all)

  pub number_nowhere : None ≡ cond (nat_lt (position_or_len (nat_eq p) keys) (length keys)) (Some (position_or_len (nat_eq p) keys)) None → length keys ≡ number_among (map (object_at os) keys) (object_at os p)
  number_nowhere h = omega (arith, found_nowhere (position_or_len (nat_eq p) keys) (length keys) h, number_is os distinct p p_in keys all)

-- one number more
pub one_number : (f : ℕ → ℕ) (proofs : List ℕ) (i : ℕ) → i < length proofs → (old new : List ℕ) (n p : ℕ) → old ≡ map f (take i proofs) → new ≡ old ++ n ∷ [] → n ≡ f p → p ≡ get_or proofs i p → new ≡ map f (take (i + 1) proofs)
one_number f proofs i l old new n p so_far more is at =
    let q = get_or proofs i 0 in
    more
    ∙ (ap (λ k. old ++ k ∷ []) (is ∙ ap f (get_or_read proofs i p l at 0))
    ∙ (ap (λ ns. ns ++ f q ∷ []) so_far ∙ (sym (map-append f (take i proofs) (q ∷ [])) ∙ ap (map f) (sym (take_more proofs i 0 l)))))
