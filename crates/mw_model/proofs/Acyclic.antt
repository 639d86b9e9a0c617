-- The order of objects has no cycles, since each way down ends; so it is irreflexive and, being total, transitive.
use Rattle.std.proofs.Common.{◌≡◌, ℕ, suc, true, ◌⊎◌, inl, inr, refl, sym, subst}
use Rattle.mw_model.specs.Terms.Object.{Object, is_before}
use Rattle.mw_model.proofs.Order.{is_before_tri, Ends, ends, all_end}

no_cycle1 : (x : Object) → Ends x → is_before x x ≡ true → ⊥
no_cycle1 x (ends z below) h = no_cycle1 z (below z h) h

no_cycle2 : (x y : Object) → Ends x → is_before y x ≡ true → is_before x y ≡ true → ⊥
no_cycle2 x y (ends z below) h i = no_cycle2 y z (below y h) i h

no_cycle3 : (x y z : Object) → Ends x → is_before y x ≡ true → is_before z y ≡ true → is_before x z ≡ true → ⊥
no_cycle3 x y z (ends w below) h i j = no_cycle3 y z w (below y h) i j h

pub irreflexive : (x : Object) → is_before x x ≡ true → ⊥
irreflexive x = no_cycle1 x (all_end x)

pub transitive : (x y z : Object) → is_before x y ≡ true → is_before y z ≡ true → is_before x z ≡ true
transitive x y z h i = go (is_before_tri x z)
  where
    go : (is_before x z ≡ true) ⊎ ((x ≡ z) ⊎ (is_before z x ≡ true)) → is_before x z ≡ true
    go (inl l) = l
    go (inr (inl e)) = absurd (no_cycle2 x y (all_end x) (subst (λ w. is_before y w ≡ true) (sym e) i) h)
    go (inr (inr l)) = absurd (no_cycle3 z y x (all_end z) i h l)

-- no endless way down
descends_from : (x : Object) → Ends x → (s : ℕ → Object) → s 0 ≡ x → ((n : ℕ) → is_before (s (suc n)) (s n) ≡ true) → ⊥
descends_from x (ends z below) s e h =
    descends_from (s 1) (below (s 1) (subst (λ w. is_before (s 1) w ≡ true) e (h 0))) (λ n. s (suc n)) refl (λ n. h (suc n))

pub descends : (s : ℕ → Object) → ((n : ℕ) → is_before (s (suc n)) (s n) ≡ true) → ⊥
descends s = descends_from (s 0) (all_end (s 0)) s refl
