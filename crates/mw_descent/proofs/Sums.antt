-- The sum b + omega^a by the place of a among the exponents of b, and it is an ordinal.
use Rattle.std.proofs.Common.{◌≡◌, ◌≢◌, ◌⊎◌, inl, inr, ℕ, suc, ◌<◌, Bool, true, false, cond, refl, sym, ap, ap₂, ◌∙◌, subst, arith, ltb-true, lt-ltb}
use Rattle.std.proofs.lemmas.Bool.{true≢false, cond-false, false_from_ne_true}
use Rattle.mw_model.specs.Terms.Object.{Object, Natural, Symbol, Pair, same_object}
use Rattle.mw_model.specs.Values.Primitive.{number}
use Rattle.mw_model.specs.Laws.Ordinal.{is_below, leads_below}
use Rattle.mw_model.specs.Laws.Descent.{omega_to, plus_power}
use Rattle.mw_model.proofs.Names.{same_object-from}
use Rattle.mw_descent.specs.Shape.{IsNormal}
use Rattle.mw_descent.specs.Descending.{Ordinal, Below}
use Rattle.mw_descent.proofs.Ordinals.{same_object-differ}
use Rattle.mw_descent.proofs.Order.{irreflexive, transitive, below_differ, not_below_natural}
use Rattle.mw_descent.proofs.Normal.{leads_below-true, leads_below-from, normal, ordinal-from, total}

pub zero_below : (a : Object) → Ordinal a → a ≢ Natural 0 → Below (Natural 0) a
zero_below (Natural n) o ne = let p : n ≢ 0 = λ q. ne (ap Natural q) in lt-ltb 0 n (omega arith)
zero_below (Symbol x) o ne = absurd (true≢false (sym o))
zero_below (Pair p r) o ne = refl

pub not_below_zero : (x : Object) → Below x (Natural 0) → ⊥
not_below_zero (Natural m) h = omega (arith, ltb-true m 0 h)
not_below_zero (Symbol x) h = omega (arith, ltb-true 0 0 h)
not_below_zero (Pair p r) h = not_below_natural p r 0 h

pub not_both : (x y : Object) → Below x y → Below y x → ⊥
not_both x y h k = irreflexive x (transitive x y x h k)

-- the three cases of b + omega^a
pub omega_to-not_zero : (a : Object) → a ≢ Natural 0 → omega_to a ≡ Pair (Pair a (Natural 1)) (Natural 0)
omega_to-not_zero a ne = cond-false (same_object a (Natural 0)) (Natural 1) (Pair (Pair a (Natural 1)) (Natural 0)) (same_object-differ a (Natural 0) ne)

module _ (e c r a : Object) where
  abbrev sum : Bool → Bool → Object
  sum below same = cond below (omega_to a) (cond same (Pair (Pair e (Natural (suc (number c)))) (Natural 0)) (Pair (Pair e c) (plus_power r a)))

  pub plus_power-greater : Below e a → plus_power (Pair (Pair e c) r) a ≡ Pair (Pair a (Natural 1)) (Natural 0)
  plus_power-greater l = ap (λ below. sum below (same_object e a)) l ∙ omega_to-not_zero a (λ q. not_below_zero e (subst (Below e) q l))

  pub plus_power-equal : e ≡ a → plus_power (Pair (Pair e c) r) a ≡ Pair (Pair e (Natural (suc (number c)))) (Natural 0)
  plus_power-equal q = ap₂ sum (false_from_ne_true (is_below e a) (λ h. below_differ e a h q)) (same_object-from e a q)

  pub plus_power-less : Below a e → plus_power (Pair (Pair e c) r) a ≡ Pair (Pair e c) (plus_power r a)
  plus_power-less l = ap₂ sum (false_from_ne_true (is_below e a) (not_both a e l)) (same_object-differ e a (λ q. below_differ a e l (sym q)))

-- it is an ordinal
one_term : (e : Object) (k : ℕ) → Ordinal e → e ≢ Natural 0 → 0 < k → Ordinal (Pair (Pair e (Natural k)) (Natural 0))
one_term e k o ne l = ordinal-from e (Natural k) (Natural 0) (record { exponent = o; not_zero = ne; natural = refl; positive = l; rest = refl; falls = leads_below-true (Natural 0) e refl })

leads_below-plus_power : (r e a : Object) → Ordinal r → Ordinal a → leads_below r e ≡ true → Below a e → leads_below (plus_power r a) e ≡ true
leads_below-plus_power (Natural n) e a o oa h l = go (same_object a (Natural 0)) refl
  where
    go : (b : Bool) → same_object a (Natural 0) ≡ b → leads_below (cond b (Natural (suc n)) (cond b (Natural 1) (Pair (Pair a (Natural 1)) (Natural 0)))) e ≡ true
    go true q = refl
    go false q = l
leads_below-plus_power (Symbol x) e a o oa h l = absurd (true≢false (sym o))
leads_below-plus_power (Pair (Natural n) s) e a o oa h l = absurd (true≢false (sym o))
leads_below-plus_power (Pair (Symbol x) s) e a o oa h l = absurd (true≢false (sym o))
leads_below-plus_power (Pair (Pair g d) s) e a o oa h l = go (total g a (normal g d s o).exponent oa)
  where
    go : (g ≡ a) ⊎ (Below g a ⊎ Below a g) → leads_below (plus_power (Pair (Pair g d) s) a) e ≡ true
    go (inl q) = rw (plus_power-equal g d s a q) h
    go (inr (inl k)) = rw (plus_power-greater g d s a k) l
    go (inr (inr k)) = rw (plus_power-less g d s a k) h

pub ordinal-plus_natural : (n : ℕ) (a : Object) → Ordinal a → Ordinal (plus_power (Natural n) a)
ordinal-plus_natural n a oa = go (same_object a (Natural 0)) refl
  where
    go : (b : Bool) → same_object a (Natural 0) ≡ b → Ordinal (cond b (Natural (suc n)) (cond b (Natural 1) (Pair (Pair a (Natural 1)) (Natural 0))))
    go true q = refl
    go false q = one_term a 1 oa (λ e. true≢false (sym (same_object-from a (Natural 0) e) ∙ q)) (omega arith)

pub ordinal-plus_power : (b a : Object) → Ordinal b → Ordinal a → Ordinal (plus_power b a)
ordinal-plus_power (Natural n) a o oa = ordinal-plus_natural n a oa
ordinal-plus_power (Symbol x) a o oa = absurd (true≢false (sym o))
ordinal-plus_power (Pair (Natural n) s) a o oa = absurd (true≢false (sym o))
ordinal-plus_power (Pair (Symbol x) s) a o oa = absurd (true≢false (sym o))
ordinal-plus_power (Pair (Pair g d) s) a o oa = go (normal g d s o) (total g a (normal g d s o).exponent oa) (ordinal-plus_power s a (normal g d s o).rest oa)
  where
    go : IsNormal g d s → (g ≡ a) ⊎ (Below g a ⊎ Below a g) → Ordinal (plus_power s a) → Ordinal (plus_power (Pair (Pair g d) s) a)
    go p (inl q) ih = rw (plus_power-equal g d s a q) (one_term g (suc (number d)) p.exponent p.not_zero (omega arith))
    go p (inr (inl k)) ih = rw (plus_power-greater g d s a k) (one_term a 1 oa (λ q. not_below_zero g (subst (Below g) q k)) (omega arith))
    go p (inr (inr k)) ih = rw (plus_power-less g d s a k) (ordinal-from g d (plus_power s a) (record { exponent = p.exponent; not_zero = p.not_zero; natural = p.natural; positive = p.positive; rest = ih; falls = leads_below-true _ g (leads_below-plus_power s g a p.rest oa (leads_below-from s g p.falls) k) }))
