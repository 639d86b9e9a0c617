-- An ordinal past b is below b + omega^f + .. + omega^f with the least such f, so f is below a where it is below b + omega^a.
use Rattle.std.proofs.Common.{◌≡◌, ◌≢◌, ◌⊎◌, inl, inr, ℕ, zero, suc, ◌+◌, ◌<◌, Bool, true, false, cond, refl, sym, ap, ap₂, ◌∙◌, subst, arith, ltb-true, lt-ltb, lt_irrefl}
use Rattle.std.proofs.lemmas.Bool.{true≢false, cases_order, cond-false}
use Rattle.mw_model.specs.Terms.Object.{Object, Natural, Symbol, Pair, same_object}
use Rattle.mw_model.specs.Values.Primitive.{number}
use Rattle.mw_model.specs.Laws.Ordinal.{leads_below}
use Rattle.mw_model.specs.Laws.Descent.{omega_to, plus_power}
use Rattle.mw_descent.specs.Shape.{IsNormal}
use Rattle.mw_descent.specs.Descending.{Ordinal, Below}
use Rattle.mw_descent.proofs.Ordinals.{same_object-differ}
use Rattle.mw_descent.proofs.Order.{PairBelow, by_exponent, by_coefficient, by_rest, PairBelow-from, Below-pairs, transitive, below_differ, not_below_natural}
use Rattle.mw_descent.proofs.Normal.{leads_below-from, normal, naturals_equal, total}
use Rattle.mw_descent.proofs.Sums.{zero_below, not_below_zero, not_both, omega_to-not_zero, plus_power-greater, plus_power-equal, plus_power-less}

-- b + omega^f + .. + omega^f, k times
abbrev pub plus_powers : Object → Object → ℕ → Object
plus_powers b f zero = b
plus_powers b f (suc k) = plus_power (plus_powers b f k) f

plus_powers-natural : (n k : ℕ) → plus_powers (Natural n) (Natural 0) k ≡ Natural (k + n)
plus_powers-natural n zero = let q : n ≡ 0 + n = omega arith in ap Natural q
plus_powers-natural n (suc k) =
    let q : suc (k + n) ≡ suc k + n = omega arith in
    ap (λ z. plus_power z (Natural 0)) (plus_powers-natural n k) ∙ ap Natural q

-- once omega^e is the last term, its coefficient grows
plus_powers-more : (b e : Object) (m : ℕ) → plus_power b e ≡ Pair (Pair e (Natural (suc m))) (Natural 0) → (k : ℕ) → plus_powers b e (suc k) ≡ Pair (Pair e (Natural (suc (k + m)))) (Natural 0)
plus_powers-more b e m h zero = let q : suc m ≡ suc (0 + m) = omega arith in h ∙ ap (λ z. Pair (Pair e (Natural z)) (Natural 0)) q
plus_powers-more b e m h (suc k) =
    let q : suc (suc (k + m)) ≡ suc (suc k + m) = omega arith in
    ap (λ z. plus_power z e) (plus_powers-more b e m h k) ∙ (plus_power-equal e (Natural (suc (k + m))) (Natural 0) e refl ∙ ap (λ z. Pair (Pair e (Natural z)) (Natural 0)) q)

plus_powers-rest : (g c t f : Object) → Below f g → (k : ℕ) → plus_powers (Pair (Pair g c) t) f k ≡ Pair (Pair g c) (plus_powers t f k)
plus_powers-rest g c t f l zero = refl
plus_powers-rest g c t f l (suc k) = ap (λ z. plus_power z f) (plus_powers-rest g c t f l k) ∙ plus_power-less g c (plus_powers t f k) f l

-- x is past b, but below b with a power of omega added some times, and the exponent is as small as it must be
pub record Beyond (b x : Object) : Type 0 where
  pub exponent : Object
  pub times : ℕ
  pub ordinal : Ordinal exponent
  pub reach : Below x (plus_powers b exponent times)
  -- below each exponent that can stand before x
  pub small : (a : Object) → Ordinal a → a ≢ Natural 0 → leads_below x a ≡ true → Below exponent a
  -- below each a where x is below b + omega^a
  pub least : (a : Object) → Ordinal a → Below x (plus_power b a) → Below exponent a

abbrev pub Where : Object → Object → Type 0
Where b x = Below x b ⊎ ((x ≡ b) ⊎ Beyond b x)

-- below omega^a
below_power : (e d s a : Object) → 0 < number d → Below (Pair (Pair e d) s) (Pair (Pair a (Natural 1)) (Natural 0)) → Below e a
below_power e d s a pos h = go (PairBelow-from (Pair e d) s (Pair a (Natural 1)) (Natural 0) h)
  where
    go : PairBelow (Pair e d) s (Pair a (Natural 1)) (Natural 0) → Below e a
    go (by_exponent n l) = l
    go (by_coefficient q n l) = absurd (omega arith)
    go (by_rest q r l) = absurd (not_below_zero s l)

-- a coefficient past d
coefficient_grows : (e d s : Object) (j : ℕ) → number d < j → Below (Pair (Pair e d) s) (Pair (Pair e (Natural j)) (Natural 0))
coefficient_grows e d s j l = Below-pairs (Pair e d) s (Pair e (Natural j)) (Natural 0) (by_coefficient refl (λ q. lt_irrefl _ (subst (λ z. number z < j) q l)) l)

beyond_naturals : (n m : ℕ) → n < m → Beyond (Natural n) (Natural m)
beyond_naturals n m l = record {
  exponent = Natural 0;
  times = suc m;
  ordinal = refl;
  reach = rw (plus_powers-natural n (suc m)) (lt-ltb m (suc m + n) (omega arith));
  small = λ a oa ne h. zero_below a oa ne;
  least = λ a oa h. zero_below a oa (λ q. absurd (let h' = subst (λ z. Below (Natural m) (plus_power (Natural n) z)) q h in let j = ltb-true m (suc n) h' in omega arith));
}

beyond_natural : (n : ℕ) (e d s : Object) → IsNormal e d s → Beyond (Natural n) (Pair (Pair e d) s)
beyond_natural n e d s p =
    let h : plus_power (Natural n) e ≡ Pair (Pair e (Natural 1)) (Natural 0) = cond-false (same_object e (Natural 0)) (Natural (suc n)) (omega_to e) (same_object-differ e (Natural 0) p.not_zero) ∙ omega_to-not_zero e p.not_zero in
    record {
      exponent = e;
      times = suc (number d);
      ordinal = p.exponent;
      reach = rw (plus_powers-more (Natural n) e 0 h (number d)) (coefficient_grows e d s (suc (number d + 0)) (omega arith));
      small = λ a oa ne l. l;
      least = λ a oa l. go a (same_object a (Natural 0)) refl l;
    }
  where
    go : (a : Object) (b : Bool) → same_object a (Natural 0) ≡ b → Below (Pair (Pair e d) s) (cond b (Natural (suc n)) (cond b (Natural 1) (Pair (Pair a (Natural 1)) (Natural 0)))) → Below e a
    go a true q l = absurd (not_below_natural (Pair e d) s (suc n) l)
    go a false q l = below_power e d s a p.positive l

-- two pairs
module _ (g c t e d s : Object) (pb : IsNormal g c t) (px : IsNormal e d s) where
  -- no such pair is below where the exponents and coefficients are not
  stuck : (u v : Object) → (Below e g → ⊥) → (e ≡ g → number d < number u → ⊥) → (e ≡ g → d ≡ u → Below s v → ⊥) → Below (Pair (Pair e d) s) (Pair (Pair g u) v) → ⊥
  stuck u v n1 n2 n3 h = go (PairBelow-from (Pair e d) s (Pair g u) v h)
    where
      go : PairBelow (Pair e d) s (Pair g u) v → ⊥
      go (by_exponent n l) = n1 l
      go (by_coefficient q n l) = n2 q l
      go (by_rest q r l) = n3 q r l

  -- a greater exponent
  beyond_exponent : Below g e → Beyond (Pair (Pair g c) t) (Pair (Pair e d) s)
  beyond_exponent l = record {
    exponent = e;
    times = suc (number d);
    ordinal = px.exponent;
    reach = rw (plus_powers-more (Pair (Pair g c) t) e 0 (plus_power-greater g c t e l) (number d)) (coefficient_grows e d s (suc (number d + 0)) (omega arith));
    small = λ a oa ne h. h;
    least = λ a oa h. go a (total g a pb.exponent oa) h;
  }
    where
      out : (u v : Object) → Below (Pair (Pair e d) s) (Pair (Pair g u) v) → ⊥
      out u v = stuck u v (not_both g e l) (λ q x. below_differ g e l (sym q)) (λ q r x. below_differ g e l (sym q))

      go : (a : Object) → (g ≡ a) ⊎ (Below g a ⊎ Below a g) → Below (Pair (Pair e d) s) (plus_power (Pair (Pair g c) t) a) → Below e a
      go a (inl q) h = absurd (out (Natural (suc (number c))) (Natural 0) (subst (Below (Pair (Pair e d) s)) (plus_power-equal g c t a q) h))
      go a (inr (inl k)) h = below_power e d s a px.positive (subst (Below (Pair (Pair e d) s)) (plus_power-greater g c t a k) h)
      go a (inr (inr k)) h = absurd (out c (plus_power t a) (subst (Below (Pair (Pair e d) s)) (plus_power-less g c t a k) h))

  -- the same exponent, a greater coefficient
  beyond_coefficient : e ≡ g → number c < number d → Beyond (Pair (Pair g c) t) (Pair (Pair e d) s)
  beyond_coefficient q l = record {
    exponent = e;
    times = suc (number d);
    ordinal = px.exponent;
    reach = rw (plus_powers-more (Pair (Pair g c) t) e (number c) (plus_power-equal g c t e (sym q) ∙ ap (λ z. Pair (Pair z (Natural (suc (number c)))) (Natural 0)) (sym q)) (number d)) (coefficient_grows e d s (suc (number d + number c)) (omega arith));
    small = λ a oa ne h. h;
    least = λ a oa h. go a (total g a pb.exponent oa) h;
  }
    where
      go : (a : Object) → (g ≡ a) ⊎ (Below g a ⊎ Below a g) → Below (Pair (Pair e d) s) (plus_power (Pair (Pair g c) t) a) → Below e a
      go a (inl r) h =
          absurd (stuck (Natural (suc (number c))) (Natural 0) (λ x. below_differ e g x q) (λ x y. omega arith) (λ x y z. not_below_zero s z) (subst (Below (Pair (Pair e d) s)) (plus_power-equal g c t a r) h))
      go a (inr (inl k)) h = subst (λ z. Below z a) (sym q) k
      go a (inr (inr k)) h =
          absurd (stuck c (plus_power t a) (λ x. below_differ e g x q) (λ x y. omega arith) (λ x y z. lt_irrefl _ (subst (λ w. number c < number w) y l)) (subst (Below (Pair (Pair e d) s)) (plus_power-less g c t a k) h))

  -- the same first term
  beyond_rest : e ≡ g → d ≡ c → Beyond t s → Beyond (Pair (Pair g c) t) (Pair (Pair e d) s)
  beyond_rest q r b =
      let fe = b.small e px.exponent px.not_zero (leads_below-from s e px.falls) in
      let fg = subst (Below b.exponent) q fe in
      record {
        exponent = b.exponent;
        times = b.times;
        ordinal = b.ordinal;
        reach = rw (plus_powers-rest g c t b.exponent fg b.times) (Below-pairs (Pair e d) s (Pair g c) (plus_powers t b.exponent b.times) (by_rest q r b.reach));
        small = λ a oa ne h. transitive b.exponent e a fe h;
        least = λ a oa h. go a oa fg (total g a pb.exponent oa) h;
      }
    where
      go : (a : Object) → Ordinal a → Below b.exponent g → (g ≡ a) ⊎ (Below g a ⊎ Below a g) → Below (Pair (Pair e d) s) (plus_power (Pair (Pair g c) t) a) → Below b.exponent a
      go a oa fg (inl x) h = subst (Below b.exponent) x fg
      go a oa fg (inr (inl k)) h = transitive b.exponent g a fg k
      go a oa fg (inr (inr k)) h = rest (PairBelow-from (Pair e d) s (Pair g c) (plus_power t a) (subst (Below (Pair (Pair e d) s)) (plus_power-less g c t a k) h))
        where
          rest : PairBelow (Pair e d) s (Pair g c) (plus_power t a) → Below b.exponent a
          rest (by_exponent n l) = absurd (below_differ e g l q)
          rest (by_coefficient x n l) = absurd (n r)
          rest (by_rest x y l) = b.least a oa l

compare_pairs : (g c t e d s : Object) → IsNormal g c t → IsNormal e d s → Where t s → Where (Pair (Pair g c) t) (Pair (Pair e d) s)
compare_pairs g c t e d s pb px w = at_exponents (total e g px.exponent pb.exponent)
  where
    same_c : number d ≡ number c → d ≡ c
    same_c q = naturals_equal d c px.natural pb.natural q

    at_rests : e ≡ g → d ≡ c → Where t s → Where (Pair (Pair g c) t) (Pair (Pair e d) s)
    at_rests q r (inl l) = inl (Below-pairs (Pair e d) s (Pair g c) t (by_rest q r l))
    at_rests q r (inr (inl x)) = inr (inl (ap₂ Pair (ap₂ Pair q r) x))
    at_rests q r (inr (inr b)) = inr (inr (beyond_rest g c t e d s pb px q r b))

    at_coefficients : e ≡ g → (number d ≡ number c) ⊎ ((number d < number c) ⊎ (number c < number d)) → Where (Pair (Pair g c) t) (Pair (Pair e d) s)
    at_coefficients q (inl r) = at_rests q (same_c r) w
    at_coefficients q (inr (inl l)) = inl (Below-pairs (Pair e d) s (Pair g c) t (by_coefficient q (λ r. lt_irrefl _ (subst (λ z. number z < number c) r l)) l))
    at_coefficients q (inr (inr l)) = inr (inr (beyond_coefficient g c t e d s pb px q l))

    at_exponents : (e ≡ g) ⊎ (Below e g ⊎ Below g e) → Where (Pair (Pair g c) t) (Pair (Pair e d) s)
    at_exponents (inl q) = at_coefficients q (cases_order (number d) (number c))
    at_exponents (inr (inl l)) = inl (Below-pairs (Pair e d) s (Pair g c) t (by_exponent (below_differ e g l) l))
    at_exponents (inr (inr l)) = inr (inr (beyond_exponent g c t e d s pb px l))

pub compare : (b x : Object) → Ordinal b → Ordinal x → Where b x
compare (Natural n) (Natural m) ob ox = go (cases_order m n)
  where
    go : (m ≡ n) ⊎ ((m < n) ⊎ (n < m)) → Where (Natural n) (Natural m)
    go (inl q) = inr (inl (ap Natural q))
    go (inr (inl l)) = inl (lt-ltb m n l)
    go (inr (inr l)) = inr (inr (beyond_naturals n m l))
compare (Natural n) (Pair (Pair e d) s) ob ox = inr (inr (beyond_natural n e d s (normal e d s ox)))
compare (Pair (Pair g c) t) (Natural m) ob ox = inl refl
compare (Pair (Pair g c) t) (Pair (Pair e d) s) ob ox =
    compare_pairs g c t e d s (normal g c t ob) (normal e d s ox) (compare t s (normal g c t ob).rest (normal e d s ox).rest)
compare (Symbol x) y ob ox = absurd (true≢false (sym ob))
compare (Pair (Natural n) r) y ob ox = absurd (true≢false (sym ob))
compare (Pair (Symbol n) r) y ob ox = absurd (true≢false (sym ob))
compare x (Symbol y) ob ox = absurd (true≢false (sym ox))
compare x (Pair (Natural n) r) ob ox = absurd (true≢false (sym ox))
compare x (Pair (Symbol n) r) ob ox = absurd (true≢false (sym ox))
