-- Gentzen's jump, with no accessibility: where G passes, so does its jump. The towers of omega give G at each ordinal.
use Rattle.std.proofs.Common.{◌≡◌, inl, inr, ℕ, zero, suc, Bool, true, false, cond, refl, sym, subst}
use Rattle.std.proofs.lemmas.Bool.{true≢false}
use Rattle.mw_model.specs.Terms.Object.{Object, Natural, Symbol, Pair, same_object}
use Rattle.mw_model.specs.Laws.Descent.{Question, goal, omega_to, plus_power, up}
use Rattle.mw_descent.specs.Descending.{Ordinal, Below, Passes}
use Rattle.mw_descent.proofs.Order.{by_exponent, Below-pairs, below_differ}
use Rattle.mw_descent.proofs.Normal.{normal}
use Rattle.mw_descent.proofs.Sums.{not_below_zero, omega_to-not_zero, ordinal-plus_natural, ordinal-plus_power}
use Rattle.mw_descent.proofs.Beyond.{Where, plus_powers, compare}

-- the jump of G
abbrev pub Jump : (Object → Type 0) → Object → Type 0
Jump G a = (b : Object) → Ordinal b → ((x : Object) → Ordinal x → Below x b → G x) → (x : Object) → Ordinal x → Below x (plus_power b a) → G x

jump_powers : (G : Object → Type 0) (f : Object) → Ordinal f → Jump G f → (b : Object) → Ordinal b → ((x : Object) → Ordinal x → Below x b → G x) → (k : ℕ) → Ordinal (plus_powers b f k) × ((x : Object) → Ordinal x → Below x (plus_powers b f k) → G x)
jump_powers G f of j b ob h zero = (ob, h)
jump_powers G f of j b ob h (suc k) =
    let r = jump_powers G f of j b ob h k in
    (ordinal-plus_power (plus_powers b f k) f r.0 of, j (plus_powers b f k) r.0 r.1)

pub jump_passes : (G : Object → Type 0) → Passes G → Passes (Jump G)
jump_passes G p a oa ih b ob h x ox l = go (compare b x ob ox)
  where
    go : Where b x → G x
    go (inl k) = h x ox k
    go (inr (inl q)) = p x ox (λ y oy k. h y oy (subst (Below y) q k))
    go (inr (inr s)) = (jump_powers G s.exponent s.ordinal (ih s.exponent s.ordinal (s.least a oa l)) b ob h s.times).1 x ox s.reach

-- the n-th jump of a goal, and its passing
pub up_passes : (q : Question) → Passes (goal q) → (n : ℕ) → Passes (up n q)
up_passes q p zero = p
up_passes q p (suc n) = jump_passes (up n q) (up_passes q p n)

-- towers of omega
abbrev tower : ℕ → Object
tower zero = Natural 0
tower (suc n) = omega_to (tower n)

-- how deep the exponents of an ordinal go
abbrev depth : Object → ℕ
depth (Natural n) = 2
depth (Symbol x) = 0
depth (Pair (Natural n) r) = 0
depth (Pair (Symbol x) r) = 0
depth (Pair (Pair e c) r) = suc (depth e)

plus_zero : (a : Object) → plus_power (Natural 0) a ≡ omega_to a
plus_zero a = go (same_object a (Natural 0))
  where
    go : (b : Bool) → cond b (Natural 1) (cond b (Natural 1) (Pair (Pair a (Natural 1)) (Natural 0))) ≡ cond b (Natural 1) (Pair (Pair a (Natural 1)) (Natural 0))
    go true = refl
    go false = refl

tower-ordinal : (n : ℕ) → Ordinal (tower n)
tower-ordinal zero = refl
tower-ordinal (suc n) = subst Ordinal (plus_zero (tower n)) (ordinal-plus_natural 0 (tower n) (tower-ordinal n))

-- each ordinal is below a tower
below_tower : (a : Object) → Ordinal a → Below a (tower (depth a))
below_tower (Natural n) o = refl
below_tower (Symbol x) o = absurd (true≢false (sym o))
below_tower (Pair (Natural n) r) o = absurd (true≢false (sym o))
below_tower (Pair (Symbol x) r) o = absurd (true≢false (sym o))
below_tower (Pair (Pair e c) r) o =
    let T = tower (depth e) in
    let l = below_tower e (normal e c r o).exponent in
    rw (omega_to-not_zero T (λ q. not_below_zero e (subst (Below e) q l))) (Below-pairs (Pair e c) r (Pair T (Natural 1)) (Natural 0) (by_exponent (below_differ e T l) l))

-- below the tower of height j each jump of the goal holds
up_tower : (q : Question) → Passes (goal q) → (j n : ℕ) (x : Object) → Ordinal x → Below x (tower j) → up n q x
up_tower q p zero n x ox l = absurd (not_below_zero x l)
up_tower q p (suc j) n x ox l =
    up_passes q p (suc n) (tower j) (tower-ordinal j) (λ y oy k. up_tower q p j (suc n) y oy k) (Natural 0) refl (λ y oy k. absurd (not_below_zero y k)) x ox (subst (Below x) (sym (plus_zero (tower j))) l)

pub goal_each : (q : Question) → Passes (goal q) → (a : Object) → Ordinal a → goal q a
goal_each q p a o = up_tower q p (depth a) 0 a o (below_tower a o)
