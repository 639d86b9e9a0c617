-- The parts of an ordinal, and the order of ordinals is total.
use Rattle.std.proofs.Common.{◌≡◌, ◌<◌, true, false, refl, sym, ap, ap₂, ◌∙◌, subst, ◌⊎◌, inl, inr, ltb-true, lt-ltb, lt_irrefl}
use Rattle.std.proofs.lemmas.Bool.{and_parts, and_from, true≢false, not-true, not_from_false, cases_order}
use Rattle.mw_model.specs.Terms.Object.{Object, Natural, Symbol, Pair, car}
use Rattle.mw_model.specs.Values.Primitive.{number, is_pair, is_natural}
use Rattle.mw_model.specs.Laws.Ordinal.{is_below, leads_below, is_ordinal}
use Rattle.mw_descent.specs.Shape.{IsNormal}
use Rattle.mw_descent.specs.Descending.{Ordinal, Below}
use Rattle.mw_descent.proofs.Ordinals.{same_object-false, same_object-differ}
use Rattle.mw_descent.proofs.Order.{by_exponent, by_coefficient, by_rest, Below-pairs, below_differ}

pub leads_below-true : (r e : Object) → leads_below r e ≡ true → is_pair r ≡ true → is_below (car (car r)) e ≡ true
leads_below-true (Natural n) e h i = cc
leads_below-true (Symbol x) e h i = cc
leads_below-true (Pair q s) e h i = h

pub leads_below-from : (r e : Object) → (is_pair r ≡ true → is_below (car (car r)) e ≡ true) → leads_below r e ≡ true
leads_below-from (Natural n) e h = refl
leads_below-from (Symbol x) e h = refl
leads_below-from (Pair q s) e h = h refl

pub normal : (e c r : Object) → Ordinal (Pair (Pair e c) r) → IsNormal e c r
normal e c r o =
    let a = and_parts _ _ o in
    let b = and_parts _ _ a.1 in
    let d = and_parts _ _ b.1 in
    let f = and_parts _ _ d.1 in
    let g = and_parts _ _ f.1 in
    record {
      exponent = a.0;
      not_zero = same_object-false e (Natural 0) (not-true _ b.0);
      natural = d.0;
      positive = ltb-true 0 (number c) f.0;
      rest = g.0;
      falls = leads_below-true r e g.1;
    }

pub ordinal-from : (e c r : Object) → IsNormal e c r → Ordinal (Pair (Pair e c) r)
ordinal-from e c r n =
    and_from _ _ n.exponent (and_from _ _ (not_from_false _ (same_object-differ e (Natural 0) n.not_zero)) (and_from _ _ n.natural (and_from _ _ (lt-ltb 0 (number c) n.positive) (and_from _ _ n.rest (leads_below-from r e n.falls)))))

-- a pair that has no leading term is no ordinal
pub no_term : (p r : Object) → is_pair p ≡ false → is_ordinal (Pair p r) ≡ false
no_term (Natural n) r h = refl
no_term (Symbol x) r h = refl
no_term (Pair a b) r h = cc

natural-number : (c : Object) → is_natural c ≡ true → c ≡ Natural (number c)
natural-number (Natural n) h = refl
natural-number (Symbol x) h = cc
natural-number (Pair a b) h = cc

pub naturals_equal : (c d : Object) → is_natural c ≡ true → is_natural d ≡ true → number c ≡ number d → c ≡ d
naturals_equal c d h k e = natural-number c h ∙ (ap Natural e ∙ sym (natural-number d k))

abbrev pub Compared : Object → Object → Type 0
Compared x y = (x ≡ y) ⊎ (Below x y ⊎ Below y x)

total_pairs : (e c r f d s : Object) → is_natural c ≡ true → is_natural d ≡ true → Compared e f → Compared r s → Compared (Pair (Pair e c) r) (Pair (Pair f d) s)
total_pairs e c r f d s cn dn (inr (inl l)) h = inr (inl (Below-pairs (Pair e c) r (Pair f d) s (by_exponent (below_differ e f l) l)))
total_pairs e c r f d s cn dn (inr (inr l)) h = inr (inr (Below-pairs (Pair f d) s (Pair e c) r (by_exponent (below_differ f e l) l)))
total_pairs e c r f d s cn dn (inl p) h = go (cases_order (number c) (number d)) h
  where
    go : (number c ≡ number d) ⊎ ((number c < number d) ⊎ (number d < number c)) → Compared r s → Compared (Pair (Pair e c) r) (Pair (Pair f d) s)
    go (inr (inl l)) h = inr (inl (Below-pairs (Pair e c) r (Pair f d) s (by_coefficient p (λ k. lt_irrefl _ (subst (λ z. number c < number z) (sym k) l)) l)))
    go (inr (inr l)) h = inr (inr (Below-pairs (Pair f d) s (Pair e c) r (by_coefficient (sym p) (λ k. lt_irrefl _ (subst (λ z. number d < number z) (sym k) l)) l)))
    go (inl k) (inl q) = inl (ap₂ Pair (ap₂ Pair p (naturals_equal c d cn dn k)) q)
    go (inl k) (inr (inl l)) = inr (inl (Below-pairs (Pair e c) r (Pair f d) s (by_rest p (naturals_equal c d cn dn k) l)))
    go (inl k) (inr (inr l)) = inr (inr (Below-pairs (Pair f d) s (Pair e c) r (by_rest (sym p) (sym (naturals_equal c d cn dn k)) l)))

pub total : (x y : Object) → Ordinal x → Ordinal y → Compared x y
total (Natural m) (Natural n) ox oy = go (cases_order m n)
  where
    go : (m ≡ n) ⊎ ((m < n) ⊎ (n < m)) → Compared (Natural m) (Natural n)
    go (inl e) = inl (ap Natural e)
    go (inr (inl l)) = inr (inl (lt-ltb m n l))
    go (inr (inr l)) = inr (inr (lt-ltb n m l))
total (Natural m) (Pair q s) ox oy = inr (inl refl)
total (Pair (Pair e c) r) (Natural n) ox oy = inr (inr refl)
total (Pair (Pair e c) r) (Pair (Pair f d) s) ox oy =
    let a = normal e c r ox in
    let b = normal f d s oy in
    total_pairs e c r f d s a.natural b.natural (total e f a.exponent b.exponent) (total r s a.rest b.rest)
total (Symbol x) y ox oy = absurd (true≢false (sym ox))
total x (Symbol y) ox oy = absurd (true≢false (sym oy))
total (Pair (Natural n) r) y ox oy = absurd (true≢false (sym ox))
total (Pair (Symbol n) r) y ox oy = absurd (true≢false (sym ox))
total x (Pair (Natural n) r) ox oy = absurd (true≢false (sym oy))
total x (Pair (Symbol n) r) ox oy = absurd (true≢false (sym oy))
