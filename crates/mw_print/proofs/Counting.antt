-- How often pairs were met, as a walk goes on: as often as they stand in what was entered, but for those that wait.
use Rattle.std.proofs.Common.{◌≡◌, ℕ, zero, suc, ◌+◌, ◌≤◌, Bool, true, false, ◌&&◌, ◌||◌, ltb, List, [], ◌∷◌, ◌++◌, refl, sym, ap, ◌∙◌, subst, lt-ltb, le-ltb, arith}
use Rattle.mw_model.specs.Terms.Object.{Object, Natural, Symbol, Pair, same_object}
use Rattle.mw_model.specs.Values.Primitive.{is_pair}
use Rattle.mw_model.specs.Texts.Written.{pairs_in, distinct_pairs}
use Rattle.mw_model.proofs.Names.{same_object-eq}
use Rattle.mw_heap.specs.Cells.{one_if}
use Rattle.mw_print.specs.Repeats.{parts_equal, stands}
use Rattle.mw_print.proofs.Times.{total, times, total-append, total-sum_by, total-without, total-within, times-firsts, one_itself}
use Rattle.mw_print.proofs.Compact.{at_most}

-- these objects wait, these pairs were met, and for these the test is true that they were met again
pub record IsCounted (x : Object) (path seen : List Object) (again : Object → Bool) : Type 0 where
  pub few : (p : Object) → is_pair p ≡ true → again p ≡ false → one_if (same_object x p) + total (parts_equal p) seen ≡ times p path + times p seen
  pub many : (p : Object) → again p ≡ true → (is_pair p ≡ true) × (2 + times p path ≤ one_if (same_object x p) + total (parts_equal p) seen) × (1 ≤ times p seen)
  pub once : (p : Object) → times p seen ≤ 1
  pub within : (p : Object) → 1 ≤ times p seen → 1 ≤ times p (pairs_in x)
  pub waits : (y q : Object) → 1 ≤ times y path → 1 ≤ times q (pairs_in y) → 1 ≤ times q (pairs_in x)

is_it : (x y : Object) → 1 ≤ one_if (same_object x y) → x ≡ y
is_it x y h = go (same_object x y) refl h
  where
    go : (b : Bool) → same_object x y ≡ b → 1 ≤ one_if b → x ≡ y
    go true e h = same_object-eq x y e
    go false e h = absurd (omega arith)

not_pair : (y p : Object) → is_pair y ≡ false → is_pair p ≡ true → one_if (same_object y p) ≡ 0
not_pair y p h k = go (same_object y p) refl
  where
    go : (b : Bool) → same_object y p ≡ b → one_if b ≡ 0
    go false e = refl
    go true e = let same = ap is_pair (same_object-eq y p e) in cc

pub counted-start : (x : Object) → IsCounted x (x ∷ []) [] (λ p. false)
counted-start x = record {
  few = λ p pair h. omega arith;
  many = λ p h. cc;
  once = λ p. omega arith;
  within = λ p h. absurd (omega (arith, h));
  waits = λ y q h k. subst (λ z. 1 ≤ times q (pairs_in z)) (sym (is_it x y (omega (arith, h)))) k;
}

module _ (x y : Object) (path seen : List Object) (again : Object → Bool) (c : IsCounted x (path ++ y ∷ []) seen again) where
  waiting : (p : Object) → times p (path ++ y ∷ []) ≡ times p path + one_if (same_object y p)
  waiting p = omega (arith, total-append (λ z. one_if (same_object z p)) path (y ∷ []))

  still_waits : (z q : Object) → 1 ≤ times z path → 1 ≤ times q (pairs_in z) → 1 ≤ times q (pairs_in x)
  still_waits z q h k = c.waits z q (omega (arith, waiting z, h)) k

  pub counted-atom : is_pair y ≡ false → IsCounted x path seen again
  counted-atom atom = record {
    few = λ p pair h. omega (arith, c.few p pair h, waiting p, not_pair y p atom pair);
    many = λ p h. let m = c.many p h in (m.0, omega (arith, m.1, waiting p), m.2);
    once = c.once;
    within = c.within;
    waits = still_waits;
  }

  pub counted-again : (now : Object → Bool) → ((p : Object) → now p ≡ (again p || same_object y p)) → is_pair y ≡ true → 1 ≤ times y seen → IsCounted x path seen now
  counted-again now is pair_y met = record {
    few = λ p pair h. few_now p pair (again p) (same_object y p) refl refl (sym (is p) ∙ h);
    many = λ p h. many_now p (again p) (same_object y p) refl refl (sym (is p) ∙ h);
    once = c.once;
    within = c.within;
    waits = still_waits;
  }
    where
      few_now : (p : Object) → is_pair p ≡ true → (b d : Bool) → again p ≡ b → same_object y p ≡ d → (b || d) ≡ false → one_if (same_object x p) + total (parts_equal p) seen ≡ times p path + times p seen
      few_now p pair true d e f h = cc
      few_now p pair false true e f h = cc
      few_now p pair false false e f h = omega (arith, c.few p pair e, waiting p, ap one_if f)

      many_now : (p : Object) → (b d : Bool) → again p ≡ b → same_object y p ≡ d → (b || d) ≡ true → (is_pair p ≡ true) × (2 + times p path ≤ one_if (same_object x p) + total (parts_equal p) seen) × (1 ≤ times p seen)
      many_now p true d e f h = let m = c.many p e in (m.0, omega (arith, m.1, waiting p), m.2)
      many_now p false true e f h =
          let same = same_object-eq y p f in
          let pair = ap is_pair (sym same) ∙ pair_y in
          let seen_p = subst (λ z. 1 ≤ times z seen) same met in
          (pair, omega (arith, c.few p pair e, waiting p, ap one_if f, seen_p), seen_p)
      many_now p false false e f h = cc

  module _ (a d : Object) (is : y ≡ Pair a d) (new : times y seen ≡ 0) where
    entered : (p : Object) → parts_equal p y ≡ one_if (same_object a p) + one_if (same_object d p)
    entered p = ap (parts_equal p) is

    seen_now : (p : Object) → times p (seen ++ y ∷ []) ≡ times p seen + one_if (same_object y p)
    seen_now p = omega (arith, total-append (λ z. one_if (same_object z p)) seen (y ∷ []))

    stands_now : (p : Object) → total (parts_equal p) (seen ++ y ∷ []) ≡ total (parts_equal p) seen + (one_if (same_object a p) + one_if (same_object d p))
    stands_now p = omega (arith, total-append (parts_equal p) seen (y ∷ []), entered p)

    waiting_now : (p : Object) → times p (path ++ d ∷ a ∷ []) ≡ times p path + (one_if (same_object a p) + one_if (same_object d p))
    waiting_now p = omega (arith, total-append (λ z. one_if (same_object z p)) path (d ∷ a ∷ []))

    pairs_y : (q : Object) → times q (pairs_in y) ≡ one_if (same_object y q) + (times q (pairs_in a) + times q (pairs_in d))
    pairs_y q =
        ap (λ z. times q (pairs_in z)) is
        ∙ (ap (λ n. one_if (same_object (Pair a d) q) + n) (total-append (λ z. one_if (same_object z q)) (pairs_in a) (pairs_in d))
        ∙ ap (λ z. one_if (same_object z q) + (times q (pairs_in a) + times q (pairs_in d))) (sym is))

    y_waits : (q : Object) → 1 ≤ times q (pairs_in y) → 1 ≤ times q (pairs_in x)
    y_waits q h = c.waits y q (omega (arith, waiting y, one_itself y)) h

    pub counted-new : IsCounted x (path ++ d ∷ a ∷ []) (seen ++ y ∷ []) again
    counted-new = record {
      few = λ p pair h. omega (arith, c.few p pair h, waiting p, seen_now p, stands_now p, waiting_now p);
      many = λ p h. let m = c.many p h in (m.0, omega (arith, m.1, waiting p, stands_now p, waiting_now p), omega (arith, m.2, seen_now p));
      once = λ p. once_now p (same_object y p) refl;
      within = λ p h. within_now p (same_object y p) refl (omega (arith, h, seen_now p));
      waits = λ z q h k. waits_now z q (same_object a z) (same_object d z) refl refl (omega (arith, h, waiting_now z)) k;
    }
      where
        once_now : (p : Object) (b : Bool) → same_object y p ≡ b → times p (seen ++ y ∷ []) ≤ 1
        once_now p false e = omega (arith, seen_now p, ap one_if e, c.once p)
        once_now p true e =
            let none = subst (λ z. times z seen ≡ 0) (same_object-eq y p e) new in
            omega (arith, seen_now p, ap one_if e, none)

        within_now : (p : Object) (b : Bool) → same_object y p ≡ b → 1 ≤ times p seen + one_if (same_object y p) → 1 ≤ times p (pairs_in x)
        within_now p false e h = c.within p (omega (arith, h, ap one_if e))
        within_now p true e h = y_waits p (omega (arith, pairs_y p, ap one_if e))

        waits_now : (z q : Object) (b e : Bool) → same_object a z ≡ b → same_object d z ≡ e → 1 ≤ times z path + (one_if (same_object a z) + one_if (same_object d z)) → 1 ≤ times q (pairs_in z) → 1 ≤ times q (pairs_in x)
        waits_now z q true e f g h k = y_waits q (omega (arith, pairs_y q, subst (λ u. 1 ≤ times q (pairs_in u)) (sym (same_object-eq a z f)) k))
        waits_now z q false true f g h k = y_waits q (omega (arith, pairs_y q, subst (λ u. 1 ≤ times q (pairs_in u)) (sym (same_object-eq d z g)) k))
        waits_now z q false false f g h k = still_waits z q (omega (arith, h, ap one_if f, ap one_if g)) k

-- ---- once nothing waits

module _ (x : Object) (seen : List Object) (again : Object → Bool) (c : IsCounted x [] seen again) where
  stands_seen : (p : Object) → is_pair p ≡ true → 1 ≤ one_if (same_object x p) + total (parts_equal p) seen → 1 ≤ times p seen
  stands_seen p pair h = go (again p) refl
    where
      go : (b : Bool) → again p ≡ b → 1 ≤ times p seen
      go true e = (c.many p e).2
      go false e = omega (arith, c.few p pair e, h)

  -- a pair that was met was entered
  all_seen : (q z : Object) → (is_pair z ≡ true → 1 ≤ times z seen) → 1 ≤ times q (pairs_in z) → 1 ≤ times q seen
  all_seen q (Natural n) h k = absurd (omega arith)
  all_seen q (Symbol s) h k = absurd (omega arith)
  all_seen q (Pair a d) h k = go (same_object (Pair a d) q) refl (times q (pairs_in a)) refl
      (omega (arith, k, total-append (λ z. one_if (same_object z q)) (pairs_in a) (pairs_in d)))
      (all_seen q a (λ pair. stands_seen a pair (omega (arith, in_seen a, one_itself a))))
      (all_seen q d (λ pair. stands_seen d pair (omega (arith, in_seen d, one_itself d))))
    where
      in_seen : (p : Object) → one_if (same_object a p) + one_if (same_object d p) ≤ total (parts_equal p) seen
      in_seen p = omega (arith, total-without (parts_equal p) (Pair a d) seen (h refl))

      go : (b : Bool) → same_object (Pair a d) q ≡ b → (n : ℕ) → times q (pairs_in a) ≡ n → 1 ≤ one_if (same_object (Pair a d) q) + (times q (pairs_in a) + times q (pairs_in d)) → (1 ≤ times q (pairs_in a) → 1 ≤ times q seen) → (1 ≤ times q (pairs_in d) → 1 ≤ times q seen) → 1 ≤ times q seen
      go true e n f k first rest = subst (λ z. 1 ≤ times z seen) (same_object-eq (Pair a d) q e) (h refl)
      go false e zero f k first rest = rest (omega (arith, k, f, ap one_if e))
      go false e (suc n) f k first rest = first (omega (arith, f))

  seen_all : (q : Object) → 1 ≤ times q (pairs_in x) → 1 ≤ times q seen
  seen_all q h = all_seen q x (λ pair. stands_seen x pair (omega (arith, one_itself x))) h

  same_totals : (f : Object → ℕ) → total f seen ≡ total f (distinct_pairs x)
  same_totals f =
      let up = total-within f seen (distinct_pairs x) (λ q k. at_most (times q seen) (times q (distinct_pairs x)) (c.once q) (λ h. (times-firsts q (pairs_in x)).1 (c.within q h))) in
      let down = total-within f (distinct_pairs x) seen (λ q k. at_most (times q (distinct_pairs x)) (times q seen) (times-firsts q (pairs_in x)).0 (λ h. seen_all q (omega (arith, h, (times-firsts q (pairs_in x)).2)))) in
      omega (arith, up, down)

  pub counted-end : (p : Object) → again p ≡ (is_pair p && ltb 1 (stands p x))
  counted-end p = go (again p) refl (is_pair p) refl
    where
      is_stands : one_if (same_object x p) + total (parts_equal p) seen ≡ stands p x
      is_stands = ap (λ n. one_if (same_object x p) + n) (same_totals (parts_equal p) ∙ total-sum_by (parts_equal p) (distinct_pairs x))

      go : (b : Bool) → again p ≡ b → (d : Bool) → is_pair p ≡ d → b ≡ (d && ltb 1 (stands p x))
      go true e true f = sym (lt-ltb 1 (stands p x) (omega (arith, (c.many p e).1, is_stands)))
      go true e false f = let k = (c.many p e).0 in cc
      go false e true f = sym (le-ltb 1 (stands p x) (omega (arith, c.few p f e, c.once p, is_stands)))
      go false e false f = refl
