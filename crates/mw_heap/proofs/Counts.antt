-- How many cells of a kind a list of cells has, and where the n-th of them stands.
use Rattle.std.proofs.Common.{◌≡◌, ℕ, zero, suc, ◌+◌, ◌<◌, ◌≤◌, Bool, true, false, Some, List, [], ◌∷◌, ◌++◌, length, take, drop, get_or, slice_get, refl, sym, ap, ◌∙◌, arith}
use Rattle.mw_heap.specs.declared.store.cell.Cell.{Cell}
use Rattle.mw_heap.specs.declared.store.cell.Cell.TheVariants.{Small, Large, Symbol, Pair}
use Rattle.mw_heap.specs.Cells.{one_if, count_of, is_large, is_named, natural_count, name_count}
use Rattle.mw_heap.proofs.Lists.{split_at}
use Rattle.std.proofs.lemmas.List.{take-append-drop}
use Rattle.std.proofs.Math.Seq.{take-suc}

module _ (test : Cell → Bool) where
  pub count_of-append : (cs ds : List Cell) → count_of test (cs ++ ds) ≡ count_of test cs + count_of test ds
  count_of-append [] ds = omega arith
  count_of-append (c ∷ cs) ds = omega (arith, count_of-append cs ds)

  pub count_of-le-length : (cs : List Cell) → count_of test cs ≤ length cs
  count_of-le-length [] = omega arith
  count_of-le-length (c ∷ cs) = go (test c) (count_of-le-length cs)
    where
      go : (b : Bool) → count_of test cs ≤ length cs → one_if b + count_of test cs ≤ suc (length cs)
      go true h = omega (arith, h)
      go false h = omega (arith, h)

  pub count_of-take-drop : (n : ℕ) (cs : List Cell) → count_of test (take n cs) + count_of test (drop n cs) ≡ count_of test cs
  count_of-take-drop n cs = sym (count_of-append (take n cs) (drop n cs)) ∙ ap (count_of test) (take-append-drop n cs)

  -- before a cell of the kind there are fewer
  pub count_of-take-lt : (cs : List Cell) (i : ℕ) (c : Cell) → slice_get cs i ≡ Some c → test c ≡ true → count_of test (take i cs) < count_of test cs
  count_of-take-lt cs i c at kind =
      let e = ap (count_of test) (split_at cs i c at) ∙ count_of-append (take i cs) (c ∷ drop (suc i) cs) in
      let one : one_if (test c) ≡ 1 = ap one_if kind in
      omega (arith, e, one)

  pub count_of-take-suc : (cs : List Cell) (i : ℕ) (d : Cell) → i < length cs → count_of test (take (suc i) cs) ≡ count_of test (take i cs) + one_if (test (get_or cs i d))
  count_of-take-suc cs i d h = ap (count_of test) (take-suc cs i d h) ∙ (count_of-append (take i cs) (get_or cs i d ∷ []) ∙ omega arith)

  -- the n-th cell of the kind
  abbrev pub Stands : List Cell → ℕ → Type 0
  Stands cs n = (i : ℕ) × (c : Cell) × (slice_get cs i ≡ Some c) × (test c ≡ true) × (count_of test (take i cs) ≡ n)

  pub nth_of_kind : (cs : List Cell) (n : ℕ) → n < count_of test cs → Stands cs n
  nth_of_kind [] n h = absurd (omega arith)
  nth_of_kind (c ∷ cs) n h = go (test c) refl n h (nth_of_kind cs)
    where
      later : (k m : ℕ) → one_if (test c) + k ≡ m → Stands cs k → Stands (c ∷ cs) m
      later k m e s = (suc s.0, s.1, s.2, s.3, ap (λ x. one_if (test c) + x) s.4 ∙ e)

      go : (b : Bool) → test c ≡ b → (m : ℕ) → m < one_if (test c) + count_of test cs → ((k : ℕ) → k < count_of test cs → Stands cs k) → Stands (c ∷ cs) m
      go true e zero l rest = (0, c, refl, e, refl)
      go true e (suc m) l rest = let one : one_if (test c) ≡ 1 = ap one_if e in later m (suc m) (omega (arith, one)) (rest m (omega (arith, one, l)))
      go false e m l rest = let one : one_if (test c) ≡ 0 = ap one_if e in later m m (omega (arith, one)) (rest m (omega (arith, one, l)))

pub plain_counts : (c : Cell) → ((x : ℕ) → c ≡ Large x → ⊥) → ((x : ℕ) → c ≡ Symbol x → ⊥) → (one_if (is_large c) ≡ 0) × (one_if (is_named c) ≡ 0)
plain_counts (Small n) l s = (refl, refl)
plain_counts (Large i) l s = absurd (l i refl)
plain_counts (Symbol i) l s = absurd (s i refl)
plain_counts (Pair a b) l s = (refl, refl)

-- the counts, and one more cell counts as what it is
pub record AreCounted (cs : List Cell) (i naturals names : ℕ) : Type 0 where
  pub naturals_are : naturals ≡ natural_count (take i cs)
  pub names_are : names ≡ name_count (take i cs)
  pub naturals_few : naturals ≤ i
  pub names_few : names ≤ i

pub AreCounted-suc : (cs : List Cell) (i : ℕ) (d : Cell) (k m k' m' : ℕ) → AreCounted cs i k m → i < length cs → k' ≡ k + one_if (is_large (get_or cs i d)) → m' ≡ m + one_if (is_named (get_or cs i d)) → AreCounted cs (i + 1) k' m'
AreCounted-suc cs i d k m k' m' are h e f = record {
  naturals_are = e ∙ (ap (λ x. x + one_if (is_large (get_or cs i d))) are.naturals_are ∙ (sym (count_of-take-suc is_large cs i d h) ∙ ap (λ n. natural_count (take n cs)) next));
  names_are = f ∙ (ap (λ x. x + one_if (is_named (get_or cs i d))) are.names_are ∙ (sym (count_of-take-suc is_named cs i d h) ∙ ap (λ n. name_count (take n cs)) next));
  naturals_few = omega (arith, e, are.naturals_few, small (is_large (get_or cs i d)));
  names_few = omega (arith, f, are.names_few, small (is_named (get_or cs i d)));
}
  where
    next : suc i ≡ i + 1
    next = omega arith

    small : (b : Bool) → one_if b ≤ 1
    small true = omega arith
    small false = omega arith
