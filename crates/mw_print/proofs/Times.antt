-- How often an object stands in a list, and sums over the list.
use Rattle.std.proofs.Common.{◌≡◌, ℕ, zero, suc, ◌+◌, ◌≤◌, Bool, true, false, cond, not, List, [], ◌∷◌, ◌++◌, filter, refl, sym, ap, ◌∙◌, arith}
use Rattle.std.specs.Prelude.{sum_by}
use Rattle.std.proofs.lemmas.List.Recursion.{is_sum_by}
use Rattle.mw_model.specs.Terms.Object.{Object, same_object}
use Rattle.mw_model.specs.Terms.Term.{firsts}
use Rattle.mw_model.proofs.Names.{same_object-eq, same_object-from}
use Rattle.mw_heap.specs.Cells.{one_if}

abbrev pub total : (Object → ℕ) → List Object → ℕ
total f [] = 0
total f (x ∷ xs) = f x + total f xs

abbrev pub times : Object → List Object → ℕ
times p xs = total (λ x. one_if (same_object x p)) xs

pub total-sum_by : (f : Object → ℕ) (xs : List Object) → total f xs ≡ sum_by f xs
total-sum_by f xs = is_sum_by (total f) f refl (λ y ys. refl) xs

pub total-append : (f : Object → ℕ) (xs ys : List Object) → total f (xs ++ ys) ≡ total f xs + total f ys
total-append f [] ys = omega arith
total-append f (x ∷ xs) ys = omega (arith, total-append f xs ys)

pub same_itself : (x : Object) → same_object x x ≡ true
same_itself x = same_object-from x x refl

pub one_itself : (x : Object) → one_if (same_object x x) ≡ 1
one_itself x = ap one_if (same_itself x)

-- the list without one x
abbrev without : Object → List Object → List Object
without d [] = []
without d (x ∷ xs) = cond (same_object x d) xs (x ∷ without d xs)

module _ (f : Object → ℕ) (d : Object) where
  pub total-without : (xs : List Object) → 1 ≤ times d xs → total f xs ≡ f d + total f (without d xs)
  total-without [] h = absurd (omega arith)
  total-without (x ∷ xs) h = go (same_object x d) refl h (total-without xs)
    where
      go : (b : Bool) → same_object x d ≡ b → 1 ≤ one_if b + times d xs → (1 ≤ times d xs → total f xs ≡ f d + total f (without d xs)) → f x + total f xs ≡ f d + total f (cond b xs (x ∷ without d xs))
      go true e h more = ap (λ y. f y + total f xs) (same_object-eq x d e)
      go false e h more = let k = more (omega (arith, h)) in omega (arith, k)

-- of what f counts, each as often as in the other list at most
pub total-within : (f : Object → ℕ) (ds xs : List Object) → ((q : Object) → 1 ≤ f q → times q ds ≤ times q xs) → total f ds ≤ total f xs
total-within f [] xs h = omega arith
total-within f (d ∷ ds) xs h = go (f d) refl (total-within f ds)
  where
    go : (n : ℕ) → f d ≡ n → ((ys : List Object) → ((q : Object) → 1 ≤ f q → times q ds ≤ times q ys) → total f ds ≤ total f ys) → f d + total f ds ≤ total f xs
    go zero e rest =
        let less = rest xs (λ q k. omega (arith, h q k)) in
        omega (arith, less, e)
    go (suc n) e rest =
        let here = h d (omega (arith, e)) in
        let one = one_itself d in
        let some : 1 ≤ times d xs = omega (arith, here, one) in
        let less = rest (without d xs) (λ q k. omega (arith, h q k, total-without (λ y. one_if (same_object y q)) d xs some)) in
        omega (arith, less, total-without f d xs some)

-- ---- distinct elements

filtered-same : (x p : Object) (zs : List Object) → same_object x p ≡ true → times p (filter (λ z. not (same_object x z)) zs) ≡ 0
filtered-same x p [] h = refl
filtered-same x p (z ∷ zs) h = go (same_object x z) refl (filtered-same x p zs h)
  where
    apart : (c : Bool) → same_object z p ≡ c → same_object x z ≡ false → one_if c ≡ 0
    apart false e k = refl
    apart true e k =
        let same : x ≡ z = same_object-eq x p h ∙ sym (same_object-eq z p e) in
        let t = same_object-from x z same in
        cc

    go : (b : Bool) → same_object x z ≡ b → times p (filter (λ z. not (same_object x z)) zs) ≡ 0 → times p (cond (not b) (z ∷ filter (λ z. not (same_object x z)) zs) (filter (λ z. not (same_object x z)) zs)) ≡ 0
    go true e more = more
    go false e more = omega (arith, more, apart (same_object z p) refl e)

filtered-other : (x p : Object) (zs : List Object) → same_object x p ≡ false → times p (filter (λ z. not (same_object x z)) zs) ≡ times p zs
filtered-other x p [] h = refl
filtered-other x p (z ∷ zs) h = go (same_object x z) refl (filtered-other x p zs h)
  where
    go : (b : Bool) → same_object x z ≡ b → times p (filter (λ z. not (same_object x z)) zs) ≡ times p zs → times p (cond (not b) (z ∷ filter (λ z. not (same_object x z)) zs) (filter (λ z. not (same_object x z)) zs)) ≡ one_if (same_object z p) + times p zs
    go false e more = ap (λ n. one_if (same_object z p) + n) more
    go true e more =
        let other : one_if (same_object z p) ≡ 0 = ap (λ y. one_if (same_object y p)) (sym (same_object-eq x z e)) ∙ ap one_if h in
        omega (arith, more, other)

pub times-firsts : (p : Object) (ys : List Object) → (times p (firsts same_object ys) ≤ 1) × (1 ≤ times p ys → 1 ≤ times p (firsts same_object ys)) × (times p (firsts same_object ys) ≤ times p ys)
times-firsts p [] = (omega arith, (λ h. h), omega arith)
times-firsts p (y ∷ ys) = go (same_object y p) refl (times-firsts p ys)
  where
    go : (b : Bool) → same_object y p ≡ b → (times p (firsts same_object ys) ≤ 1) × (1 ≤ times p ys → 1 ≤ times p (firsts same_object ys)) × (times p (firsts same_object ys) ≤ times p ys) → (one_if b + times p (filter (λ z. not (same_object y z)) (firsts same_object ys)) ≤ 1) × (1 ≤ one_if b + times p ys → 1 ≤ one_if b + times p (filter (λ z. not (same_object y z)) (firsts same_object ys))) × (one_if b + times p (filter (λ z. not (same_object y z)) (firsts same_object ys)) ≤ one_if b + times p ys)
    go true e more = let none = filtered-same y p (firsts same_object ys) e in (omega (arith, none), (λ h. omega arith), omega (arith, none))
    go false e more = let same = filtered-other y p (firsts same_object ys) e in (omega (arith, same, more.0), (λ h. omega (arith, same, more.1 (omega (arith, h)))), omega (arith, same, more.2))
