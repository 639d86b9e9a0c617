-- What is left to look at grows smaller.
use Rattle.std.proofs.Common.{◌≡◌, ℕ, zero, suc, ◌+◌, ◌<◌, ◌≤◌, nat_eq, true, ◌⊎◌, List, [], ◌∷◌, ◌++◌, Option, Some, None, IfSome, inl, inr, ap, arith}
use Rattle.std.specs.List.{list_any}
use Rattle.std.proofs.lemmas.Bool.{cases_lt}
use Rattle.mw_model.specs.Terms.Object.{Object}
use Rattle.mw_bad_steps.specs.declared.bad_step.Open.{Open}
use Rattle.mw_bad_steps.specs.BadStep.{IsUnopened, Opens}

-- more than twice that of any smaller reference
abbrev size : ℕ → ℕ
size zero = 2
size (suc n) = 2 + (size n + size n)

size-mono : (m n : ℕ) → m ≤ n → size m ≤ size n
size-mono m zero h = let e : m ≡ zero = omega arith in omega (arith, ap size e)
size-mono m (suc n) h = go (size-mono m n)
  where
    go : (m ≤ n → size m ≤ size n) → size m ≤ size (suc n)
    go rest = elim (cases_lt n m) [ inl l ↦ let e : m ≡ suc n = omega arith in omega (arith, ap size e) | inr l ↦ omega (arith, rest l) ]

size-some : (x : ℕ) → 2 ≤ size x
size-some x = omega (arith, size-mono 0 x (omega arith))

size_both : (a d x : ℕ) → a < x → d < x → 2 + (size a + size d) ≤ size x
size_both a d zero h k = absurd (omega arith)
size_both a d (suc n) h k = omega (arith, size-mono a n (omega arith), size-mono d n (omega arith))

abbrev left_size : Option ℕ → ℕ
left_size None = 1
left_size (Some r) = size r

some_left : (o : Option ℕ) → 1 ≤ left_size o
some_left None = omega arith
some_left (Some r) = omega (arith, size-some r)

abbrev pub path_size : List Open → ℕ
path_size [] = 0
path_size (w ∷ ws) = left_size w.left + path_size ws

path_size-append : (ws vs : List Open) → path_size (ws ++ vs) ≡ path_size ws + path_size vs
path_size-append [] vs = omega arith
path_size-append (w ∷ ws) vs = omega (arith, path_size-append ws vs)

pub last_falls : (ws all : List Open) (w : Open) → all ≡ ws ++ w ∷ [] → path_size ws < path_size all
last_falls ws all w e = omega (arith, ap path_size e, path_size-append ws (w ∷ []), some_left w.left)

below : (o : Option ℕ) (more p list : ℕ) → IfSome o (λ r. r < p) → p < list → more < list → size more + left_size o < size list
below None more p list h l k = omega (arith, size_both more more list k k, size-some more)
below (Some r) more p list h l k = omega (arith, size_both more r list k (omega (arith, h, l)))

pub opened_falls : (os : List Object) (w : Open) (good : List ℕ) (ws new all : List Open) → Opens os w good ws new → all ≡ ws ++ w ∷ [] → path_size new < path_size all
opened_falls os w good ws new all o e = by_cases o.opened
  where
    before : path_size all ≡ path_size ws + size o.list
    before = omega (arith, ap path_size e, path_size-append ws (w ∷ []), ap left_size o.next.left)

    after : path_size (ws ++ o.v ∷ []) ≡ path_size ws + size o.more
    after = omega (arith, path_size-append ws (o.v ∷ []), ap left_size o.v_left)

    by_cases : ((list_any (nat_eq o.p) good ≡ true) × (new ≡ ws ++ o.v ∷ [])) ⊎ ((u : Open) × IsUnopened os o.p u × (new ≡ (ws ++ o.v ∷ []) ++ u ∷ [])) → path_size new < path_size all
    by_cases (inl k) = omega (arith, before, after, ap path_size k.1, size_both o.more o.more o.list o.next.more_older o.next.more_older, size-some o.more)
    by_cases (inr k) = omega (arith, before, after, ap path_size k.2, path_size-append (ws ++ o.v ∷ []) (k.0 ∷ []), below k.0.left o.more o.p o.list k.1.2 o.next.p_older o.next.more_older)
