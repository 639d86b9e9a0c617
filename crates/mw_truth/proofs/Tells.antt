-- What the object of a test tells of the test.
use Rattle.std.proofs.Common.{◌≡◌, ◌≢◌, ℕ, ◌<◌, ◌≤◌, Bool, true, false, refl, sym, ap, ◌⊎◌, inl, inr, ltb, lt-ltb, le-ltb, true≢false}
use Rattle.std.proofs.lemmas.Bool.{cases_lt}
use Rattle.mw_model.specs.Terms.Object.{truth_of, NIL, T}
use Rattle.mw_model.proofs.Names.{same_object-from}

pub t_not_nil : T ≢ NIL
t_not_nil h = true≢false (sym (same_object-from T NIL h))

pub truth_tells : (b : Bool) → ((truth_of b ≡ T) × (b ≡ true)) ⊎ ((truth_of b ≡ NIL) × (b ≡ false))
truth_tells true = inl (refl, refl)
truth_tells false = inr (refl, refl)

pub less_tells : (m n : ℕ) → ((truth_of (ltb m n) ≡ T) × (m < n)) ⊎ ((truth_of (ltb m n) ≡ NIL) × (n ≤ m))
less_tells m n = go (cases_lt m n)
  where
    go : (m < n) ⊎ (n ≤ m) → ((truth_of (ltb m n) ≡ T) × (m < n)) ⊎ ((truth_of (ltb m n) ≡ NIL) × (n ≤ m))
    go (inl h) = inl (ap truth_of (lt-ltb m n h), h)
    go (inr h) = inr (ap truth_of (le-ltb m n h), h)

pub ruleset tells = (t_not_nil, truth_tells, less_tells)
