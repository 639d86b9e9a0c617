-- An arity by two tables, the newer one in front.
use Rattle.std.proofs.Common.{◌≡◌, ℕ, Bool, true, false, cond, [], ◌∷◌, ◌++◌, Some, None, refl}
use Rattle.mw_model.specs.Terms.Object.{Name, same_name}
use Rattle.mw_model.specs.Terms.Term.{ArityTable, arity_of}

pub arity-newer : (A B : ArityTable) (f : Name) (n : ℕ) → arity_of A f ≡ Some n → arity_of (A ++ B) f ≡ Some n
arity-newer [] B f n h = cc
arity-newer (p ∷ A) B f n h = go (same_name p.0 f) h (arity-newer A B f n)
  where
    go : (b : Bool) → cond b (Some p.1) (arity_of A f) ≡ Some n → (arity_of A f ≡ Some n → arity_of (A ++ B) f ≡ Some n) → cond b (Some p.1) (arity_of (A ++ B) f) ≡ Some n
    go true h rest = h
    go false h rest = rest h

pub arity-older : (A B : ArityTable) (f : Name) → arity_of A f ≡ None → arity_of (A ++ B) f ≡ arity_of B f
arity-older [] B f h = refl
arity-older (p ∷ A) B f h = go (same_name p.0 f) h (arity-older A B f)
  where
    go : (b : Bool) → cond b (Some p.1) (arity_of A f) ≡ None → (arity_of A f ≡ None → arity_of (A ++ B) f ≡ arity_of B f) → cond b (Some p.1) (arity_of (A ++ B) f) ≡ arity_of B f
    go true h rest = cc
    go false h rest = rest h
