-- Substitutions as lists of pairs of references, and their objects.
use Rattle.std.specs.Prelude.{◌≡◌, ℕ, nat_eq, cond, List, [], ◌∷◌, Option, Some, None}
use Rattle.std.specs.Map.{lookup}
use Rattle.mw_model.specs.Terms.Object.{Object, Pair, NIL}
use Rattle.mw_heap.specs.Objects.{object_at, IsIn}

-- the proper list of the pairs (variable . term)
abbrev pub sigma_object : List Object → List (ℕ × ℕ) → Object
sigma_object os [] = NIL
sigma_object os (p ∷ s) = Pair (Pair (object_at os p.0) (object_at os p.1)) (sigma_object os s)

-- all are references of the heap
abbrev pub AreIn : List Object → List (ℕ × ℕ) → Type 0
AreIn os [] = Unit {0}
AreIn os (p ∷ s) = IsIn os p.0 × IsIn os p.1 × AreIn os s

-- the term of the first pair for a variable
abbrev pub term_for : List (ℕ × ℕ) → ℕ → Option ℕ
term_for [] x = None
term_for (p ∷ s) x = cond (nat_eq x p.0) (Some p.1) (term_for s x)

-- the entries have the first pairs
abbrev pub HasFirsts : List (ℕ × ℕ) → List (ℕ × ℕ) → Type 0
HasFirsts s es = (x : ℕ) → lookup (nat_eq x) es ≡ term_for s x

-- the first of two answers, where there is one
abbrev pub term_or : Option ℕ → Option ℕ → Option ℕ
term_or (Some t) o = Some t
term_or None o = o

-- the variable v has the term t where it had none
abbrev pub HasOneMore : List (ℕ × ℕ) → List (ℕ × ℕ) → ℕ → ℕ → Type 0
HasOneMore es more v t = (x : ℕ) → lookup (nat_eq x) more ≡ term_or (lookup (nat_eq x) es) (cond (nat_eq x v) (Some t) None)
