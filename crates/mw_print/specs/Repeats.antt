-- Which pairs stand more than once in an object.
use Rattle.std.specs.Prelude.{◌≡◌, ℕ, ◌+◌, ◌&&◌, ltb, nat_eq, true, false, List, [], ◌∷◌, ◌++◌, ◌⊎◌, sum_by}
use Rattle.std.specs.List.{list_any}
use Rattle.indexmap.specs.IndexSet.{insert_key}
use Rattle.mw_model.specs.Terms.Object.{Object, Natural, Symbol, Pair, same_object}
use Rattle.mw_model.specs.Values.Primitive.{is_pair}
use Rattle.mw_model.specs.Texts.Written.{distinct_pairs}
use Rattle.mw_heap.specs.Cells.{one_if}
use Rattle.mw_heap.specs.Objects.{object_at, IsIn}
use Rattle.mw_print.specs.Waiting.{is_one_of}

-- how many parts of a pair are p
abbrev pub parts_equal : Object → Object → ℕ
parts_equal p (Pair a d) = one_if (same_object a p) + one_if (same_object d p)
parts_equal p (Natural n) = 0
parts_equal p (Symbol s) = 0

-- how often p stands in x: as x, and as a part of the distinct pairs in x
abbrev pub stands : Object → Object → ℕ
stands p x = one_if (same_object x p) + sum_by (parts_equal p) (distinct_pairs x)

-- the references are to just those pairs that stand in x more than once
abbrev pub AreRepeats : List Object → Object → List ℕ → Type 0
AreRepeats os x refs = (p : Object) → is_one_of os refs p ≡ (is_pair p && ltb 1 (stands p x))

-- x is a natural or a symbol; or a pair that is met first, and its parts are to be met; or one that is met again
abbrev pub Meets : List Object → ℕ → List ℕ → List ℕ → List ℕ → List ℕ → List ℕ → List ℕ → Type 0
Meets os x old_path new_path old_seen new_seen old_again new_again =
    ((is_pair (object_at os x) ≡ false) × (new_path ≡ old_path) × (new_seen ≡ old_seen) × (new_again ≡ old_again))
    ⊎ ((a d : ℕ) × IsIn os a × IsIn os d × (object_at os x ≡ Pair (object_at os a) (object_at os d)) × (list_any (nat_eq x) old_seen ≡ false) × (new_path ≡ old_path ++ d ∷ a ∷ []) × (new_seen ≡ old_seen ++ x ∷ []) × (new_again ≡ old_again))
    ⊎ ((is_pair (object_at os x) ≡ true) × (new_path ≡ old_path) × (new_seen ≡ old_seen) × (list_any (nat_eq x) old_seen ≡ true) × (new_again ≡ insert_key nat_eq old_again x))
