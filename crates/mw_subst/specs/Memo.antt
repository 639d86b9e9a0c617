-- What was made of the parts of a term.
use Rattle.std.specs.Prelude.{◌≡◌, ℕ, nat_eq, List, [], ◌∷◌, ◌++◌, Option, Some}
use Rattle.std.specs.List.{IsDistinct}
use Rattle.std.specs.Map.{lookup, keys_of}
use Rattle.mw_model.specs.Terms.Object.{Object}
use Rattle.mw_model.specs.Laws.Rules.{substitute_object, substitute_each_object}
use Rattle.mw_heap.specs.Objects.{object_at, IsIn}
use Rattle.mw_subst.specs.declared.part.Part.{Part}
use Rattle.mw_subst.specs.declared.part.Part.TheVariants.{Term, Terms}

abbrev pub cell_of : Part → ℕ
cell_of (Term x) = x
cell_of (Terms x) = x

-- the same cell as the other kind of part
abbrev pub other_kind : Part → Part
other_kind (Term x) = Terms x
other_kind (Terms x) = Term x

abbrev pub IsPartIn : List Object → Part → Type 0
IsPartIn os p = IsIn os (cell_of p)

-- a part's object with the substitution s
abbrev pub substituted : Object → Part → Object → Object
substituted s (Term x) y = substitute_object s y
substituted s (Terms x) y = substitute_each_object s y

-- what was made of a part, if anything
abbrev pub found : List (ℕ × ℕ) → List (ℕ × ℕ) → Part → Option ℕ
found terms lists (Term x) = lookup (nat_eq x) terms
found terms lists (Terms x) = lookup (nat_eq x) lists

-- something was made of the part
abbrev pub IsFound : List (ℕ × ℕ) → List (ℕ × ℕ) → Part → Type 0
IsFound terms lists p = (r : ℕ) × (found terms lists p ≡ Some r)

-- each entry's second object is what f gives of the first
abbrev pub AreResults : List Object → (Object → Object) → List (ℕ × ℕ) → Type 0
AreResults os f [] = Unit {0}
AreResults os f (e ∷ es) = IsIn os e.0 × IsIn os e.1 × (object_at os e.1 ≡ f (object_at os e.0)) × AreResults os f es

abbrev pub AreMade : List Object → Object → List (ℕ × ℕ) → List (ℕ × ℕ) → Type 0
AreMade os s terms lists = AreResults os (substitute_object s) terms × AreResults os (substitute_each_object s) lists

-- one more result
abbrev pub Adds : List (ℕ × ℕ) → List (ℕ × ℕ) → List (ℕ × ℕ) → List (ℕ × ℕ) → Part → ℕ → Type 0
Adds terms lists more_terms more_lists (Term x) made = (more_terms ≡ terms ++ (x, made) ∷ []) × (more_lists ≡ lists)
Adds terms lists more_terms more_lists (Terms x) made = (more_terms ≡ terms) × (more_lists ≡ lists ++ (x, made) ∷ [])

-- no part has two results
abbrev pub AreUnique : List (ℕ × ℕ) → List (ℕ × ℕ) → Type 0
AreUnique terms lists = IsDistinct nat_eq (keys_of terms) × IsDistinct nat_eq (keys_of lists)
