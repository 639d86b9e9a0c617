-- A formula's table as it is built: each part stands after its own parts, and those that wait are on a path.
use Rattle.std.specs.Prelude.{◌≡◌, ℕ, zero, suc, ◌+◌, ◌*◌, eqb, ◌<◌, Bool, true, false, ◌||◌, cond, List, [], ◌∷◌, ◌++◌, length, map, Option, Some, None, slice_get, ◌⊎◌}
use Rattle.mw_model.specs.Terms.Object.{Object, nil_name, same_object, weight}
use Rattle.mw_model.specs.Terms.Term.{Formula, Equal, Variable, formula_object, ArityTable, is_formula}
use Rattle.mw_model.specs.Terms.Reading.{formula_of}
use Rattle.mw_model.specs.Values.Truth.{Each}
use Rattle.mw_commands.specs.Commands.Tautology.{all_equations, equations}
use Rattle.mw_heap.specs.Objects.{object_at, IsIn}
use Rattle.mw_term.specs.Occurrences.{gather}
use Rattle.mw_taut.specs.declared.table.Node.{Node}
use Rattle.mw_taut.specs.declared.table.Node.TheVariants.{Equation, Not, Or}
use Rattle.mw_taut.specs.declared.table.Progress.{Progress}
use Rattle.mw_taut.specs.declared.table.Progress.TheVariants.{Made, Wants}
use Rattle.mw_taut.specs.Connectives.{not_object, or_object}
use Rattle.mw_taut.specs.Nodes.{AreNodes}
use Rattle.mw_taut.specs.Meaning.{AreNodesOf, among}

abbrev pub IsAt : List ℕ → ℕ → ℕ → Type 0
IsAt keys i r = slice_get keys i ≡ Some r

abbrev pub IsNew : List ℕ → ℕ → Type 0
IsNew keys r = (i : ℕ) → IsAt keys i r → ⊥

-- y is a part of x, and what stands before it in x is in the table
abbrev pub IsPartOf : List Object → List ℕ → ℕ → ℕ → Type 0
IsPartOf os keys x y =
    (object_at os x ≡ not_object (object_at os y))
    ⊎ (((z : ℕ) × IsIn os z × (object_at os x ≡ or_object (object_at os y) (object_at os z)))
    ⊎ ((z i : ℕ) × IsIn os z × IsAt keys i z × (object_at os x ≡ or_object (object_at os z) (object_at os y))))

abbrev pub IsMade : List Object → List ℕ → ℕ → ℕ → Node → Type 0
IsMade os keys n x (Equation k) =
    (k ≡ n) × ((a : Object) → same_object (object_at os x) (not_object a) ≡ false)
    × ((a b : Object) → same_object (object_at os x) (or_object a b) ≡ false)
IsMade os keys n x (Not i) = (y : ℕ) × IsIn os y × IsAt keys i y × (object_at os x ≡ not_object (object_at os y))
IsMade os keys n x (Or i j) =
    (y z : ℕ) × IsIn os y × IsIn os z × IsAt keys i y × IsAt keys j z
    × (object_at os x ≡ or_object (object_at os y) (object_at os z))

-- what was seen of x, where the table has these parts and n equations
abbrev pub IsProgress : List Object → List ℕ → ℕ → ℕ → Progress → Type 0
IsProgress os keys n x (Made node) = IsMade os keys n x node
IsProgress os keys n x (Wants y) = IsIn os y × IsNew keys y × IsPartOf os keys x y

-- the equations with a new one, where the node is one
abbrev pub equations_with : Node → List ℕ → ℕ → List ℕ
equations_with (Equation k) es x = es ++ x ∷ []
equations_with (Not i) es x = es
equations_with (Or i j) es x = es

abbrev pub formula_or : Option Formula → Formula
formula_or (Some F) = F
formula_or None = Equal (Variable nil_name) (Variable nil_name)

module _ (A : ArityTable) (os : List Object) where
  -- the formula of a reference
  abbrev pub here : ℕ → Formula
  here r = formula_or (formula_of (object_at os r))

  pub record IsHere (r : ℕ) : Type 0 where
    pub within : IsIn os r
    pub shown : object_at os r ≡ formula_object (here r)
    pub formed : is_formula A (here r) ≡ true

  -- the equations of those that wait, the last one first
  abbrev pub waiting : List ℕ → List Formula
  waiting [] = []
  waiting (r ∷ rs) = waiting rs ++ all_equations (here r)

  -- each one is heavier than those after it
  abbrev pub IsFalling : List ℕ → Type 0
  IsFalling [] = Unit {0}
  IsFalling (r ∷ rs) = Each (λ s. weight (object_at os s) < weight (object_at os r)) rs × IsFalling rs

  abbrev pub IsWhole : Formula → List ℕ → List ℕ → Type 0
  IsWhole F keys [] = (first : List ℕ) × (r : ℕ) × (keys ≡ first ++ r ∷ []) × (here r ≡ F)
  IsWhole F keys (r ∷ rs) = here r ≡ F

  abbrev pub Covers : List ℕ → ℕ → Type 0
  Covers es r = (z : Formula) → among z (all_equations (here r)) ≡ true → among z (map here es) ≡ true

  pub record IsBuilt (F : Formula) (keys : List ℕ) (nodes : List Node) (es path : List ℕ) : Type 0 where
    pub keys_here : Each IsHere keys
    pub equations_here : Each IsHere es
    pub path_here : Each IsHere path
    pub nodes_of : AreNodesOf (map here es) [] nodes (map here keys)
    pub valid : AreNodes (length es) 0 nodes
    pub many : length nodes ≡ length keys
    pub known : (i r : ℕ) → IsAt keys i r → Covers es r
    pub listed : (z : Formula) → among z (map here es) ≡ true → (i : ℕ) × (r : ℕ) × IsAt keys i r × (here r ≡ z)
    pub answer : gather among (map here es) (waiting path) ≡ equations F
    pub new : Each (IsNew keys) path
    pub falling : IsFalling path
    pub whole : IsWhole F keys path

-- ---- what is left to do

abbrev pub has : ℕ → List ℕ → Bool
has k [] = false
has k (x ∷ xs) = eqb k x || has k xs

abbrev pub missing : ℕ → List ℕ → ℕ
missing zero keys = 0
missing (suc k) keys = cond (has k keys) 0 1 + missing k keys

abbrev pub last_weight : List Object → List ℕ → ℕ
last_weight os [] = 0
last_weight os (r ∷ []) = weight (object_at os r)
last_weight os (r ∷ (s ∷ rs)) = last_weight os (s ∷ rs)

abbrev pub left_over : List Object → ℕ → List ℕ → List ℕ → ℕ
left_over os f keys path = missing (length os) keys * suc (weight (object_at os f)) + last_weight os path
