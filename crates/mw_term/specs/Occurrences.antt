-- The free variables of an object that stands for a term, as they occur and each once, and a walk that finds them.
use Rattle.std.specs.Prelude.{◌≡◌, ℕ, ◌<◌, ◌≤◌, Bool, cond, List, [], ◌∷◌, ◌++◌, length, Contains}
use Rattle.std.specs.List.{list_all}
use Rattle.mw_model.specs.Terms.Object.{Name, Object, Natural, Symbol, Pair, symbol, same_name, same_object}
use Rattle.mw_model.specs.Terms.Term.{is_among, firsts}
use Rattle.mw_heap.specs.Objects.{object_at, IsIn}
use Rattle.mw_term.specs.declared.part.Part.{Part}
use Rattle.mw_term.specs.declared.part.Part.TheVariants.{Term, Terms}
use Rattle.mw_term.specs.Parts.{names_at, AreSymbols}

-- the free variables from left to right, as often as they occur
abbrev mutual
  pub object_occurrences : Object → List Name
  object_occurrences (Pair h r) = cond (same_object h (symbol "QUOTE")) [] (objects_occurrences r)
  object_occurrences (Natural n) = []
  object_occurrences (Symbol x) = x ∷ []

  pub objects_occurrences : Object → List Name
  objects_occurrences (Pair a r) = object_occurrences a ++ objects_occurrences r
  objects_occurrences (Natural n) = []
  objects_occurrences (Symbol x) = []

-- in order of first occurrence
abbrev pub object_variables : Object → List Name
object_variables x = firsts same_name (object_occurrences x)

-- each free variable is among the names
abbrev pub is_closed_object : List Name → Object → Bool
is_closed_object xs x = list_all (λ y. is_among y xs) (object_variables x)

-- those found so far, and after them those of ys that are new; a test tells which were found
abbrev pub gather : {X : Type 0} → (X → List X → Bool) → List X → List X → List X
gather among found [] = found
gather among found (y ∷ ys) = gather among (cond (among y found) found (found ++ y ∷ [])) ys

-- a part's reference
abbrev pub place : Part → ℕ
place (Term r) = r
place (Terms r) = r

module _ (os : List Object) where
  abbrev pub IsPartIn : Part → Type 0
  IsPartIn p = IsIn os (place p)

  abbrev pub part_occurrences : Part → List Name
  part_occurrences (Term r) = object_occurrences (object_at os r)
  part_occurrences (Terms r) = objects_occurrences (object_at os r)

  -- those of parts that wait, the last of which comes first
  abbrev pub waiting_occurrences : List Part → List Name
  waiting_occurrences [] = []
  waiting_occurrences (p ∷ ps) = waiting_occurrences ps ++ part_occurrences p

  -- the names of `first` were found, in order
  pub record AreFound (found new : List ℕ) (first : List Name) : Type 0 where
    pub symbols : AreSymbols os new
    pub names : names_at os new ≡ gather is_among (names_at os found) first

  -- the first occurrences of a part were found, and its parts, which stand before it, wait
  pub record IsLooked (part : Part) (found new : List ℕ) (waited waiting : List Part) : Type 0 where
    pub first : List Name
    pub more : List Part
    pub longer : waiting ≡ waited ++ more
    pub few : length more ≤ 2
    pub inside : (p : Part) → Contains more p → IsPartIn p
    pub before : (p : Part) → Contains more p → place p < place part
    pub occurrences : part_occurrences part ≡ first ++ waiting_occurrences more
    pub finds : AreFound found new first
