-- Marks that are kept right as names come: each test that a cell does not pass has a reason, and what can take a reason away is noted.
use Rattle.std.specs.Prelude.{◌≡◌, ℕ, ◌<◌, ◌≤◌, Bool, true, false, ◌&&◌, ◌||◌, not, nat_eq, List, [], ◌∷◌, ◌⊎◌, length, get_or, Option, Some, None, Vec}
use Rattle.std.specs.Map.{lookup}
use Rattle.mw_model.specs.Terms.Object.{Name, Object, Natural, Symbol, Pair, symbol, same_object}
use Rattle.mw_model.specs.Terms.Term.{ArityTable, arity_of, is_function_name}
use Rattle.mw_model.specs.Values.Primitive.{is_symbol}
use Rattle.mw_heap.specs.Objects.{object_at}
use Rattle.mw_term.specs.Marking.{ObjectMark, mark_of_object}

-- the four tests of a mark
pub data Test : Type 0 where
  as_term : Test
  as_terms : Test
  as_formula : Test
  as_head : Test

abbrev pub says : ObjectMark → Test → Bool
says m as_term = m.is_term
says m as_terms = m.is_terms
says m as_formula = m.is_formula
says m as_head = m.is_head

abbrev pub passes : ArityTable → Object → Test → Bool
passes A x k = says (mark_of_object A x) k

-- a mark that denies all
abbrev pub no_mark : ObjectMark
no_mark = record { is_term = false; is_terms = false; is_formula = false; is_head = false }

-- the mark of a cell; one that denies all where it has none
abbrev pub mark_in : List ObjectMark → ℕ → ObjectMark
mark_in ms i = get_or ms i no_mark

-- the right mark of a cell
abbrev pub right_mark : ArityTable → List Object → ℕ → ObjectMark
right_mark A os x = mark_of_object A (object_at os x)

-- B has all that A has, and the same as A for a name that is not a function name
pub record Extends (A B : ArityTable) : Type 0 where
  pub kept : (f : Name) (n : ℕ) → arity_of A f ≡ Some n → arity_of B f ≡ Some n
  pub words : (f : Name) → is_function_name f ≡ false → arity_of B f ≡ arity_of A f

-- whatever names come, the object does not pass the test
abbrev pub NeverPasses : ArityTable → Object → Test → Type 0
NeverPasses A o k = (B : ArityTable) → Extends A B → passes B o k ≡ false

-- whatever names come, the object passes no other test than now
abbrev pub Lasts : ArityTable → Object → Type 0
Lasts A o = (k : Test) → passes A o k ≡ false → NeverPasses A o k

-- x is one of them
abbrev pub IsOneOf : List ℕ → ℕ → Type 0
IsOneOf [] x = ⊥
IsOneOf (y ∷ ys) x = (x ≡ y) ⊎ IsOneOf ys x

-- Why cell x does not pass a test: whatever names come, it never does; or it does not while the symbol at s has no arity; or it does not
-- while an older cell does not pass a test of its own, which the mark of that cell denies. What the last two look at is noted with x.
pub data Reason (A : ArityTable) (os : List Object) (mark : ℕ → ObjectMark) (noted : ℕ → ℕ → Type 0) (x : ℕ) (k : Test) : Type 0 where
  never : NeverPasses A (object_at os x) k → Reason A os mark noted x k
  by_name : (s : ℕ) (f : Name) → s < x → object_at os s ≡ Symbol f → arity_of A f ≡ None → ((B : ArityTable) → Extends A B → arity_of B f ≡ None → passes B (object_at os x) k ≡ false) → noted s x → Reason A os mark noted x k
  by_part : (w : ℕ) (j : Test) → w < x → says (mark w) j ≡ false → ((B : ArityTable) → Extends A B → passes B (object_at os w) j ≡ false → passes B (object_at os x) k ≡ false) → noted w x → Reason A os mark noted x k

-- The state between two steps, of the first n cells: what a mark says is so, and each test that it denies has its reason, but for the cells
-- that wait to be marked anew.
pub record AreExplained (A : ArityTable) (os : List Object) (n : ℕ) (mark : ℕ → ObjectMark) (noted : ℕ → ℕ → Type 0) (waits : ℕ → Type 0) : Type 0 where
  pub within : n ≤ length os
  pub are_true : (x : ℕ) (k : Test) → x < n → says (mark x) k ≡ true → passes A (object_at os x) k ≡ true
  pub explained : (x : ℕ) (k : Test) → x < n → (waits x → ⊥) → says (mark x) k ≡ false → Reason A os mark noted x k

-- the cells for which this is true deny for ever what their marks deny
abbrev pub AreLasting : ArityTable → List Object → (ℕ → ObjectMark) → List Bool → Type 0
AreLasting A os mark lasting = (x : ℕ) (k : Test) → get_or lasting x false ≡ true → says (mark x) k ≡ false → NeverPasses A (object_at os x) k

module _ {A : Type 0} where
  abbrev pub items_of : Option (Vec ℕ A) → List ℕ
  items_of None = []
  items_of (Some v) = v.items

  -- the cells that are noted with a part
  abbrev pub cells_noted : List (ℕ × Vec ℕ A) → ℕ → List ℕ
  cells_noted es w = items_of (lookup (nat_eq w) es)

  abbrev pub IsNoted : List (ℕ × Vec ℕ A) → ℕ → ℕ → Type 0
  IsNoted es w x = IsOneOf (cells_noted es w) x

  -- what was noted still is
  abbrev pub KeepsNotes : List (ℕ × Vec ℕ A) → List (ℕ × Vec ℕ A) → Type 0
  KeepsNotes old new = (w x : ℕ) → IsNoted old w x → IsNoted new w x

-- x is noted with a part where `lasts` is false
abbrev pub IsNotedUnless : {A : Type 0} → Bool → List (ℕ × Vec ℕ A) → ℕ → ℕ → Type 0
IsNotedUnless lasts es x w = (lasts ≡ false) × IsNoted es w x

abbrev pub IsLastingIn : List Bool → ℕ → Type 0
IsLastingIn lasting w = get_or lasting w false ≡ true

-- whether what an object with this head and this mark is may depend on the first two members of its rest
abbrev pub begins_formula : Object → Bool
begins_formula h = same_object h (symbol "PEQUAL*") || (same_object h (symbol "PNOT*") || same_object h (symbol "POR*"))

abbrev pub looks_at_members : Object → ObjectMark → Bool
looks_at_members h m = (begins_formula h && not m.is_formula) || (same_object h (symbol "LAMBDA") && not m.is_head)

-- the first two members of a rest
abbrev pub IsEarly : Object → Object → Type 0
IsEarly o (Natural n) = ⊥
IsEarly o (Symbol s) = ⊥
IsEarly o (Pair p (Natural n)) = o ≡ p
IsEarly o (Pair p (Symbol s)) = o ≡ p
IsEarly o (Pair p (Pair q z)) = (o ≡ p) ⊎ (o ≡ q)

-- The parts of the pair x that may make it pass a test are watched: its rest, or, where that is a list of terms, its first part; its head, where
-- that is a name that has no arity; and the first two members of its rest, where it may be a formula or a head by them.
pub record IsPartWatched (A : ArityTable) (os : List Object) (lasting noted : ℕ → Type 0) (first rest : ℕ) : Type 0 where
  pub on_rest : passes A (object_at os rest) as_terms ≡ false → lasting rest ⊎ noted rest
  pub on_first : passes A (object_at os rest) as_terms ≡ true → is_symbol (object_at os first) ≡ false → lasting first ⊎ noted first
  pub on_name : passes A (object_at os rest) as_terms ≡ true → (f : Name) → object_at os first ≡ Symbol f → is_function_name f ≡ true → arity_of A f ≡ None → noted first

abbrev pub AreMembersWatched : ArityTable → List Object → (ℕ → Type 0) → (ℕ → Type 0) → ℕ → ℕ → ℕ → Type 0
AreMembersWatched A os lasting noted x first rest = looks_at_members (object_at os first) (right_mark A os x) ≡ true → (w : ℕ) → w < x → IsEarly (object_at os w) (object_at os rest) → lasting w ⊎ noted w
