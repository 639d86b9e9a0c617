-- What is kept of a theory, and the theory that is meant.
use Rattle.std.specs.Prelude.{◌≡◌, ℕ, suc, ◌≤◌, true, Bool, List, [], ◌∷◌, length, take, Option, Some, None, All, IfSome}
use Rattle.mw_model.specs.Terms.Object.{Name, Object, Pair, Member}
use Rattle.mw_model.specs.Terms.Term.{formula_object, table_object}
use Rattle.mw_model.specs.Values.Primitive.{Profile, is_symbol, name_of}
use Rattle.mw_model.specs.Values.Definition.{Definitions, definitions, arity_table}
use Rattle.mw_model.specs.Proofs.Axioms.{axiom_1, axiom_2}
use Rattle.mw_model.specs.Events.Theory.{Theory, IsSound}
use Rattle.mw_model.specs.Events.Fate.{is_initial}
use Rattle.mw_heap.specs.Objects.{object_at, IsIn}
use Rattle.mw_heap.specs.Variants.{profile_of}
use Rattle.mw_term.specs.Marking.{ObjectMark, AreMarks}
use Rattle.mw_term.specs.Settling.{IsWatch}
use Rattle.mw_heap.specs.Lists.{list_object}
use Rattle.mw_code.specs.Tables.{StandsFor}
use Rattle.mw_preamble.specs.declared.definition.Definition.{Definition}
use Rattle.mw_preamble.specs.Entries.{AreEntries}
use Rattle.mw_theory.specs.Entered.{blocks_read}
use Rattle.mw_theory.specs.declared.theory.Theory.{Theory as Kept}

-- What a theory is read from: its profile, the lists of its axioms, its theorems and its arities by their references, the entries of its
-- definitions, the name of its checker where that is not the built-in one, and its level.
pub record Parts : Type 0 where
  pub profile : Profile
  pub axioms : ℕ
  pub theorems : ℕ
  pub arity_list : ℕ
  pub entries : List (List Definition)
  pub checker : Option ℕ
  pub level : ℕ

abbrev pub parts_of : Kept → Parts
parts_of t = record { profile = profile_of t.profile; axioms = t.axioms; theorems = t.theorems; arity_list = t.arity_list; entries = t.entries; checker = t.checker; level = t.level }

-- the definitions are read from the entries
abbrev pub definitions_of : List Object → Parts → Definitions
definitions_of os p = definitions p.profile (blocks_read os p.entries)

abbrev pub name_read : List Object → Option ℕ → Option Name
name_read os None = None
name_read os (Some r) = Some (name_of (object_at os r))

-- the theory that these objects make of the parts
abbrev pub theory_with : Object → Object → Definitions → Option Name → ℕ → Theory
theory_with axioms theorems D checker level = record { axioms = axioms; theorems = theorems; definitions = D; checker = checker; level = level }

abbrev pub meant : List Object → Parts → Theory
meant os p = theory_with (object_at os p.axioms) (object_at os p.theorems) (definitions_of os p) (name_read os p.checker) p.level

-- the theory with one theorem more
abbrev pub with_theorem : Theory → Object → Theory
with_theorem t x = record t { theorems = Pair x t.theorems }

-- the theory with the function of this name as its checker, at the next level
abbrev pub with_checker : Theory → Name → Theory
with_checker t f = record t { checker = Some f; level = suc t.level }

-- these objects in front of a list, the last one foremost
abbrev pub put_all : List Object → Object → Object
put_all [] list = list
put_all (x ∷ xs) list = put_all xs (Pair x list)

-- It is long: a proof opens it by name alone.
unfoldable pub is_first : Theory → Bool
is_first t = is_initial t

abbrev pub IsNameIn : List Object → ℕ → Type 0
IsNameIn os r = IsIn os r × (is_symbol (object_at os r) ≡ true)

-- the first two axioms of the primitives, of equality, are members of the list
pub record HasEquality (axioms : Object) : Type 0 where
  pub first : Member (formula_object axiom_1) axioms
  pub second : Member (formula_object axiom_2) axioms

-- Over these objects all that is kept of a theory is right: the sets of known formulas, the arity table, the entries and the code are those
-- of the theory, which is sound and has the axioms of equality.
pub record IsHeld (os : List Object) (t : Kept) : Type 0 where
  pub axioms_in : IsIn os t.axioms
  pub theorems_in : IsIn os t.theorems
  pub arity_list_in : IsIn os t.arity_list
  pub each_axiom_in : All (IsIn os) t.known_axioms
  pub each_theorem_in : All (IsIn os) t.known_theorems
  pub axioms_known : list_object os t.known_axioms ≡ object_at os t.axioms
  pub theorems_known : list_object os t.known_theorems ≡ object_at os t.theorems
  pub equality : HasEquality (object_at os t.axioms)
  pub arities : t.arity ≡ arity_table (definitions_of os (parts_of t))
  pub arities_listed : object_at os t.arity_list ≡ table_object t.arity
  pub entered : AreEntries os t.entries (definitions_of os (parts_of t)).blocks
  pub coded : StandsFor os t.table.value (definitions_of os (parts_of t))
  pub named : IfSome t.checker (IsNameIn os)
  pub first : t.is_initial ≡ is_first (meant os (parts_of t))
  pub sound : IsSound (meant os (parts_of t))

-- The objects that the theory needs come first, and all that is kept of it is right over them. The marks are under its arity table, and of
-- those that it needs is noted what a new name could make other terms and formulas of.
pub record IsWorldOf (os : List Object) (needed : ℕ) (t : Kept) (marks : List ObjectMark) : Type 0 where
  pub kept : needed ≤ length os
  pub held : IsHeld (take needed os) t
  pub marked : AreMarks t.arity os marks
  pub watched : IsWatch t.arity (take needed os) t.watch
