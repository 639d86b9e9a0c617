-- Which definitions the entries of a theory mean.
use Rattle.std.specs.Prelude.{◌≡◌, ℕ, List, [], ◌∷◌, ◌++◌}
use Rattle.mw_model.specs.Terms.Object.{Name, Object, Symbol}
use Rattle.mw_model.specs.Terms.Term.{Term, names_object, term_object}
use Rattle.mw_model.specs.Values.Definition.{Function as Defined, Block, Functions, Choice}
use Rattle.mw_heap.specs.Objects.{object_at, IsIn}
use Rattle.mw_preamble.specs.declared.definition.Definition.{Definition}
use Rattle.mw_preamble.specs.declared.definition.Definition.TheVariants.{Function, Witness}

-- the name, the formals and the body of a function
pub record IsFunction (os : List Object) (name formals body : ℕ) (h : Defined) : Type 0 where
  pub name_in : IsIn os name
  pub formals_in : IsIn os formals
  pub body_in : IsIn os body
  pub name_is : object_at os name ≡ Symbol h.name
  pub formals_are : object_at os formals ≡ names_object h.formals
  pub body_is : object_at os body ≡ term_object h.body

-- the name, the bound variable, the free variables and the body of a witness
pub record IsWitness (os : List Object) (name bound free body : ℕ) (g y : Name) (xs : List Name) (b : Term) : Type 0 where
  pub name_in : IsIn os name
  pub bound_in : IsIn os bound
  pub free_in : IsIn os free
  pub body_in : IsIn os body
  pub name_is : object_at os name ≡ Symbol g
  pub bound_is : object_at os bound ≡ Symbol y
  pub free_are : object_at os free ≡ names_object xs
  pub body_is : object_at os body ≡ term_object b

-- the functions, in order
abbrev pub AreFunctions : List Object → List Definition → List Defined → Type 0
AreFunctions os [] [] = Unit {0}
AreFunctions os (Function name formals body ∷ ds) (h ∷ B) = IsFunction os name formals body h × AreFunctions os ds B
AreFunctions os _ _ = ⊥

-- the definitions of a block
abbrev pub IsBlock : List Object → List Definition → Block → Type 0
IsBlock os ds (Functions B) = AreFunctions os ds B
IsBlock os (Witness name bound free body ∷ []) (Choice g y xs b) = IsWitness os name bound free body g y xs b
IsBlock os _ (Choice g y xs b) = ⊥

-- Those of all blocks. The blocks stand newest first, and the entries oldest first.
abbrev pub AreEntries : List Object → List (List Definition) → List Block → Type 0
AreEntries os es [] = es ≡ []
AreEntries os es (B ∷ D) = (older : List (List Definition)) × (ds : List Definition) × (es ≡ older ++ ds ∷ []) × IsBlock os ds B × AreEntries os older D
