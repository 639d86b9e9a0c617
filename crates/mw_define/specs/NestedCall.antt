-- The first call of a block in whose actuals the block is called.
use Rattle.std.specs.Prelude.{◌≡◌, ℕ, suc, Bool, true, ◌&&◌, List, [], ◌∷◌, map, Option, Some, None, is_some, unwrap_or, find}
use Rattle.mw_model.specs.Terms.Object.{Name, Object, Symbol, NIL}
use Rattle.mw_model.specs.Terms.Term.{ArityTable, terms_object}
use Rattle.mw_model.specs.Values.Definition.{Function}
use Rattle.mw_model.specs.Events.Obligation.{RecursiveCall, any_mentions, recursive_calls}
use Rattle.mw_model.specs.Events.Expansion.{expand}
use Rattle.mw_model.specs.Events.Admission.{Draft, all_of, add_names, functions}
use Rattle.mw_heap.specs.Objects.{object_at, IsIn}
use Rattle.mw_define.specs.declared.draft.Draft.{Draft as Given}
use Rattle.mw_define.specs.BlockTests.{the_names, the_formal_lists}
use Rattle.mw_define.specs.declared.item.FoundCall.{FoundCall}
use Rattle.mw_define.specs.declared.nested_call.NestedCall.{NestedCall as Nested}

-- a call of the block has one among its actuals
abbrev pub nests : List Function → RecursiveCall → Bool
nests B r = any_mentions B r.actuals

-- the first such call of functions of the block, and the number of the function whose body has it
abbrev pub numbered : ℕ → Option RecursiveCall → Option (ℕ × RecursiveCall) → Option (ℕ × RecursiveCall)
numbered k None others = others
numbered k (Some r) others = Some (k, r)

abbrev pub first_nested : List Function → ℕ → List Function → Option (ℕ × RecursiveCall)
first_nested B k [] = None
first_nested B k (h ∷ hs) = numbered k (find (nests B) (recursive_calls B h)) (first_nested B (suc k) hs)

-- the name and the actuals of the call r
pub record IsCallOf (os : List Object) (name actuals : ℕ) (r : RecursiveCall) : Type 0 where
  pub name_in : IsIn os name
  pub name_is : object_at os name ≡ Symbol r.function.name
  pub actuals_in : IsIn os actuals
  pub actuals_are : object_at os actuals ≡ terms_object r.actuals

abbrev pub IsFirstFound : List Function → List Object → List RecursiveCall → Option FoundCall → Type 0
IsFirstFound B os rs None = find (nests B) rs ≡ None
IsFirstFound B os rs (Some f) = (r : RecursiveCall) × (find (nests B) rs ≡ Some r) × IsCallOf os f.name f.actuals r

abbrev pub IsFirstNested : List Function → List Object → Option Nested → Type 0
IsFirstNested B os None = first_nested B 1 B ≡ None
IsFirstNested B os (Some c) = (r : RecursiveCall) × (first_nested B 1 B ≡ Some (c.number, r)) × IsCallOf os c.name c.actuals r

-- where the names are new and none comes twice, and each has a list of formals: the first nested call of the functions
abbrev pub the_functions : ArityTable → List Draft → List Name → List (List Name) → List Function
the_functions A ds fs xss = functions fs xss (unwrap_or (all_of (expand (add_names fs xss A)) (map (λ d. d.body) ds)) [])

abbrev pub IsNestedFrom : ArityTable → List Draft → List Object → Option Nested → Type 0
IsNestedFrom A ds os o = (fs : List Name) (xss : List (List Name)) → the_names A ds ≡ Some fs → the_formal_lists A ds ≡ Some xss → IsFirstNested (the_functions A ds fs xss) os o

-- each measure expands to a term
abbrev pub measures_expand : ArityTable → List Object → List Given → Bool
measures_expand A os [] = true
measures_expand A os (d ∷ ds) = is_some (expand A (object_at os d.measure)) && measures_expand A os ds

-- the drafts with NIL for their measures
abbrev pub with_measure : ℕ → Given → Given
with_measure nil d = record { name = d.name; formals = d.formals; body = d.body; measure = nil }

pub record HaveNoMeasures (os : List Object) (ds es : List Given) : Type 0 where
  pub nil : ℕ
  pub nil_in : IsIn os nil
  pub nil_is : object_at os nil ≡ NIL
  pub are : es ≡ map (with_measure nil) ds
