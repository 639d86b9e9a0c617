-- What is shown of drafts.
use Rattle.std.specs.Prelude.{◌≡◌, ℕ, Bool, true, false, List, [], ◌∷◌, map, Option, Some, None}
use Rattle.mw_model.specs.Terms.Object.{Name, Object, Natural}
use Rattle.mw_model.specs.Terms.Term.{Term, ArityTable}
use Rattle.mw_model.specs.Terms.Reading.{term_of}
use Rattle.mw_model.specs.Events.Admission.{Draft, add_names}
use Rattle.mw_heap.specs.Objects.{object_at, IsIn}
use Rattle.mw_term.specs.Parts.{names_at}
use Rattle.mw_define.specs.declared.draft.Draft.{Draft as Given}
use Rattle.mw_define.specs.Blocks.{draft_at}
use Rattle.mw_commands.specs.Commands.Explanation.{bad_name, names_in, formals_in}
use Rattle.mw_commands.specs.Commands.ExplanationTerms.{arity_shown}
use Rattle.mw_explain.specs.declared.draft_name.BadName.{BadName}

-- the first name that is refused, with the number of its draft
abbrev pub IsBadName : ArityTable → List Object → List Given → Option BadName → Type 0
IsBadName A os ds None = bad_name A [] 1 (map (draft_at os) ds) ≡ []
IsBadName A os ds (Some b) = IsIn os b.name × (bad_name A [] 1 (map (draft_at os) ds) ≡ Natural b.number ∷ object_at os b.name ∷ arity_shown A (object_at os b.name))

-- the arities under which the bodies of definitions stand: recursive functions have theirs in front of the table
abbrev pub bodies_under : Bool → ArityTable → List Draft → ArityTable
bodies_under true A ds = add_names (names_in A ds) (formals_in ds) A
bodies_under false A ds = A

-- what was expanded, where it is a term
abbrev pub IsExpandedTo : List Object → Option Term → Option ℕ → Type 0
IsExpandedTo os None None = Unit {0}
IsExpandedTo os (Some t) (Some r) = IsIn os r × (term_of (object_at os r) ≡ Some t)
IsExpandedTo os _ _ = ⊥

-- the names of formals, where there are any
abbrev pub formals_at : List Object → Option (List ℕ) → List Name
formals_at os None = []
formals_at os (Some rs) = names_at os rs
