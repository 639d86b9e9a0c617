-- Drafts by references: what their names, formals, bodies and measures read as, and the functions that expanded ones give.
use Rattle.std.specs.Prelude.{◌≡◌, ℕ, Bool, true, ◌&&◌, not, List, [], ◌∷◌, ◌⊎◌, length, map, Option, Some, None}
use Rattle.mw_model.specs.Terms.Object.{Name, Object}
use Rattle.mw_model.specs.Terms.Term.{Term, ArityTable, formula_object, are_distinct, is_among, is_closed}
use Rattle.mw_model.specs.Terms.Reading.{term_of}
use Rattle.mw_model.specs.Values.Primitive.{is_symbol, name_of}
use Rattle.mw_model.specs.Values.Definition.{Function, is_new, function_axiom}
use Rattle.mw_model.specs.Events.Obligation.{Measures}
use Rattle.mw_model.specs.Events.Expansion.{expand}
use Rattle.mw_model.specs.Events.Admission.{Draft, all_of, new_name, formals_of}
use Rattle.mw_heap.specs.Objects.{object_at, IsIn}
use Rattle.mw_term.specs.Parts.{names_at, AreSymbols}
use Rattle.mw_define.specs.declared.draft.Draft.{Draft as Given}
use Rattle.mw_define.specs.declared.admitted.Entry.{Entry}
use Rattle.mw_define.specs.Collecting.{the_term}
use Rattle.mw_define.specs.Tests.{IsEntry}

-- the draft of four references
abbrev pub draft_at : List Object → Given → Draft
draft_at os d = record { name = object_at os d.name; formals = object_at os d.formals; body = object_at os d.body; measure = object_at os d.measure }

abbrev pub IsDraftIn : List Object → Given → Type 0
IsDraftIn os d = IsIn os d.name × IsIn os d.formals × IsIn os d.body × IsIn os d.measure

abbrev pub AreDraftsIn : List Object → List Given → Type 0
AreDraftsIn os [] = Unit {0}
AreDraftsIn os (d ∷ ds) = IsDraftIn os d × AreDraftsIn os ds

-- what is read of each
abbrev pub names_of_drafts : ArityTable → List Object → List Given → Option (List Name)
names_of_drafts A os ds = all_of (λ d. new_name A (object_at os d.name)) ds

abbrev pub formals_of_drafts : List Object → List Given → Option (List (List Name))
formals_of_drafts os ds = all_of (λ d. formals_of (object_at os d.formals)) ds

abbrev pub bodies_of_drafts : ArityTable → List Object → List Given → Option (List Term)
bodies_of_drafts A os ds = all_of (λ d. expand A (object_at os d.body)) ds

abbrev pub measures_of_drafts : ArityTable → List Object → List Given → Option (List Term)
measures_of_drafts A os ds = all_of (λ d. expand A (object_at os d.measure)) ds

abbrev pub draft_names : List Given → List ℕ
draft_names ds = map (λ d. d.name) ds

-- the names with how many formals they have
abbrev pub pairs_of : List Given → List (List Name) → List (ℕ × ℕ)
pairs_of [] xss = []
pairs_of (d ∷ ds) [] = []
pairs_of (d ∷ ds) (xs ∷ xss) = (d.name, length xs) ∷ pairs_of ds xss

-- a draft with an expanded body and measure, as a function
abbrev pub the_formals : Option (List Name) → List Name
the_formals None = []
the_formals (Some xs) = xs

abbrev pub function_at : List Object → Given → Function
function_at os e = record { name = name_of (object_at os e.name); formals = the_formals (formals_of (object_at os e.formals)); body = the_term (term_of (object_at os e.body)) }

abbrev pub measure_at : List Object → Given → Term
measure_at os e = the_term (term_of (object_at os e.measure))

abbrev pub functions_at : List Object → List Given → List Function
functions_at os [] = []
functions_at os (e ∷ es) = function_at os e ∷ functions_at os es

abbrev pub measures_at : List Object → List Given → Measures
measures_at os [] = []
measures_at os (e ∷ es) = (name_of (object_at os e.name), measure_at os e) ∷ measures_at os es

-- each part can be read
pub record IsExpanded (os : List Object) (e : Given) : Type 0 where
  pub within : IsDraftIn os e
  pub symbol : is_symbol (object_at os e.name) ≡ true
  pub formals : formals_of (object_at os e.formals) ≡ Some (the_formals (formals_of (object_at os e.formals)))
  pub body : term_of (object_at os e.body) ≡ Some (the_term (term_of (object_at os e.body)))
  pub measure : term_of (object_at os e.measure) ≡ Some (the_term (term_of (object_at os e.measure)))

abbrev pub AreExpanded : List Object → List Given → Type 0
AreExpanded os [] = Unit {0}
AreExpanded os (e ∷ es) = IsExpanded os e × AreExpanded os es

-- the bodies and the measures have no variables but the formals
abbrev pub are_closed_at : List Object → List Given → Bool
are_closed_at os [] = true
are_closed_at os (e ∷ es) =
    is_closed (function_at os e).formals (function_at os e).body && (is_closed (function_at os e).formals (measure_at os e) && are_closed_at os es)

-- two lists, member by member
abbrev pub Each2 : {X Y : Type 0} → (X → Y → Type 0) → List X → List Y → Type 0
Each2 R [] [] = Unit {0}
Each2 R (x ∷ xs) (y ∷ ys) = R x y × Each2 R xs ys
Each2 R [] (y ∷ ys) = ⊥
Each2 R (x ∷ xs) [] = ⊥

-- x is a new name that is not among these
abbrev pub is_next_name : ArityTable → List Name → Object → Bool
is_next_name A fs x = (is_symbol x && is_new A (name_of x)) && not (is_among (name_of x) fs)

-- the names, each new and none twice
pub record AreNames (A : ArityTable) (os : List Object) (ds : List Given) (rs : List ℕ) : Type 0 where
  pub symbols : AreSymbols os rs
  pub refs : rs ≡ draft_names ds
  pub names : names_of_drafts A os ds ≡ Some (names_at os rs)
  pub distinct : are_distinct (names_at os rs) ≡ true

-- a name with how many formals it has
abbrev pub IsCounted : List Object → Given → ℕ × ℕ → Type 0
IsCounted os d p = (xs : List Name) × (formals_of (object_at os d.formals) ≡ Some xs) × (p ≡ (d.name, length xs))

-- r is the expansion of x
pub record IsExpansion (A : ArityTable) (os : List Object) (x : Object) (r : ℕ) : Type 0 where
  pub term : Term
  pub within : IsIn os r
  pub expands : expand A x ≡ Some term
  pub read : term_of (object_at os r) ≡ Some term

-- the draft with its body and its measure expanded
pub record Expands (N A : ArityTable) (old new : List Object) (d e : Given) : Type 0 where
  pub name : e.name ≡ d.name
  pub formals : e.formals ≡ d.formals
  pub body : IsExpansion N new (object_at old d.body) e.body
  pub measure : IsExpansion A new (object_at old d.measure) e.measure

abbrev pub ExpandsNone : ArityTable → ArityTable → List Object → Given → Type 0
ExpandsNone N A os d = (expand N (object_at os d.body) ≡ None) ⊎ (expand A (object_at os d.measure) ≡ None)

-- some body or measure does not expand
abbrev pub HasNoTerm : ArityTable → ArityTable → List Object → List Given → Type 0
HasNoTerm N A os ds = (bodies_of_drafts N os ds ≡ None) ⊎ (measures_of_drafts A os ds ≡ None)

-- the entry of a function whose body and measure are closed
abbrev pub is_closed_at : List Object → Given → Bool
is_closed_at os e = is_closed (function_at os e).formals (function_at os e).body && is_closed (function_at os e).formals (measure_at os e)

abbrev pub IsEntryOf : List Object → Given → Entry → Type 0
IsEntryOf os e entry = IsEntry os entry e.name (function_at os e).formals (function_at os e).body

abbrev pub IsClosedEntry : List Object → Given → Entry → Type 0
IsClosedEntry os e entry = (is_closed_at os e ≡ true) × IsEntryOf os e entry

-- the axiom of a function
abbrev pub IsAxiomOf : List Object → List Object → Given → ℕ → Type 0
IsAxiomOf old new e r = IsIn new r × (object_at new r ≡ formula_object (function_axiom (function_at old e)))
