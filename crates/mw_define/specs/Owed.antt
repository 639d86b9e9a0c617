-- What a block owes, as references to its formulas.
use Rattle.std.specs.Prelude.{◌≡◌, ℕ, Bool, true, false, ltb, List, [], ◌∷◌, ◌++◌, ◌⊎◌, length, map, Option, Some, None}
use Rattle.mw_model.specs.Terms.Object.{Object, NIL}
use Rattle.mw_model.specs.Terms.Term.{Formula, formula_object, firsts, are_distinct}
use Rattle.mw_model.specs.Terms.Same.{same_formula}
use Rattle.mw_model.specs.Terms.Reading.{formula_of}
use Rattle.mw_model.specs.Values.Primitive.{name_of}
use Rattle.mw_model.specs.Values.Definition.{function_named}
use Rattle.mw_model.specs.Events.Obligation.{RecursiveCall, recursive_calls, obligation, ordinal_formula, measure_of, is_empty, some_nested, is_nested, calls_none, owed, obligations}
use Rattle.mw_model.specs.Laws.RulesInduction.{formulas_object}
use Rattle.mw_heap.specs.Objects.{object_at, IsIn}
use Rattle.mw_term.specs.Parts.{names_at, AreSymbols}
use Rattle.mw_translate.specs.Lets.{prepend, AreAllIn}
use Rattle.mw_define.specs.declared.draft.Draft.{Draft as Given}
use Rattle.mw_define.specs.declared.recursion.Recursion.{Recursion}
use Rattle.mw_define.specs.declared.recursion.Recursion.TheVariants as recursion
use Rattle.mw_define.specs.declared.listed.Listed.{Listed}
use Rattle.mw_define.specs.declared.listed.Listed.TheVariants as listed
use Rattle.mw_define.specs.declared.obligations.Obligations.{Obligations}
use Rattle.mw_define.specs.Blocks.{functions_at, measures_at, function_at, measure_at, draft_names, AreExpanded, IsExpanded}

-- formulas that are read back from their objects
abbrev pub IsReadBack : Formula → Type 0
IsReadBack F = formula_of (formula_object F) ≡ Some F

abbrev pub AreReadBack : List Formula → Type 0
AreReadBack [] = Unit {0}
AreReadBack (F ∷ Fs) = IsReadBack F × AreReadBack Fs

-- the formulas, each once, in the order in which they first came
pub record AreFirsts (os : List Object) (rs : List ℕ) (Fs : List Formula) : Type 0 where
  pub read : AreReadBack Fs
  pub within : AreAllIn os rs
  pub formulas : map (object_at os) rs ≡ map formula_object (firsts same_formula Fs)

-- n is more than a bound, where there is one
abbrev pub is_past : Option ℕ → ℕ → Bool
is_past None n = false
is_past (Some most) n = ltb most n

-- more formulas are distinct, and more references are kept, than may be owed
pub record AreTooMany (o : Obligations) (Fs : List Formula) : Type 0 where
  pub kept : is_past o.most (length o.formulas.keys) ≡ true
  pub distinct : is_past o.most (length (firsts same_formula Fs)) ≡ true

-- all of the formulas are kept, or too many of them
abbrev pub AreOwed : List Object → Obligations → List Formula → Type 0
AreOwed os o Fs = AreFirsts os o.formulas.keys Fs ⊎ AreTooMany o Fs

-- more formulas came, and as many may be owed
pub record Adds (old new : List Object) (o more : Obligations) (Gs : List Formula) : Type 0 where
  pub most : more.most ≡ o.most
  pub owed : (Fs : List Formula) → AreOwed old o Fs → AreOwed new more (Fs ++ Gs)

-- expanded drafts with the references to their names, of which none comes twice
pub record AreBlock (os : List Object) (rs : List ℕ) (es : List Given) : Type 0 where
  pub expanded : AreExpanded os es
  pub symbols : AreSymbols os rs
  pub refs : rs ≡ draft_names es
  pub distinct : are_distinct (names_at os rs) ≡ true

-- e is the function of this name
pub record IsNamed (os : List Object) (es : List Given) (name : ℕ) (e : Given) : Type 0 where
  pub same : e.name ≡ name
  pub expanded : IsExpanded os e
  pub function : function_named (functions_at os es) (name_of (object_at os name)) ≡ Some (function_at os e)
  pub measure : measure_of (measures_at os es) (name_of (object_at os name)) ≡ measure_at os e

-- what a function owes at some of its calls
abbrev pub owed_at : List Object → List Given → Given → List RecursiveCall → List Formula
owed_at os es e calls = map (obligation (functions_at os es) (measures_at os es) (function_at os e)) calls

abbrev pub calls_of : List Object → List Given → Given → List RecursiveCall
calls_of os es e = recursive_calls (functions_at os es) (function_at os e)

-- what one function owes was added, and whether it has no recursive calls
pub record OwesBy (old new : List Object) (es : List Given) (e : Given) (o more : Obligations) (none : Bool) : Type 0 where
  pub flat : some_nested (functions_at old es) (calls_of old es e) ≡ false
  pub empty : is_empty (calls_of old es e) ≡ none
  pub adds : Adds old new o more (ordinal_formula (measure_of (measures_at old es) (name_of (object_at old e.name))) ∷ owed_at old es e (calls_of old es e))

abbrev pub OwesOne : List Object → List Object → List Given → Given → Obligations → Obligations → Recursion → Type 0
OwesOne old new es e o more recursion.Nested = some_nested (functions_at old es) (calls_of old es e) ≡ true
OwesOne old new es e o more recursion.Absent = OwesBy old new es e o more true
OwesOne old new es e o more recursion.Present = OwesBy old new es e o more false

-- what functions come to with one more
abbrev pub joined : Recursion → Recursion → Recursion
joined r recursion.Absent = r
joined r recursion.Present = recursion.Present
joined r recursion.Nested = recursion.Nested

-- what these functions of the block owe was added, and whether they have no recursive calls
pub record OwesEach (old new : List Object) (es some : List Given) (o more : Obligations) (none : Bool) : Type 0 where
  pub flat : is_nested (functions_at old es) (functions_at old some) ≡ false
  pub empty : calls_none (functions_at old es) (functions_at old some) ≡ none
  pub adds : Adds old new o more (owed (functions_at old es) (measures_at old es) (functions_at old some))

abbrev pub OwesAll : List Object → List Object → List Given → Obligations → Obligations → Recursion → Type 0
OwesAll old new es o more recursion.Nested = is_nested (functions_at old es) (functions_at old es) ≡ true
OwesAll old new es o more recursion.Absent = OwesEach old new es es o more true
OwesAll old new es o more recursion.Present = OwesEach old new es es o more false

-- a list of formulas
abbrev pub HasFormulas : (ℕ → Type 0) → Listed → Type 0
HasFormulas P listed.Nested = ⊥
HasFormulas P listed.TooMany = ⊥
HasFormulas P (listed.Formulas r) = P r

-- no list where they are too many, or else that of the formulas
abbrev pub IsListedUnless : Bool → List Object → List Object → List ℕ → Listed → Type 0
IsListedUnless true old new rs l = l ≡ listed.TooMany
IsListedUnless false old new rs l = HasFormulas (λ r. IsIn new r × (object_at new r ≡ prepend old rs NIL)) l

-- no list where calls are nested, NIL where there are none, or the list of the formulas
abbrev pub IsListed : List Object → List Object → Recursion → Obligations → Listed → Type 0
IsListed old new recursion.Nested o l = l ≡ listed.Nested
IsListed old new recursion.Absent o l = HasFormulas (λ r. IsIn new r × (object_at new r ≡ NIL)) l
IsListed old new recursion.Present o l = IsListedUnless (is_past o.most (length o.formulas.keys)) old new o.formulas.keys l

-- how many obligations a block has
abbrev pub obligation_count : List Object → List Given → ℕ
obligation_count os es = length (obligations (functions_at os es) (measures_at os es))

-- the list of the obligations, which are no more than may be owed
pub record IsOwedList (old new : List Object) (es : List Given) (most : Option ℕ) (r : ℕ) : Type 0 where
  pub flat : is_nested (functions_at old es) (functions_at old es) ≡ false
  pub few : is_past most (obligation_count old es) ≡ false
  pub within : IsIn new r
  pub obligations : object_at new r ≡ formulas_object (obligations (functions_at old es) (measures_at old es))

-- calls are nested, or more is owed than may be, or there is the list of the obligations
abbrev pub IsOwing : List Object → List Object → List Given → Option ℕ → Listed → Type 0
IsOwing old new es most listed.Nested = is_nested (functions_at old es) (functions_at old es) ≡ true
IsOwing old new es most listed.TooMany = (is_nested (functions_at old es) (functions_at old es) ≡ false) × (is_past most (obligation_count old es) ≡ true)
IsOwing old new es most (listed.Formulas r) = IsOwedList old new es most r
