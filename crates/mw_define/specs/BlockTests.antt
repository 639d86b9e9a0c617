-- The tests of a block of functions, in their order, and what is handed back where they pass.
use Rattle.std.specs.Prelude.{◌≡◌, ℕ, ◌<◌, ◌≤◌, true, false, List, length, map, Option, Some, None}
use Rattle.mw_model.specs.Terms.Object.{Name, Object, Symbol}
use Rattle.mw_model.specs.Terms.Term.{Term, ArityTable, names_object, term_object}
use Rattle.std.specs.Option.{option_zip}
use Rattle.mw_model.specs.Values.Definition.{Function, function_axiom}
use Rattle.mw_model.specs.Events.Obligation.{obligations, is_nested}
use Rattle.mw_model.specs.Events.Expansion.{expand}
use Rattle.mw_model.specs.Events.Refusal.{Refusal, EVENT, NAME, FORMALS, TERM, VARIABLES, NESTED, COUNT}
use Rattle.mw_model.specs.Laws.RulesInduction.{formulas_object}
use Rattle.mw_model.specs.Events.Admission.{Draft, all_of, new_names, formals_of, add_names, functions, measures, are_closed_by}
use Rattle.mw_heap.specs.Objects.{object_at, IsIn}
use Rattle.mw_heap.specs.Variants.{refusal_of}
use Rattle.mw_define.specs.declared.admitted.Admitted.{Admitted}
use Rattle.mw_define.specs.declared.admitted.Admitted.TheVariants as admitted
use Rattle.mw_define.specs.declared.admitted.Owed.{Owed}
use Rattle.mw_define.specs.declared.admitted.Entry.{Entry}
use Rattle.mw_define.specs.Blocks.{Each2, functions_at, are_closed_at, IsClosedEntry}
use Rattle.mw_define.specs.Owed.{is_past, obligation_count, IsOwedList}
use Rattle.mw_define.specs.declared.draft.Draft.{Draft as Given}

module _ (A : ArityTable) (ds : List Draft) where
  -- what the drafts read as
  abbrev pub the_names : Option (List Name)
  the_names = new_names A (map (λ d. d.name) ds)

  abbrev pub the_formal_lists : Option (List (List Name))
  the_formal_lists = all_of formals_of (map (λ d. d.formals) ds)

  abbrev pub the_terms_under : List Name → List (List Name) → Option (List Term × List Term)
  the_terms_under fs xss = option_zip (all_of (expand (add_names fs xss A)) (map (λ d. d.body) ds)) (all_of (expand A) (map (λ d. d.measure) ds))

  -- the first test that fails
  pub data FailsBlock : Refusal → Type 0 where
    no_names : the_names ≡ None → FailsBlock NAME
    no_formals : (fs : List Name) → the_names ≡ Some fs → the_formal_lists ≡ None → FailsBlock FORMALS
    no_terms : (fs : List Name) (xss : List (List Name)) → the_names ≡ Some fs → the_formal_lists ≡ Some xss → the_terms_under fs xss ≡ None → FailsBlock TERM
    not_closed : (fs : List Name) (xss : List (List Name)) (bs ms : List Term) → the_names ≡ Some fs → the_formal_lists ≡ Some xss → the_terms_under fs xss ≡ Some (bs, ms) → are_closed_by xss bs ms ≡ false → FailsBlock VARIABLES
    nested : (fs : List Name) (xss : List (List Name)) (bs ms : List Term) → the_names ≡ Some fs → the_formal_lists ≡ Some xss → the_terms_under fs xss ≡ Some (bs, ms) → are_closed_by xss bs ms ≡ true → is_nested (functions fs xss bs) (functions fs xss bs) ≡ true → FailsBlock NESTED

-- an entry of a function: its name, the list of its formals and its body
pub record IsFunctionEntry (os : List Object) (h : Function) (e : Entry) : Type 0 where
  pub name_in : IsIn os e.name
  pub name : object_at os e.name ≡ Symbol h.name
  pub formals_in : IsIn os e.formals
  pub formals : object_at os e.formals ≡ names_object h.formals
  pub body_in : IsIn os e.body
  pub body : object_at os e.body ≡ term_object h.body

-- all of them pass: the obligations in order, each once, the axioms, and the entries
pub record PassesBlock (A : ArityTable) (ds : List Draft) (os : List Object) (owed : Owed) : Type 0 where
  pub names : List Name
  pub formals : List (List Name)
  pub bodies : List Term
  pub measures_of : List Term
  pub are_new : the_names A ds ≡ Some names
  pub are_formals : the_formal_lists A ds ≡ Some formals
  pub expand : the_terms_under A ds names formals ≡ Some (bodies, measures_of)
  pub closed : are_closed_by formals bodies measures_of ≡ true
  pub flat : is_nested (functions names formals bodies) (functions names formals bodies) ≡ false
  pub obligations_in : IsIn os owed.obligations
  pub obligations : object_at os owed.obligations ≡ formulas_object (obligations (functions names formals bodies) (measures names measures_of))
  pub axioms_in : IsIn os owed.axioms
  pub axioms : object_at os owed.axioms ≡ formulas_object (map function_axiom (functions names formals bodies))
  pub entries : Each2 (IsFunctionEntry os) (functions names formals bodies) owed.entries.items

-- n is no more than a bound, where there is one; or it is more
abbrev pub IsWithin : Option ℕ → ℕ → Type 0
IsWithin None n = Unit {0}
IsWithin (Some most) n = n ≤ most

abbrev pub IsPast : Option ℕ → ℕ → Type 0
IsPast None n = ⊥
IsPast (Some most) n = most < n

abbrev pub IsBlock : ArityTable → List Draft → List Object → Admitted → Type 0
IsBlock A ds os (admitted.Obligations owed) = PassesBlock A ds os owed
IsBlock A ds os (admitted.Refused r) = FailsBlock A ds (refusal_of r)
IsBlock A ds os admitted.Memory = Unit {0}

-- all of them pass, and no more is owed than may be
pub record PassesWithin (most : Option ℕ) (A : ArityTable) (ds : List Draft) (os : List Object) (owed : Owed) : Type 0 where
  pub passes : PassesBlock A ds os owed
  pub few : IsWithin most (length (obligations (functions passes.names passes.formals passes.bodies) (measures passes.names passes.measures_of)))

-- the first test that fails, where the last is that no more is owed than may be
pub data FailsWithin (most : Option ℕ) (A : ArityTable) (ds : List Draft) : Refusal → Type 0 where
  fails : (r : Refusal) → FailsBlock A ds r → FailsWithin most A ds r
  too_many : (fs : List Name) (xss : List (List Name)) (bs ms : List Term) → the_names A ds ≡ Some fs → the_formal_lists A ds ≡ Some xss → the_terms_under A ds fs xss ≡ Some (bs, ms) → are_closed_by xss bs ms ≡ true → is_nested (functions fs xss bs) (functions fs xss bs) ≡ false → IsPast most (length (obligations (functions fs xss bs) (measures fs ms))) → FailsWithin most A ds COUNT

-- a block that may owe `most` formulas at most, if there is such a bound
abbrev pub IsBlockWithin : Option ℕ → ArityTable → List Draft → List Object → Admitted → Type 0
IsBlockWithin most A ds os (admitted.Obligations owed) = PassesWithin most A ds os owed
IsBlockWithin most A ds os (admitted.Refused r) = FailsWithin most A ds (refusal_of r)
IsBlockWithin most A ds os admitted.Memory = Unit {0}

-- of the list of a block: it is no list of drafts, or the tests of these decide
abbrev pub IsBlockOf : ArityTable → Option (List Draft) → List Object → Admitted → Type 0
IsBlockOf A None os (admitted.Obligations owed) = ⊥
IsBlockOf A None os (admitted.Refused r) = refusal_of r ≡ EVENT
IsBlockOf A None os admitted.Memory = Unit {0}
IsBlockOf A (Some ds) os o = IsBlock A ds os o

abbrev pub IsBlockOfWithin : Option ℕ → ArityTable → Option (List Draft) → List Object → Admitted → Type 0
IsBlockOfWithin most A None os o = IsBlockOf A None os o
IsBlockOfWithin most A (Some ds) os o = IsBlockWithin most A ds os o

-- the last tests, of expanded drafts
pub record PassesExpanded (most : Option ℕ) (old new : List Object) (es : List Given) (owed : Owed) : Type 0 where
  pub obligations : IsOwedList old new es most owed.obligations
  pub axioms_in : IsIn new owed.axioms
  pub axioms : object_at new owed.axioms ≡ formulas_object (map function_axiom (functions_at old es))
  pub entries : Each2 (IsClosedEntry old) es owed.entries.items

pub data FailsExpanded (most : Option ℕ) (old : List Object) (es : List Given) : Refusal → Type 0 where
  not_closed_at : are_closed_at old es ≡ false → FailsExpanded most old es VARIABLES
  nested_at : are_closed_at old es ≡ true → is_nested (functions_at old es) (functions_at old es) ≡ true → FailsExpanded most old es NESTED
  too_many_at : are_closed_at old es ≡ true → is_nested (functions_at old es) (functions_at old es) ≡ false → is_past most (obligation_count old es) ≡ true → FailsExpanded most old es COUNT

abbrev pub IsExpandedBlock : Option ℕ → List Object → List Object → List Given → Admitted → Type 0
IsExpandedBlock most old new es (admitted.Obligations owed) = PassesExpanded most old new es owed
IsExpandedBlock most old new es (admitted.Refused r) = FailsExpanded most old es (refusal_of r)
IsExpandedBlock most old new es admitted.Memory = ⊥
