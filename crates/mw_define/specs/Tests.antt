-- The tests of a witness, in their order, and what is handed back where they pass.
use Rattle.std.specs.Prelude.{◌≡◌, ℕ, true, false, List, [], ◌∷◌, Some, None}
use Rattle.mw_model.specs.Terms.Object.{Name, Object, Pair, NIL, list1}
use Rattle.mw_model.specs.Terms.Term.{Term, ArityTable, names_object, term_object, formula_object, is_closed}
use Rattle.mw_model.specs.Values.Definition.{choice_axiom}
use Rattle.mw_model.specs.Events.Expansion.{expand}
use Rattle.mw_model.specs.Events.Refusal.{Refusal, NAME, FORMALS, TERM, VARIABLES}
use Rattle.mw_model.specs.Events.Admission.{new_name, formals_of}
use Rattle.mw_heap.specs.Objects.{object_at, IsIn, Grows}
use Rattle.mw_heap.specs.declared.vocabulary.refusal.Refusal.TheVariants as reason
use Rattle.mw_heap.specs.Variants.{refusal_of}
use Rattle.mw_term.specs.Parts.{names_at}
use Rattle.mw_define.specs.declared.admitted.Admitted.{Admitted}
use Rattle.mw_define.specs.declared.admitted.Admitted.TheVariants as admitted
use Rattle.mw_define.specs.declared.admitted.Owed.{Owed}
use Rattle.mw_define.specs.declared.admitted.Entry.{Entry}
use Rattle.mw_define.specs.Axioms.{choice_object}

-- the first test that fails
pub data FailsWitness (A : ArityTable) (name bound free body : Object) : Refusal → Type 0 where
  by_name : new_name A name ≡ None → FailsWitness A name bound free body NAME
  by_formals : (g : Name) → new_name A name ≡ Some g → formals_of (Pair bound free) ≡ None → FailsWitness A name bound free body FORMALS
  by_term : (g : Name) (xs : List Name) → new_name A name ≡ Some g → formals_of (Pair bound free) ≡ Some xs → expand A body ≡ None → FailsWitness A name bound free body TERM
  by_variables : (g : Name) (xs : List Name) (b : Term) → new_name A name ≡ Some g → formals_of (Pair bound free) ≡ Some xs → expand A body ≡ Some b → is_closed xs b ≡ false → FailsWitness A name bound free body VARIABLES

-- an entry of a name, with the list of its formals and a body
pub record IsEntry (os : List Object) (e : Entry) (ref : ℕ) (xs : List Name) (b : Term) : Type 0 where
  pub name : e.name ≡ ref
  pub formals_in : IsIn os e.formals
  pub formals : object_at os e.formals ≡ names_object xs
  pub body_in : IsIn os e.body
  pub body : object_at os e.body ≡ term_object b

-- all tests pass: the axiom, no obligation, and the entry
pub record PassesWitness (A : ArityTable) (name bound free body : Object) (os : List Object) (name_ref : ℕ) (owed : Owed) : Type 0 where
  pub symbol : Name
  pub first : Name
  pub rest : List Name
  pub term : Term
  pub is_new : new_name A name ≡ Some symbol
  pub are_formals : formals_of (Pair bound free) ≡ Some (first ∷ rest)
  pub expands : expand A body ≡ Some term
  pub closed : is_closed (first ∷ rest) term ≡ true
  pub obligations_in : IsIn os owed.obligations
  pub obligations : object_at os owed.obligations ≡ NIL
  pub axioms_in : IsIn os owed.axioms
  pub axioms : object_at os owed.axioms ≡ list1 (formula_object (choice_axiom symbol first rest term))
  pub entry : Entry
  pub entries : owed.entries.items ≡ entry ∷ []
  pub is_entry : IsEntry os entry name_ref (first ∷ rest) term

abbrev pub IsWitness : ArityTable → List Object → List Object → ℕ → ℕ → ℕ → ℕ → Admitted → Type 0
IsWitness A old new name bound free body (admitted.Obligations owed) = PassesWitness A (object_at old name) (object_at old bound) (object_at old free) (object_at old body) new name owed
IsWitness A old new name bound free body (admitted.Refused r) = FailsWitness A (object_at old name) (object_at old bound) (object_at old free) (object_at old body) (refusal_of r)
IsWitness A old new name bound free body admitted.Memory = Unit {0}

-- the last test, of a term with these formals
pub record OwedWitness (old new : List Object) (name list free term : ℕ) (owed : Owed) : Type 0 where
  pub obligations_in : IsIn new owed.obligations
  pub obligations : object_at new owed.obligations ≡ NIL
  pub axioms_in : IsIn new owed.axioms
  pub axioms : object_at new owed.axioms ≡ list1 (choice_object (object_at old name) (object_at old list) (object_at old free) (object_at old term))
  pub entry : Entry
  pub entries : owed.entries.items ≡ entry ∷ []
  pub entry_name : entry.name ≡ name
  pub entry_formals : entry.formals ≡ list
  pub entry_body : entry.body ≡ term

abbrev pub IsClosedWitness : List Object → List Object → ℕ → ℕ → ℕ → List ℕ → ℕ → Term → Admitted → Type 0
IsClosedWitness old new name list free formals term t (admitted.Obligations owed) = (is_closed (names_at old formals) t ≡ true) × OwedWitness old new name list free term owed
IsClosedWitness old new name list free formals term t (admitted.Refused r) = (refusal_of r ≡ VARIABLES) × (is_closed (names_at old formals) t ≡ false)
IsClosedWitness old new name list free formals term t admitted.Memory = ⊥

-- the test of the body, and the last test of the term that it expands to in a heap between
pub data IsFormedWitness (A : ArityTable) (old new : List Object) (name list free body : ℕ) (formals : List ℕ) : Admitted → Type 0 where
  no_term : expand A (object_at old body) ≡ None → IsFormedWitness A old new name list free body formals (admitted.Refused reason.Term)
  a_term : (between : List Object) (term : ℕ) (t : Term) (o : Admitted) → Grows old between → Grows between new → IsIn between term → object_at between term ≡ term_object t → expand A (object_at old body) ≡ Some t → IsClosedWitness between new name list free formals term t o → IsFormedWitness A old new name list free body formals o
