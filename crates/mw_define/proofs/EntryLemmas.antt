-- What a caller cites of the entries that it keeps: their names, formals and bodies, as its heap shows them.
use Rattle.std.proofs.Common.{◌≡◌, ℕ, List, ◌∷◌, Some, sym, ap, ◌∙◌, subst}
use Rattle.mw_model.specs.Terms.Object.{Name, Object, Natural, Symbol, Pair}
use Rattle.mw_model.specs.Terms.Term.{Term, ArityTable, names_object, term_object}
use Rattle.mw_model.specs.Values.Definition.{Function, is_new}
use Rattle.mw_model.specs.Events.Admission.{Draft, new_name, functions}
use Rattle.mw_model.proofs.ReadBack.{some_one, when_some}
use Rattle.mw_heap.specs.Objects.{object_at, IsIn, Grows}
use Rattle.mw_heap.proofs.Objects.{object_at-Grows, IsIn-Grows}
use Rattle.mw_define.specs.declared.admitted.Owed.{Owed}
use Rattle.mw_define.specs.declared.admitted.Entry.{Entry}
use Rattle.mw_define.specs.Blocks.{Each2}
use Rattle.mw_define.specs.Tests.{PassesWitness}
use Rattle.mw_define.specs.BlockTests.{IsFunctionEntry, PassesBlock}
use Rattle.mw_define.proofs.Members.{each2-weaker}
use Rattle.mw_define.proofs.Witnessed.{AreRead, names-pair, formals-names}

-- an entry stays that of its function in a heap that grew
pub entry-Grows : (old new : List Object) → Grows old new → (h : Function) (e : Entry) → IsFunctionEntry old h e → IsFunctionEntry new h e
entry-Grows old new g h e k = record {
  name_in = IsIn-Grows old new g e.name k.name_in;
  name = object_at-Grows old new g e.name k.name_in ∙ k.name;
  formals_in = IsIn-Grows old new g e.formals k.formals_in;
  formals = object_at-Grows old new g e.formals k.formals_in ∙ k.formals;
  body_in = IsIn-Grows old new g e.body k.body_in;
  body = object_at-Grows old new g e.body k.body_in ∙ k.body;
}

-- the entries of a block are those of its functions, in order, also in a heap that grew since
pub block-entries : (A : ArityTable) (ds : List Draft) (os new : List Object) (owed : Owed) → Grows os new → (h : PassesBlock A ds os owed) → Each2 (IsFunctionEntry new) (functions h.names h.formals h.bodies) owed.entries.items
block-entries A ds os new owed g h =
    each2-weaker (IsFunctionEntry os) (IsFunctionEntry new) (entry-Grows os new g) (functions h.names h.formals h.bodies) owed.entries.items h.entries

-- a new name is that of its symbol
pub new-name-is : (A : ArityTable) (x : Object) (g : Name) → new_name A x ≡ Some g → x ≡ Symbol g
new-name-is A (Natural n) g h = cc
new-name-is A (Symbol f) g h = ap Symbol (some_one (when_some (is_new A f) (Some f) g h).1)
new-name-is A (Pair a b) g h = cc

-- a witness: its name, its bound variable, the list of its free ones, and its body
pub record IsWitnessEntry (os : List Object) (name bound free body : ℕ) (g y : Name) (xs : List Name) (b : Term) : Type 0 where
  pub name_in : IsIn os name
  pub bound_in : IsIn os bound
  pub free_in : IsIn os free
  pub body_in : IsIn os body
  pub name_is : object_at os name ≡ Symbol g
  pub bound_is : object_at os bound ≡ Symbol y
  pub free_are : object_at os free ≡ names_object xs
  pub body_is : object_at os body ≡ term_object b

-- it stays so in a heap that grew
pub witness-Grows : (old new : List Object) → Grows old new → (name bound free body : ℕ) (g y : Name) (xs : List Name) (b : Term) → IsWitnessEntry old name bound free body g y xs b → IsWitnessEntry new name bound free body g y xs b
witness-Grows old new m name bound free body g y xs b k = record {
  name_in = IsIn-Grows old new m name k.name_in;
  bound_in = IsIn-Grows old new m bound k.bound_in;
  free_in = IsIn-Grows old new m free k.free_in;
  body_in = IsIn-Grows old new m body k.body_in;
  name_is = object_at-Grows old new m name k.name_in ∙ k.name_is;
  bound_is = object_at-Grows old new m bound k.bound_in ∙ k.bound_is;
  free_are = object_at-Grows old new m free k.free_in ∙ k.free_are;
  body_is = object_at-Grows old new m body k.body_in ∙ k.body_is;
}

parts-same : {X : Type 0} {x y : X} {xs ys : List X} → x ∷ xs ≡ y ∷ ys → (x ≡ y) × (xs ≡ ys)
parts-same h = (cc, cc)

-- what passes the tests of a witness
module _ (A : ArityTable) (name bound free body : Object) (os : List Object) (ref : ℕ) (owed : Owed) (h : PassesWitness A name bound free body os ref owed) where
  read : AreRead bound free (h.first ∷ h.rest)
  read = names-pair bound free (h.first ∷ h.rest) (formals-names (Pair bound free) (h.first ∷ h.rest) h.are_formals)

  pub witness-name : name ≡ Symbol h.symbol
  witness-name = new-name-is A name h.symbol h.is_new

  pub witness-bound : bound ≡ Symbol h.first
  witness-bound = read.first_is ∙ ap Symbol (sym (parts-same read.are).0)

  pub witness-free : free ≡ names_object h.rest
  witness-free = sym read.rest_is ∙ ap names_object (sym (parts-same read.are).1)

-- the references of an event that adds a witness, with the expanded body of the entry, in the heap that its tests left
module _ (A : ArityTable) (old new : List Object) (grows : Grows old new) (name bound free : ℕ) (body : Object) (owed : Owed) (name_in : IsIn old name) (bound_in : IsIn old bound) (free_in : IsIn old free) (h : PassesWitness A (object_at old name) (object_at old bound) (object_at old free) body new name owed) where
  name-kept : object_at new name ≡ Symbol h.symbol
  name-kept = object_at-Grows old new grows name name_in ∙ witness-name A (object_at old name) (object_at old bound) (object_at old free) body new name owed h

  -- the entry is that of a function which has the bound variable before the free ones
  pub witness-function : IsFunctionEntry new (record { name = h.symbol; formals = h.first ∷ h.rest; body = h.term }) h.entry
  witness-function = record {
    name_in = subst (IsIn new) (sym h.is_entry.name) (IsIn-Grows old new grows name name_in);
    name = ap (object_at new) h.is_entry.name ∙ name-kept;
    formals_in = h.is_entry.formals_in;
    formals = h.is_entry.formals;
    body_in = h.is_entry.body_in;
    body = h.is_entry.body;
  }

  pub witness-entry : IsWitnessEntry new name bound free h.entry.body h.symbol h.first h.rest h.term
  witness-entry = record {
    name_in = IsIn-Grows old new grows name name_in;
    bound_in = IsIn-Grows old new grows bound bound_in;
    free_in = IsIn-Grows old new grows free free_in;
    body_in = h.is_entry.body_in;
    name_is = name-kept;
    bound_is = object_at-Grows old new grows bound bound_in ∙ witness-bound A (object_at old name) (object_at old bound) (object_at old free) body new name owed h;
    free_are = object_at-Grows old new grows free free_in ∙ witness-free A (object_at old name) (object_at old bound) (object_at old free) body new name owed h;
    body_is = h.is_entry.body;
  }
