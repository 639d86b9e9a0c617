-- The tests of a witness, and its axiom.
use Rattle.std.proofs.Common.{◌≡◌, ℕ, Bool, true, false, ◌&&◌, cond, List, [], ◌∷◌, Option, Some, None, refl, sym, ap, ap₂, ◌∙◌, subst}
use Rattle.mw_model.specs.Terms.Object.{Name, Object, Natural, Symbol, Pair, list1}
use Rattle.mw_model.specs.Terms.Term.{Term, ArityTable, names_object, term_object, terms_object, formula_object, are_formals, is_closed, is_term}
use Rattle.mw_model.specs.Terms.Reading.{names_of, that, when}
use Rattle.mw_model.specs.Values.Primitive.{is_symbol, name_of}
use Rattle.mw_model.specs.Values.Definition.{is_new, variable_terms, choice_axiom}
use Rattle.mw_model.specs.Events.Expansion.{expand, expanded}
use Rattle.mw_model.specs.Events.Admission.{new_name, formals_of}
use Rattle.mw_model.proofs.ReadBack.{some_one, names_back, when_some, and_more-back}
use Rattle.mw_heap.specs.Objects.{object_at, IsIn, Grows}
use Rattle.mw_heap.specs.declared.vocabulary.refusal.Refusal.TheVariants as reason
use Rattle.mw_heap.specs.Variants.{refusal_of}
use Rattle.mw_heap.proofs.Objects.{object_at-Grows, IsIn-Grows}
use Rattle.mw_term.specs.Parts.{names_at, AreSymbols}
use Rattle.mw_term.specs.Parts as parts
use Rattle.mw_define.specs.declared.admitted.Admitted.{Admitted}
use Rattle.mw_define.specs.declared.admitted.Admitted.TheVariants as admitted
use Rattle.mw_define.specs.Axioms.{choice_object}
use Rattle.mw_define.specs.Tests.{FailsWitness, by_term, by_variables, PassesWitness, IsClosedWitness, IsFormedWitness, no_term, a_term}

-- one test of formals in two spellings
pub formals-same : (x : Object) → formals_of x ≡ parts.formals_of x
formals-same x = go (names_of x)
  where
    go : (o : Option (List Name)) → that are_formals o ≡ parts.if_formals o
    go None = refl
    go (Some xs) = by (are_formals xs)
      where
        by : (b : Bool) → when b (Some xs) ≡ cond b (Some xs) None
        by true = refl
        by false = refl

pub new_name-some : (A : ArityTable) (x : Object) → (is_symbol x && is_new A (name_of x)) ≡ true → (new_name A x ≡ Some (name_of x)) × (x ≡ Symbol (name_of x))
new_name-some A (Natural n) h = cc
new_name-some A (Symbol f) h = (ap (λ b. when b (Some f)) h, refl)
new_name-some A (Pair a b) h = cc

pub new_name-none : (A : ArityTable) (x : Object) → (is_symbol x && is_new A (name_of x)) ≡ false → new_name A x ≡ None
new_name-none A (Natural n) h = refl
new_name-none A (Symbol f) h = ap (λ b. when b (Some f)) h
new_name-none A (Pair a b) h = refl

-- what expands to a term
pub expand-term : (A : ArityTable) (x : Object) (t : Term) → expand A x ≡ Some t → is_term A t ≡ true
expand-term A x t h = go (expanded x) h
  where
    go : (o : Option Term) → that (is_term A) o ≡ Some t → is_term A t ≡ true
    go None k = cc
    go (Some u) k = let p = when_some (is_term A u) (Some u) t k in subst (λ v. is_term A v ≡ true) (some_one p.1) p.0

pub symbols-Grows : (old new : List Object) (rs : List ℕ) → Grows old new → AreSymbols old rs → AreSymbols new rs
symbols-Grows old new [] g h = tt
symbols-Grows old new (r ∷ rs) g h = (IsIn-Grows old new g r h.0, ap is_symbol (object_at-Grows old new g r h.0) ∙ h.1, symbols-Grows old new rs g h.2)

pub names-Grows : (old new : List Object) (rs : List ℕ) → Grows old new → AreSymbols old rs → names_at new rs ≡ names_at old rs
names-Grows old new [] g h = refl
names-Grows old new (r ∷ rs) g h = ap₂ (λ x xs. name_of x ∷ xs) (object_at-Grows old new g r h.0) (names-Grows old new rs g h.2)

-- the names of a list that is a pair: the first and the rest
pub record AreRead (a r : Object) (xs : List Name) : Type 0 where
  pub first : Name
  pub rest : List Name
  pub are : xs ≡ first ∷ rest
  pub first_is : a ≡ Symbol first
  pub rest_is : names_object rest ≡ r

pub names-pair : (a r : Object) (xs : List Name) → names_of (Pair a r) ≡ Some xs → AreRead a r xs
names-pair (Natural n) r xs h = cc
names-pair (Symbol x) r xs h =
    let p = and_more-back (Some x) (names_of r) xs h in
    record { first = p.0; rest = p.1; are = p.4; first_is = ap Symbol (some_one p.2); rest_is = names_back r p.1 p.3 }
names-pair (Pair a b) r xs h = cc

pub formals-names : (x : Object) (xs : List Name) → formals_of x ≡ Some xs → names_of x ≡ Some xs
formals-names x xs h = go (names_of x) h
  where
    go : (o : Option (List Name)) → that are_formals o ≡ Some xs → o ≡ Some xs
    go None k = cc
    go (Some ys) k = (when_some (are_formals ys) (Some ys) xs k).1

pub variables-object : (ys : List Name) → terms_object (variable_terms ys) ≡ names_object ys
variables-object [] = refl
variables-object (y ∷ ys) = ap (Pair (Symbol y)) (variables-object ys)

-- the axiom of a witness as an object
pub axiom-object : (g y : Name) (xs : List Name) (b : Term) → choice_object (Symbol g) (names_object (y ∷ xs)) (names_object xs) (term_object b) ≡ formula_object (choice_axiom g y xs b)
axiom-object g y xs b = ap (λ v. choice_by g y xs b v) (sym (variables-object xs))
  where
    choice_by : Name → Name → List Name → Term → Object → Object
    choice_by g y xs b v = choice_object (Symbol g) (names_object (y ∷ xs)) v (term_object b)

module _ (A : ArityTable) (name bound free body : Object) (passed : new_name A name ≡ Some (name_of name)) (is_name : name ≡ Symbol (name_of name)) where
  abbrev pub Outcome : List Object → ℕ → Admitted → Type 0
  Outcome os ref (admitted.Obligations owed) = PassesWitness A name bound free body os ref owed
  Outcome os ref (admitted.Refused r) = FailsWitness A name bound free body (refusal_of r)
  Outcome os ref admitted.Memory = Unit {0}

  -- the last test decides
  module _ (h2 h3 : List Object) (ref list free_ref term : ℕ) (formals : List ℕ) (t : Term) (g : Grows h2 h3) (within : IsIn h2 term) (list_in : IsIn h2 list) (are : formals_of (Pair bound free) ≡ Some (names_at h2 formals)) (expands : expand A body ≡ Some t) (n : object_at h2 ref ≡ name) (l : object_at h2 list ≡ Pair bound free) (f : object_at h2 free_ref ≡ free) (b : object_at h2 term ≡ term_object t) where
    read : AreRead bound free (names_at h2 formals)
    read = names-pair bound free (names_at h2 formals) (formals-names (Pair bound free) (names_at h2 formals) are)

    list_is : Pair bound free ≡ names_object (read.first ∷ read.rest)
    list_is = ap₂ Pair read.first_is (sym read.rest_is)

    axiom_is : choice_object (object_at h2 ref) (object_at h2 list) (object_at h2 free_ref) (object_at h2 term) ≡ formula_object (choice_axiom (name_of name) read.first read.rest t)
    axiom_is =
        ap₂ (λ x y. choice_object x y (object_at h2 free_ref) (object_at h2 term)) (n ∙ is_name) (l ∙ list_is)
        ∙ (ap₂ (choice_object (Symbol (name_of name)) (names_object (read.first ∷ read.rest))) (f ∙ sym read.rest_is) b
        ∙ axiom-object (name_of name) read.first read.rest t)

    pub last-test : (o : Admitted) → IsClosedWitness h2 h3 ref list free_ref formals term t o → Outcome h3 ref o
    last-test (admitted.Obligations owed) h = record {
      symbol = name_of name;
      first = read.first;
      rest = read.rest;
      term = t;
      is_new = passed;
      are_formals = are ∙ ap Some read.are;
      expands = expands;
      closed = subst (λ xs. is_closed xs t ≡ true) read.are h.0;
      obligations_in = h.1.obligations_in;
      obligations = h.1.obligations;
      axioms_in = h.1.axioms_in;
      axioms = h.1.axioms ∙ ap list1 axiom_is;
      entry = h.1.entry;
      entries = h.1.entries;
      is_entry = record {
        name = h.1.entry_name;
        formals_in = subst (IsIn h3) (sym h.1.entry_formals) (IsIn-Grows h2 h3 g list list_in);
        formals = ap (object_at h3) h.1.entry_formals ∙ (object_at-Grows h2 h3 g list list_in ∙ (l ∙ list_is));
        body_in = subst (IsIn h3) (sym h.1.entry_body) (IsIn-Grows h2 h3 g term within);
        body = ap (object_at h3) h.1.entry_body ∙ (object_at-Grows h2 h3 g term within ∙ b);
      };
    }
    last-test (admitted.Refused r) h = subst (FailsWitness A name bound free body) (sym h.0) (by_variables (name_of name) (names_at h2 formals) t passed are expands h.1)
    last-test admitted.Memory h = tt

  -- the test of the body, and the last one
  module _ (h1 h3 : List Object) (ref list free_ref body_ref : ℕ) (formals : List ℕ) (symbols : AreSymbols h1 formals) (are : formals_of (Pair bound free) ≡ Some (names_at h1 formals)) (ref_in : IsIn h1 ref) (list_in : IsIn h1 list) (free_in : IsIn h1 free_ref) (n : object_at h1 ref ≡ name) (l : object_at h1 list ≡ Pair bound free) (f : object_at h1 free_ref ≡ free) (b : object_at h1 body_ref ≡ body) where
    pub last-tests : (o : Admitted) → IsFormedWitness A h1 h3 ref list free_ref body_ref formals o → Outcome h3 ref o
    last-tests (admitted.Refused reason.Term) (no_term e) = by_term (name_of name) (names_at h1 formals) passed are (ap (expand A) (sym b) ∙ e)
    last-tests _ (a_term h2 term t o g1 g2 within is e last) =
        last-test h2 h3 ref list free_ref term formals t g2 within (IsIn-Grows h1 h2 g1 list list_in) (are ∙ ap Some (sym (names-Grows h1 h2 formals g1 symbols))) (ap (expand A) (sym b) ∙ e)
        (object_at-Grows h1 h2 g1 ref ref_in ∙ n) (object_at-Grows h1 h2 g1 list list_in ∙ l) (object_at-Grows h1 h2 g1 free_ref free_in ∙ f) is o last
