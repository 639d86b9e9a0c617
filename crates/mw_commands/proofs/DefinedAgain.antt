-- A definition that is wanted at a theory is wanted at another one that says the same of what occurs in it.
use Rattle.std.proofs.Common.{◌≡◌, ℕ, Bool, true, false, not, cond, List, [], ◌∷◌, length, map, Option, Some, None, refl, sym, ap, ap₂, ◌∙◌, subst, is_none}
use Rattle.std.proofs.lemmas.Bool.{and_parts, and_from}
use Rattle.mw_model.specs.Terms.Object.{Name, Object, Natural, Symbol, Pair, named, same_name}
use Rattle.mw_model.specs.Terms.Term.{Term, Formula, ArityTable, arity_of, are_distinct, is_function_name}
use Rattle.mw_model.specs.Terms.Reading.{and_more, when, that}
use Rattle.std.specs.Option.{option_zip}
use Rattle.mw_model.specs.Values.Definition.{Functions, arity_table, is_new}
use Rattle.mw_model.specs.Values.Truth.{Each}
use Rattle.mw_model.specs.Events.Obligation.{obligations, is_nested}
use Rattle.mw_model.specs.Events.Expansion.{expand}
use Rattle.mw_model.specs.Events.Theory.{Theory}
use Rattle.mw_model.specs.Events.Refusal.{Refusal, NAME, FORMALS, TERM, VARIABLES, NESTED}
use Rattle.mw_model.specs.Events.Admission.{Draft, all_of, new_name, new_names, formals_of, add_names, functions, measures, are_closed_by, add_to_theory}
use Rattle.mw_model.specs.Events.Fate.{EventWord, is_initial}
use Rattle.mw_model.specs.Events.Demand.{Demand, Wants, wants_some, wants_that, define_demand, demand}
use Rattle.mw_model.proofs.ReadBack.{some_one, and_more-back, when_some}
use Rattle.mw_commands.specs.Commands.Slice.{without_name}
use Rattle.mw_commands.proofs.SameArities.{Agree}
use Rattle.mw_commands.proofs.SameExpansion.{BringSame, expand_agrees}
use Rattle.mw_commands.proofs.Changes.{Change, changed, IsChange}
use Rattle.mw_commands.proofs.Within.{Within}

-- the theory u will do for the event as t does
pub record Suits (t u : Theory) (e : Object) : Type 0 where
  pub agree : Agree (arity_table t.definitions) (arity_table u.definitions) (without_name e)
  pub unknown : (f : Name) → arity_of (arity_table t.definitions) f ≡ None → arity_of (arity_table u.definitions) f ≡ None
  pub bring : BringSame (arity_table t.definitions) (arity_table u.definitions)
  pub first : is_initial t ≡ true → is_initial u ≡ true

pub record WantedAgain (t : Theory) (e : Object) (w : EventWord) (Fs : List Formula) (next : Theory) : Type 0 where
  pub change : Change
  pub leads : next ≡ changed change t
  pub is_change : IsChange t e change
  pub again : (u : Theory) → Suits t u e → demand w u e ≡ Wants Fs (changed change u)

-- ---- along the tests

pub some_wanted : {X : Type 0} (r : Refusal) (o : Option X) (go : X → Demand) (Fs : List Formula) (next : Theory) → wants_some r o go ≡ Wants Fs next → (x : X) × (o ≡ Some x) × (go x ≡ Wants Fs next)
some_wanted r None go Fs next h = cc
some_wanted r (Some x) go Fs next h = (x, refl, h)

pub that_wanted : (r : Refusal) (b : Bool) (d : Demand) (Fs : List Formula) (next : Theory) → wants_that r b d ≡ Wants Fs next → (b ≡ true) × (d ≡ Wants Fs next)
that_wanted r true d Fs next h = (refl, h)
that_wanted r false d Fs next h = cc

pub wants_one : {Fs Gs : List Formula} {t u : Theory} → Wants Fs t ≡ Wants Gs u → (Fs ≡ Gs) × (t ≡ u)
wants_one h = (cc, cc)

pub that_back : {X : Type 0} (test : X → Bool) (o : Option X) (x : X) → that test o ≡ Some x → (o ≡ Some x) × (test x ≡ true)
that_back test None x h = cc
that_back test (Some y) x h =
    let p = when_some (test y) (Some y) x h in
    (p.1, subst (λ z. test z ≡ true) (some_one p.1) p.0)

module _ (A B : ArityTable) where
  agree_part : (x y : Object) → Within x y → Agree A B y → Agree A B x
  agree_part x y w h f k = h f (w (Symbol f) k)

  module _ (unknown : (f : Name) → arity_of A f ≡ None → arity_of B f ≡ None) where
    new_stays : (f : Name) → is_new A f ≡ true → is_new B f ≡ true
    new_stays f h =
        let p = and_parts (is_function_name f) (is_none (arity_of A f)) h in
        and_from (is_function_name f) (is_none (arity_of B f)) p.0 (go (arity_of A f) refl p.1)
      where
        go : (o : Option ℕ) → arity_of A f ≡ o → is_none o ≡ true → is_none (arity_of B f) ≡ true
        go None e k = ap is_none (unknown f e)
        go (Some n) e k = cc

    pub name_stays : (x : Object) (f : Name) → new_name A x ≡ Some f → new_name B x ≡ Some f
    name_stays (Natural n) f h = cc
    name_stays (Pair a b) f h = cc
    name_stays (Symbol g) f h = let p = when_some (is_new A g) (Some g) f h in ap (λ b. when b (Some g)) (new_stays g p.0) ∙ p.1

    names_stay : (xs : List Object) (fs : List Name) → all_of (new_name A) xs ≡ Some fs → all_of (new_name B) xs ≡ Some fs
    names_stay [] fs h = h
    names_stay (x ∷ xs) fs h =
        let p = and_more-back (new_name A x) (all_of (new_name A) xs) fs h in
        ap₂ and_more (name_stays x p.0 p.2) (names_stay xs p.1 p.3) ∙ ap Some (sym p.4)

    new_names_stay : (xs : List Object) (fs : List Name) → new_names A xs ≡ Some fs → new_names B xs ≡ Some fs
    new_names_stay xs fs h =
        let p = that_back are_distinct (all_of (new_name A) xs) fs h in
        ap (that are_distinct) (names_stay xs fs p.0) ∙ ap (λ b. when b (Some fs)) p.1

-- names put in front of two tables
add_names_agree : (fs : List Name) (xss : List (List Name)) (A B : ArityTable) (f : Name) → arity_of A f ≡ arity_of B f → arity_of (add_names fs xss A) f ≡ arity_of (add_names fs xss B) f
add_names_agree [] xss A B f h = h
add_names_agree (g ∷ fs) [] A B f h = h
add_names_agree (g ∷ fs) (xs ∷ xss) A B f h = add_names_agree fs xss ((g, length xs) ∷ A) ((g, length xs) ∷ B) f (ap (cond (same_name g f) (Some (length xs))) h)

bring_under : (fs : List Name) (xss : List (List Name)) (A B : ArityTable) → BringSame A B → BringSame (add_names fs xss A) (add_names fs xss B)
bring_under fs xss A B h =
    record {
      same_if = add_names_agree fs xss A B (named "IF") h.same_if;
      same_cons = add_names_agree fs xss A B (named "CONS") h.same_cons;
      same_car = add_names_agree fs xss A B (named "CAR") h.same_car;
      same_cdr = add_names_agree fs xss A B (named "CDR") h.same_cdr;
    }

all_same : (f g : Object → Option Term) (part : Draft → Object) (ds : List Draft) → Each (λ d. f (part d) ≡ g (part d)) ds → all_of f (map part ds) ≡ all_of g (map part ds)
all_same f g part [] h = refl
all_same f g part (d ∷ ds) h = ap₂ and_more h.0 (all_same f g part ds h.1)

each_by : {X : Type 0} (P Q : X → Type 0) → ((x : X) → P x → Q x) → (xs : List X) → Each P xs → Each Q xs
each_by P Q f [] h = tt
each_by P Q f (x ∷ xs) h = (f x h.0, each_by P Q f xs h.1)

-- ---- definitions

abbrev pub DraftsWithin : Object → List Draft → Type 0
DraftsWithin x ds = Each (λ d. Within d.body x × Within d.measure x) ds

pub record Defined (t : Theory) (ds : List Draft) (Fs : List Formula) (next : Theory) : Type 0 where
  pub fs : List Name
  pub xss : List (List Name)
  pub terms : List Term × List Term
  pub names : new_names (arity_table t.definitions) (map (λ d. d.name) ds) ≡ Some fs
  pub formals : all_of formals_of (map (λ d. d.formals) ds) ≡ Some xss
  pub read : (option_zip) (all_of (expand (add_names fs xss (arity_table t.definitions))) (map (λ d. d.body) ds)) (all_of (expand (arity_table t.definitions)) (map (λ d. d.measure) ds)) ≡ Some terms
  pub closed : are_closed_by xss terms.0 terms.1 ≡ true
  pub flat : not (is_nested (functions fs xss terms.0) (functions fs xss terms.0)) ≡ true
  pub owed : obligations (functions fs xss terms.0) (measures fs terms.1) ≡ Fs
  pub leads : next ≡ add_to_theory t (Functions (functions fs xss terms.0))

-- the tests after the names and the formals, and those after the terms
abbrev closing : Theory → List Name → List (List Name) → List Term × List Term → Demand
closing t fs xss terms =
    let B = functions fs xss terms.0 in
    wants_that VARIABLES (are_closed_by xss terms.0 terms.1) (wants_that NESTED (not (is_nested B B)) (Wants (obligations B (measures fs terms.1)) (add_to_theory t (Functions B))))

abbrev reading : Theory → List Draft → List Name → List (List Name) → Demand
reading t ds fs xss =
    let A = arity_table t.definitions in
    wants_some TERM (option_zip (all_of (expand (add_names fs xss A)) (map (λ d. d.body) ds)) (all_of (expand A) (map (λ d. d.measure) ds))) (closing t fs xss)

module _ (t : Theory) (ds : List Draft) (Fs : List Formula) (next : Theory) where
  closing_found : (fs : List Name) (xss : List (List Name)) (terms : List Term × List Term) → new_names (arity_table t.definitions) (map (λ d. d.name) ds) ≡ Some fs → all_of formals_of (map (λ d. d.formals) ds) ≡ Some xss → option_zip (all_of (expand (add_names fs xss (arity_table t.definitions))) (map (λ d. d.body) ds)) (all_of (expand (arity_table t.definitions)) (map (λ d. d.measure) ds)) ≡ Some terms → closing t fs xss terms ≡ Wants Fs next → Defined t ds Fs next
  closing_found fs xss terms n f r h =
      let B = functions fs xss terms.0 in
      let wanted = Wants (obligations B (measures fs terms.1)) (add_to_theory t (Functions B)) in
      let p = that_wanted VARIABLES (are_closed_by xss terms.0 terms.1) (wants_that NESTED (not (is_nested B B)) wanted) Fs next h in
      let q = that_wanted NESTED (not (is_nested B B)) wanted Fs next p.1 in
      let w = wants_one q.1 in
      record { fs = fs; xss = xss; terms = terms; names = n; formals = f; read = r; closed = p.0; flat = q.0; owed = w.0; leads = sym w.1 }

  pub define_found : define_demand t ds ≡ Wants Fs next → Defined t ds Fs next
  define_found h =
      let A = arity_table t.definitions in
      let p = some_wanted NAME (new_names A (map (λ d. d.name) ds)) (λ fs. wants_some FORMALS (all_of formals_of (map (λ d. d.formals) ds)) (reading t ds fs)) Fs next h in
      let q = some_wanted FORMALS (all_of formals_of (map (λ d. d.formals) ds)) (reading t ds p.0) Fs next p.2 in
      let r = some_wanted TERM (option_zip (all_of (expand (add_names p.0 q.0 A)) (map (λ d. d.body) ds)) (all_of (expand A) (map (λ d. d.measure) ds))) (closing t p.0 q.0) Fs next q.2 in
      closing_found p.0 q.0 r.0 p.1 q.1 r.1 r.2

module _ (t u : Theory) (e : Object) (s : Suits t u e) where
  abbrev A : ArityTable
  A = arity_table t.definitions

  abbrev B : ArityTable
  B = arity_table u.definitions

  pub part_agrees : (x : Object) → Within x (without_name e) → Agree A B x
  part_agrees x w = agree_part A B x (without_name e) w s.agree

  body_again : (fs : List Name) (xss : List (List Name)) (x : Object) → Within x (without_name e) → expand (add_names fs xss A) x ≡ expand (add_names fs xss B) x
  body_again fs xss x w = expand_agrees (add_names fs xss A) (add_names fs xss B) (bring_under fs xss A B s.bring) x (λ f k. add_names_agree fs xss A B f (part_agrees x w f k))

  pub term_again : (x : Object) → Within x (without_name e) → expand A x ≡ expand B x
  term_again x w = expand_agrees A B s.bring x (part_agrees x w)

  read_again : (ds : List Draft) → DraftsWithin (without_name e) ds → (fs : List Name) (xss : List (List Name)) → option_zip (all_of (expand (add_names fs xss A)) (map (λ d. d.body) ds)) (all_of (expand A) (map (λ d. d.measure) ds)) ≡ option_zip (all_of (expand (add_names fs xss B)) (map (λ d. d.body) ds)) (all_of (expand B) (map (λ d. d.measure) ds))
  read_again ds w fs xss =
      ap₂ (option_zip) (all_same (expand (add_names fs xss A)) (expand (add_names fs xss B)) (λ d. d.body) ds (each_by _ _ (λ d h. body_again fs xss d.body h.0) ds w)) (all_same (expand A) (expand B) (λ d. d.measure) ds (each_by _ _ (λ d h. term_again d.measure h.1) ds w))

  pub define_again : (ds : List Draft) (Fs : List Formula) (next : Theory) → DraftsWithin (without_name e) ds → (d : Defined t ds Fs next) → define_demand u ds ≡ Wants Fs (add_to_theory u (Functions (functions d.fs d.xss d.terms.0)))
  define_again ds Fs next w d =
      let block = functions d.fs d.xss d.terms.0 in
      let wanted = Wants (obligations block (measures d.fs d.terms.1)) (add_to_theory u (Functions block)) in
      ap (λ o. wants_some NAME o (λ fs. wants_some FORMALS (all_of formals_of (map (λ d. d.formals) ds)) (reading u ds fs))) (new_names_stay A B s.unknown (map (λ d. d.name) ds) d.fs d.names)
      ∙ (ap (λ o. wants_some FORMALS o (reading u ds d.fs)) d.formals
      ∙ (ap (λ o. wants_some TERM o (closing u d.fs d.xss)) (sym (read_again ds w d.fs d.xss) ∙ d.read)
      ∙ (ap (λ b. wants_that VARIABLES b (wants_that NESTED (not (is_nested block block)) wanted)) d.closed ∙ (ap (λ b. wants_that NESTED b wanted) d.flat ∙ ap (λ z. Wants z (add_to_theory u (Functions block))) d.owed))))
