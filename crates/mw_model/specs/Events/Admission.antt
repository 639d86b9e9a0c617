-- Events that add definitions. The tests stand in the order in which they are made: the first that fails decides.
use Rattle.std.specs.Prelude.{ℕ, Bool, true, ◌&&◌, not, List, [], ◌∷◌, length, map, Option, Some, None, zip}
use Rattle.mw_model.specs.Terms.Object.{Name, Object, Natural, Symbol, Pair, same_object, NIL, car, second_of, third_of, fourth_of, fifth_of, sixth_of, has_members}
use Rattle.mw_model.specs.Terms.Term.{Term, ArityTable, are_formals, are_distinct, is_closed}
use Rattle.mw_model.specs.Terms.Reading.{names_of, and_more, when, that}
use Rattle.std.specs.Option.{option_zip}
use Rattle.mw_model.specs.Values.Definition.{Function, Block, Functions, Choice, definitions, arity_table, is_new, block_axioms}
use Rattle.mw_model.specs.Events.Obligation.{Measures, obligations, is_nested}
use Rattle.mw_model.specs.Events.Expansion.{expand}
use Rattle.mw_model.specs.Events.Theory.{Theory, add_formulas}
use Rattle.mw_model.specs.Events.Refusal.{EVENT, NAME, FORMALS, TERM, VARIABLES, NESTED, COUNT, Fate, refuse, accept, need, must, unless}
use Rattle.mw_model.specs.Events.Checking.{judged_each}

-- a definition as an event gives it
pub record Draft : Type 0 where
  pub name : Object
  pub formals : Object
  pub body : Object
  pub measure : Object

abbrev pub all_of : {X Y : Type 0} → (X → Option Y) → List X → Option (List Y)
all_of f [] = Some []
all_of f (x ∷ xs) = and_more (f x) (all_of f xs)

abbrev pub new_name : ArityTable → Object → Option Name
new_name A (Symbol f) = when (is_new A f) (Some f)
new_name A _ = None

abbrev pub new_names : ArityTable → List Object → Option (List Name)
new_names A xs = that are_distinct (all_of (new_name A) xs)

abbrev pub formals_of : Object → Option (List Name)
formals_of x = that are_formals (names_of x)

-- the names, the formals and the terms put together
abbrev pub add_names : List Name → List (List Name) → ArityTable → ArityTable
add_names (f ∷ fs) (xs ∷ xss) A = add_names fs xss ((f, length xs) ∷ A)
add_names _ _ A = A

abbrev pub functions : List Name → List (List Name) → List Term → List Function
functions (f ∷ fs) (xs ∷ xss) (b ∷ bs) = record { name = f; formals = xs; body = b } ∷ functions fs xss bs
functions _ _ _ = []

abbrev pub measures : List Name → List Term → Measures
measures fs ms = zip fs ms

-- the free variables of bodies and measures are formals
abbrev pub are_closed_by : List (List Name) → List Term → List Term → Bool
are_closed_by (xs ∷ xss) (b ∷ bs) (m ∷ ms) = is_closed xs b && (is_closed xs m && are_closed_by xss bs ms)
are_closed_by _ _ _ = true

abbrev pub add_to_theory : Theory → Block → Theory
add_to_theory t B = record t { axioms = add_formulas (block_axioms B) t.axioms; definitions = definitions t.definitions.profile (B ∷ t.definitions.blocks) }

-- Definitions of functions that may call each other. Each test is made for all of them before the next.
abbrev pub define : Theory → ℕ → List Draft → Object → Fate × Theory
define t N drafts proofs =
    let A = arity_table t.definitions in
    need t NAME (new_names A (map (λ d. d.name) drafts)) (λ fs.
    need t FORMALS (all_of formals_of (map (λ d. d.formals) drafts)) (λ xss.
    need t TERM (option_zip (all_of (expand (add_names fs xss A)) (map (λ d. d.body) drafts)) (all_of (expand A) (map (λ d. d.measure) drafts))) (λ terms.
    let B = functions fs xss terms.0 in
    let owed = obligations B (measures fs terms.1) in
    must t VARIABLES (are_closed_by xss terms.0 terms.1)
    (must t NESTED (not (is_nested B B))
    (must t COUNT (has_members (length owed) proofs)
    (unless t (judged_each t N owed proofs)
    (accept (add_to_theory t (Functions B)))))))))

-- (define name formals body measure proofs)
abbrev pub define_one : Theory → ℕ → Object → Fate × Theory
define_one t N e = define t N (record { name = second_of e; formals = third_of e; body = fourth_of e; measure = fifth_of e } ∷ []) (sixth_of e)

-- (define-all ((name formals body measure) ..) proofs)
abbrev pub draft_of : Object → Option Draft
draft_of d = when (has_members 4 d) (Some (record { name = car d; formals = second_of d; body = third_of d; measure = fourth_of d }))

abbrev pub drafts_of : Object → Option (List Draft)
drafts_of (Pair d r) = and_more (draft_of d) (drafts_of r)
drafts_of (Symbol s) = when (same_object (Symbol s) NIL) (Some [])
drafts_of (Natural n) = None

abbrev pub some_drafts : Object → Option (List Draft)
some_drafts (Pair d r) = drafts_of (Pair d r)
some_drafts _ = None

abbrev pub define_all : Theory → ℕ → Object → Fate × Theory
define_all t N e = need t EVENT (some_drafts (second_of e)) (λ drafts. define t N drafts (third_of e))

-- (skolem name bound free body); the bound variable and the free ones are read as one list
abbrev pub add_witness : Theory → Name → List Name → Term → Fate × Theory
add_witness t g [] b = refuse t FORMALS
add_witness t g (y ∷ xs) b = must t VARIABLES (is_closed (y ∷ xs) b) (accept (add_to_theory t (Choice g y xs b)))

abbrev pub skolem : Theory → Object → Fate × Theory
skolem t e =
    let A = arity_table t.definitions in
    need t NAME (new_name A (second_of e)) (λ g.
    need t FORMALS (formals_of (Pair (third_of e) (fourth_of e))) (λ ys.
    need t TERM (expand A (fifth_of e)) (λ b. add_witness t g ys b)))
