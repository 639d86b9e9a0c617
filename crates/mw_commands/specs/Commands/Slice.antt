-- What a theorem rests on: of a list of accepted events, those that have to be kept so that it is accepted still.
use Rattle.std.specs.Prelude.{◌≡◌, ℕ, suc, ◌<◌, ◌≤◌, ◌↔◌, Bool, true, false, ◌&&◌, ◌||◌, cond, eqb, ltb, List, [], ◌∷◌, get_or, take, map, filter, Option, Some, None}
use Prim.Native.String.{String}
use Rattle.mw_model.specs.Terms.Object.{Name, Object, Natural, Symbol, Pair, symbol, same_object, NIL, car, cdr, second_of, third_of}
use Rattle.mw_model.specs.Values.Value.{pick}
use Rattle.mw_model.specs.Events.Fate.{EventWord, event_word}
use Rattle.mw_model.specs.Events.Demand.{proofs_of}
use Rattle.mw_commands.specs.Commands.Subproofs.{each_within}

abbrev pub begins_with : String → Object → Bool
begins_with word e = same_object (car e) (symbol word)

abbrev pub event_at : List Object → ℕ → Object
event_at es i = get_or es i NIL

abbrev pub some_passes : {X : Type 0} → (X → Bool) → List X → Bool
some_passes test [] = false
some_passes test (x ∷ xs) = test x || some_passes test xs

-- the place of the first event that passes the test, counted from 0
abbrev pub later_place : Option ℕ → Option ℕ
later_place None = None
later_place (Some i) = Some (suc i)

abbrev pub first_place : (Object → Bool) → List Object → Option ℕ
first_place test [] = None
first_place test (e ∷ es) = cond (test e) (Some 0) (later_place (first_place test es))

abbrev pub is_place : Option ℕ → ℕ → Bool
is_place None j = false
is_place (Some i) j = eqb i j

-- the first theorem of this name
abbrev pub target : List Object → Name → Option ℕ
target es name = first_place (λ e. begins_with "VERIFY" e && same_object (second_of e) (Symbol name)) es

-- the first proof of this formula
abbrev pub first_proof : List Object → Object → Option ℕ
first_proof es c = first_place (λ e. begins_with "VERIFY" e && same_object (third_of e) c) es

-- an atom occurs anywhere in an object
abbrev pub occurs : Object → Object → Bool
occurs x (Pair a b) = occurs x a || occurs x b
occurs x (Natural n) = same_object x (Natural n)
occurs x (Symbol s) = same_object x (Symbol s)

-- of a theorem the name does not count
abbrev pub without_name : Object → Object
without_name e = cond (begins_with "VERIFY" e) (Pair (car e) (cdr (cdr e))) e

abbrev pub first_members : Object → List Object
first_members (Pair d r) = car d ∷ first_members r
first_members _ = []

-- the names of the functions and witnesses that an event adds
abbrev pub names_added : Object → List Object
names_added e = cond (begins_with "DEFINE" e || begins_with "SKOLEM" e) (second_of e ∷ []) (cond (begins_with "DEFINE-ALL" e) (first_members (second_of e)) [])

abbrev pub proofs_by_word : Option EventWord → Object → Object
proofs_by_word None e = NIL
proofs_by_word (Some w) e = proofs_of w e

-- the theorems that the proofs of an event name
abbrev pub theorems_named : Object → List Object
theorems_named e = map second_of (filter (begins_with "THEOREM") (each_within (proofs_by_word (event_word e) e)))

-- The event at i rests on the one at j, which comes before it: a name that this one adds occurs in it, or a proof in it
-- names the theorem that this one was first to prove.
abbrev pub rests_on : List Object → ℕ → ℕ → Bool
rests_on es i j =
    let e = event_at es i in
    ltb j i && (some_passes (λ f. occurs f (without_name e)) (names_added (event_at es j)) || some_passes (λ c. is_place (first_proof es c) j) (theorems_named e))

abbrev pub sets_profile : ℕ → Object → Bool
sets_profile n e = begins_with "PROFILE" e && same_object (second_of e) (Natural n)

-- The least set of places that has the target, a second profile before it, and all that a member rests on.
pub data Needed (es : List Object) (goal : ℕ) : ℕ → Type 0 where
  the_goal : Needed es goal goal
  the_profile : (j : ℕ) → j < goal → sets_profile 2 (event_at es j) ≡ true → Needed es goal j
  the_basis : (i j : ℕ) → Needed es goal i → rests_on es i j ≡ true → Needed es goal j

-- leaves every theory as it is
abbrev pub is_idle : Object → Bool
is_idle e = begins_with "EVAL" e || (begins_with "PRINT" e || sets_profile 1 e)

-- After a switch nobody can say what a checker looks at: then all is kept that changes the theory.
abbrev pub IsKept : List Object → ℕ → ℕ → Type 0
IsKept es goal j = pick (some_passes (begins_with "SWITCH") (take goal es)) ((j ≤ goal) × (is_idle (event_at es j) ≡ false)) (Needed es goal j)

abbrev pub is_ascending : List ℕ → Bool
is_ascending (i ∷ j ∷ js) = ltb i j && is_ascending (j ∷ js)
is_ascending _ = true

-- the places of the events kept, in order
pub record IsSlice (es : List Object) (goal : ℕ) (places : List ℕ) : Type 0 where
  pub ascending : is_ascending places ≡ true
  pub just : (j : ℕ) → (some_passes (λ i. eqb i j) places ≡ true) ↔ IsKept es goal j
