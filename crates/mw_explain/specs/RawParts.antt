-- The parts of a raw term that should be raw terms, and where to look on for the first that is none.
use Rattle.std.specs.Prelude.{◌≡◌, ℕ, ◌<◌, ◌≤◌, Bool, cond, List, [], ◌∷◌, ◌++◌, map, Option, Some, None, is_some}
use Rattle.std.specs.Option.{option_or}
use Rattle.mw_model.specs.Terms.Object.{Object, Symbol, Pair}
use Rattle.mw_model.specs.Terms.Term.{ArityTable, arity_of}
use Rattle.mw_model.specs.Events.Expansion.{Abbreviation, COND, LET, LETSTAR, QUOTE, Other, abbreviation_of, expand}
use Rattle.mw_heap.specs.Objects.{object_at}
use Rattle.mw_commands.specs.Commands.ExplanationTerms.{bad_raw}
use Rattle.mw_bad_steps.specs.Members.{members_in}

-- the members of clauses; of what follows the names of bindings; of bindings and a body
abbrev pub clause_members : Object → List Object
clause_members (Pair a r) = members_in a ++ clause_members r
clause_members _ = []

abbrev pub binding_members : Object → List Object
binding_members (Pair (Pair x e) r) = members_in e ++ binding_members r
binding_members _ = []

abbrev pub let_members : Object → List Object
let_members (Pair ps b) = binding_members ps ++ members_in b
let_members _ = []

-- of what follows a word of this meaning, which the table has or not
abbrev pub called_members : Bool → Object → List Object
called_members known r = cond known (members_in r) []

abbrev pub form_members : Bool → Abbreviation → Object → List Object
form_members known meaning r = elim meaning [ QUOTE ↦ [] | COND ↦ clause_members r | LET ↦ let_members r | LETSTAR ↦ let_members r | Other ↦ called_members known r | _ ↦ members_in r ]

-- of a lambda call: the body and the actuals
abbrev pub lambda_members : Object → Object → List Object
lambda_members (Pair l (Pair xs (Pair b z))) r = b ∷ members_in r
lambda_members _ r = []

abbrev pub raw_parts : ArityTable → Object → List Object
raw_parts A (Pair (Symbol f) r) = form_members (is_some (arity_of A f)) (abbreviation_of f) r
raw_parts A (Pair h r) = lambda_members h r
raw_parts A _ = []

-- the first thing that is found in some of these
abbrev pub found_in : (Object → Option Object) → List Object → Option Object
found_in look [] = None
found_in look (x ∷ xs) = option_or (look x) (found_in look xs)

-- all are before n
abbrev pub AreBefore : ℕ → List ℕ → Type 0
AreBefore n [] = Unit {0}
AreBefore n (r ∷ rs) = (r < n) × AreBefore n rs

-- these objects, which are parts of x, were put behind the others
pub record PutsParts (os : List Object) (x : ℕ) (ps : List Object) (old new : List ℕ) : Type 0 where
  pub parts : map (object_at os) new ≡ map (object_at os) old ++ ps
  pub before : (n : ℕ) → x ≤ n → AreBefore n old → AreBefore n new

-- the first of these parts that does not expand to a term
abbrev pub IsFirstBad : ArityTable → List Object → List ℕ → Option ℕ → Type 0
IsFirstBad A os ps None = found_in (bad_raw A) (map (object_at os) ps) ≡ None
IsFirstBad A os ps (Some p) = (expand A (object_at os p) ≡ None) × ((n : ℕ) → AreBefore n ps → p < n) × (found_in (bad_raw A) (map (object_at os) ps) ≡ bad_raw A (object_at os p))

-- where to look on in x, which does not expand: x itself is the part, or it is in p
abbrev pub LeadsRaw : ArityTable → List Object → ℕ → Option ℕ → Type 0
LeadsRaw A os x None = bad_raw A (object_at os x) ≡ Some (object_at os x)
LeadsRaw A os x (Some p) = (bad_raw A (object_at os x) ≡ bad_raw A (object_at os p)) × (p < x) × (expand A (object_at os p) ≡ None)
