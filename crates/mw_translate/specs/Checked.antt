-- Terms that are made if a function takes as many arguments as are given.
use Rattle.std.specs.Prelude.{◌≡◌, ℕ, zero, suc, Bool, false, ◌&&◌, ◌||◌, not, eqb, cond, List, length, Option, Some, None}
use Rattle.mw_model.specs.Terms.Object.{Name, Object, Symbol, Pair, named, symbol, same_name, same_object, list2, list3, NIL}
use Rattle.mw_model.specs.Terms.Term.{Term, ArityTable, arity_of, has_arity, are_formals, is_closed}
use Rattle.mw_model.specs.Terms.Reading.{names_of}
use Rattle.mw_heap.specs.Objects.{object_at, IsIn}
use Rattle.mw_translate.specs.declared.progress.Progress.{Progress}
use Rattle.mw_translate.specs.declared.progress.Progress.TheVariants as progress
use Rattle.mw_translate.specs.Meaning.{Meaning}

-- the meaning was made, or there is none
abbrev pub IsMade : List Object → Option Meaning → Progress → Type 0
IsMade os goal (progress.Made m) = IsIn os m.object × (goal ≡ Some (object_at os m.object, m.count))
IsMade os goal (progress.Wants p) = ⊥
IsMade os goal progress.Fails = goal ≡ None

-- x is NIL, and the constant was made; or it is not
abbrev pub IsConstantEnd : List Object → List Object → ℕ → Object → Progress → Type 0
IsConstantEnd old new x c (progress.Made m) = (object_at old x ≡ NIL) × IsIn new m.object × (object_at new m.object ≡ list2 (symbol "QUOTE") c) × (m.count ≡ 0)
IsConstantEnd old new x c (progress.Wants p) = ⊥
IsConstantEnd old new x c progress.Fails = same_object (object_at old x) NIL ≡ false

-- x where the test holds
abbrev pub given : Bool → Object → Option Meaning
given b x = cond b (Some (x, 0)) None

-- (cdr .. (cdr a))
abbrev pub cdrs : ℕ → Object → Object
cdrs zero a = a
cdrs (suc n) a = list2 (symbol "CDR") (cdrs n a)

-- the head of a lambda call, where the list is one of formals and the body has no other variables
abbrev pub head_of : Object → Object → Option (List Name) → Term → Object → Option Meaning
head_of l xs None t b = None
head_of l xs (Some names) t b = cond (are_formals names && is_closed names t) (Some (list3 l xs b, length names)) None

abbrev pub head_made : Object → Object → Object → Term → Option Meaning
head_made l xs b t = head_of l xs (names_of xs) t b

module _ (A : ArityTable) where
  abbrev pub takes : Name → ℕ → Bool
  takes f n = has_arity (arity_of A f) n

  -- (if a b c)
  abbrev pub if_made : Object → Object → Object → Option Meaning
  if_made a b c = given (takes (named "IF") 3) (Pair (symbol "IF") (list3 a b c))

  -- (cons a b)
  abbrev pub cons_made : Object → Object → Option Meaning
  cons_made a b = given (takes (named "CONS") 2) (list3 (symbol "CONS") a b)

  -- (f . actuals), of n actuals
  abbrev pub call_made : Name → Object → ℕ → Option Meaning
  call_made f actuals n = given (takes f n && (not (same_name f (named "IF")) || eqb n 3)) (Pair (Symbol f) actuals)

  -- CAR takes one, and CDR too where it is needed
  abbrev pub has_places : ℕ → Bool
  has_places n = takes (named "CAR") 1 && (eqb n 0 || takes (named "CDR") 1)

  abbrev pub place_made : ℕ → Object → Option Meaning
  place_made n a = given (has_places n) (list2 (symbol "CAR") (cdrs n a))
