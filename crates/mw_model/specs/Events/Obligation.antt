-- What a block of functions owes: its measures are ordinals, and fall at each call of the block.
use Rattle.std.specs.Prelude.{Bool, true, false, cond, List, [], ◌∷◌, ◌++◌, map, Option, Some, None, ◌||◌, is_some, zip}
use Rattle.mw_model.specs.Terms.Object.{Name, named, same_name, NIL, T}
use Rattle.mw_model.specs.Terms.Term.{Term, Terms, Variable, Constant, If, Call, Lambda, NoTerms, More, Formula, Equal, Not, Or, firsts}
use Rattle.mw_model.specs.Terms.Same.{same_formula}
use Rattle.mw_model.specs.Terms.Substitution.{Substitution, substitute, substitute_each, actuals_for}
use Rattle.mw_model.specs.Values.Definition.{Function, function_named}

abbrev pub is_in_block : List Function → Name → Bool
is_in_block B f = is_some (function_named B f)

-- a name of the block is a called function somewhere in the term, lambda bodies included
abbrev mutual
  pub mentions : List Function → Term → Bool
  mentions B (If a b c) = mentions B a || (mentions B b || mentions B c)
  mentions B (Call f ts) = is_in_block B f || any_mentions B ts
  mentions B (Lambda xs b ts) = mentions B b || any_mentions B ts
  mentions B _ = false

  pub any_mentions : List Function → Terms → Bool
  any_mentions B NoTerms = false
  any_mentions B (More t ts) = mentions B t || any_mentions B ts

-- "a is not nil", "a is nil"
pub data Test : Type 0 where
  IsNotNil : Term → Test
  IsNil : Term → Test

-- a call of a function of the block, under its tests, outermost first
pub record RecursiveCall : Type 0 where
  pub function : Function
  pub tests : List Test
  pub actuals : Terms

abbrev pub under_test : Test → RecursiveCall → RecursiveCall
under_test t r = record { function = r.function; tests = t ∷ r.tests; actuals = r.actuals }

-- an actual of a lambda call, and the recursive calls in it
pub record Actual : Type 0 where
  pub term : Term
  pub calls : List RecursiveCall

-- a formal, and the actual that stands for it
abbrev pub Pending : Type 0
Pending = Name × Actual

abbrev pub pending_terms : List Pending → Substitution
pending_terms s = map (λ p. (p.0, p.1.term)) s

abbrev pub pending_calls : List Pending → Name → List RecursiveCall
pending_calls [] x = []
pending_calls (p ∷ s) x = cond (same_name p.0 x) p.1.calls (pending_calls s x)

abbrev pub all_calls : List Actual → List RecursiveCall
all_calls [] = []
all_calls (u ∷ us) = u.calls ++ all_calls us

abbrev pub call_or : Option Function → Terms → List RecursiveCall → List RecursiveCall
call_or None ts rs = rs
call_or (Some h) ts rs = record { function = h; tests = []; actuals = ts } ∷ []

-- The recursive calls of a term, from left to right. Of a lambda call they are those of its actuals and then those of
-- its body with the actuals substituted: the actuals are kept pending until a variable of the body is met.
abbrev mutual
  pub collect : List Function → List Pending → Term → List RecursiveCall
  collect B s (Variable x) = pending_calls s x
  collect B s (Constant c) = []
  collect B s (If a b c) =
      collect B s a ++ (map (under_test (IsNotNil (substitute (pending_terms s) a))) (collect B s b) ++
      map (under_test (IsNil (substitute (pending_terms s) a))) (collect B s c))
  collect B s (Call f ts) = call_or (function_named B f) (substitute_each (pending_terms s) ts) (all_calls (actuals_with B s ts))
  collect B s (Lambda xs b ts) = all_calls (actuals_with B s ts) ++ collect B (zip xs (actuals_with B s ts)) b

  pub actuals_with : List Function → List Pending → Terms → List Actual
  actuals_with B s NoTerms = []
  actuals_with B s (More t ts) = record { term = substitute (pending_terms s) t; calls = collect B s t } ∷ actuals_with B s ts

abbrev pub recursive_calls : List Function → Function → List RecursiveCall
recursive_calls B h = collect B [] h.body

-- a call of the block in an actual of a call of the block
abbrev pub some_nested : List Function → List RecursiveCall → Bool
some_nested B [] = false
some_nested B (r ∷ rs) = any_mentions B r.actuals || some_nested B rs

abbrev pub is_nested : List Function → List Function → Bool
is_nested B [] = false
is_nested B (h ∷ hs) = some_nested B (recursive_calls B h) || is_nested B hs

-- the measure for each name
abbrev pub Measures : Type 0
Measures = List (Name × Term)

abbrev pub measure_of : Measures → Name → Term
measure_of [] f = Constant NIL
measure_of (p ∷ M) f = cond (same_name p.0 f) p.1 (measure_of M f)

-- (ordp m) = 't, (ord< a b) = 't
abbrev pub ordinal_formula : Term → Formula
ordinal_formula m = Equal (Call (named "ORDP") (More m NoTerms)) (Constant T)

abbrev pub below_formula : Term → Term → Formula
below_formula a b = Equal (Call (named "ORD<") (More a (More b NoTerms))) (Constant T)

abbrev pub tested : Test → Term
tested (IsNotNil a) = a
tested (IsNil a) = a

-- what is left to show where the test fails
abbrev pub test_formula : Test → Formula
test_formula (IsNotNil a) = Equal a (Constant NIL)
test_formula (IsNil a) = Not (Equal a (Constant NIL))

-- A test that mentions the block is left out.
abbrev pub under_tests : List Function → List Test → Formula → Formula
under_tests B [] F = F
under_tests B (t ∷ ts) F = cond (mentions B (tested t)) (under_tests B ts F) (Or (test_formula t) (under_tests B ts F))

-- the measure of the called function, at the actuals, is below that of h
abbrev pub falls : Measures → Function → Function → Terms → Formula
falls M h called ts = below_formula (substitute (actuals_for called.formals ts) (measure_of M called.name)) (measure_of M h.name)

abbrev pub obligation : List Function → Measures → Function → RecursiveCall → Formula
obligation B M h r = under_tests B r.tests (falls M h r.function r.actuals)

abbrev pub owed : List Function → Measures → List Function → List Formula
owed B M [] = []
owed B M (h ∷ hs) = ordinal_formula (measure_of M h.name) ∷ (map (obligation B M h) (recursive_calls B h) ++ owed B M hs)

abbrev pub is_empty : {X : Type 0} → List X → Bool
is_empty [] = true
is_empty (x ∷ xs) = false

-- no body calls a function of the block
abbrev pub calls_none : List Function → List Function → Bool
calls_none B [] = true
calls_none B (h ∷ hs) = cond (is_empty (recursive_calls B h)) (calls_none B hs) false

-- the obligations of a block, in order; none where there is no recursive call
abbrev pub obligations : List Function → Measures → List Formula
obligations B M = cond (calls_none B B) [] (firsts same_formula (owed B M B))
