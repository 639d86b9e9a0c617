-- Functions as total ones: the value of a term where each call has an answer, and answers by as many levels as the falling argument has pairs.
use Rattle.std.specs.Prelude.{ℕ, zero, suc, ◌+◌, Bool, true, false, ◌&&◌, ◌||◌, not, cond, List, [], ◌∷◌, Option, Some, None, is_some}
use Rattle.mw_model.specs.Terms.Object.{Name, Object, Natural, Symbol, Pair, same_name, nil_name, NIL}
use Rattle.mw_model.specs.Terms.Term.{Term, Terms, Variable, Constant, If, Call, Lambda, NoTerms, More, is_among}
use Rattle.mw_model.specs.Values.Primitive.{Profile, Primitive, Car, Cdr, IsPair, primitive_named, apply, first_value, choose}
use Rattle.mw_model.specs.Values.Definition.{Function}
use Rattle.mw_model.specs.Values.Value.{Environment, lookup, bind}

-- an answer for each call
abbrev pub Answers : Type 0
Answers = Name → List Object → Object

abbrev pub answer_on : Option Primitive → (List Object → Object) → List Object → Object
answer_on None answer vs = answer vs
answer_on (Some p) answer vs = apply p vs

abbrev mutual
  pub value_at : Profile → Answers → Environment → Term → Object
  value_at P R e (Variable x) = lookup e x
  value_at P R e (Constant c) = c
  value_at P R e (If a b c) = choose (value_at P R e a) (value_at P R e b) (value_at P R e c)
  value_at P R e (Call f ts) = answer_on (primitive_named P f) (R f) (values_at P R e ts)
  value_at P R e (Lambda xs b ts) = value_at P R (bind xs (values_at P R e ts)) b

  pub values_at : Profile → Answers → Environment → Terms → List Object
  values_at P R e NoTerms = []
  values_at P R e (More t ts) = value_at P R e t ∷ values_at P R e ts

abbrev pub rest_values : List Object → List Object
rest_values [] = []
rest_values (v ∷ vs) = vs

-- the value for the formal x
abbrev pub value_for : Name → List Name → List Object → Object
value_for x [] vs = NIL
value_for x (y ∷ ys) vs = cond (same_name y x) (first_value vs) (value_for x ys (rest_values vs))

abbrev pub pairs : Object → ℕ
pairs (Natural n) = 0
pairs (Symbol s) = 0
pairs (Pair a b) = suc (pairs a + pairs b)

-- R, but for the calls of g
abbrev pub except : Answers → Name → (List Object → Object) → Answers
except R g answer f vs = cond (same_name g f) (answer vs) (R f vs)

unfoldable pub answer_within : Profile → Answers → Function → ℕ → List Object → Object
answer_within P R h zero vs = NIL
answer_within P R h (suc k) vs = value_at P (except R h.name (answer_within P R h k)) (bind h.formals vs) h.body

-- calls of primitives and of the names N alone
abbrev mutual
  pub calls_among : Profile → List Name → Term → Bool
  calls_among P N (Variable x) = true
  calls_among P N (Constant c) = true
  calls_among P N (If a b c) = calls_among P N a && (calls_among P N b && calls_among P N c)
  calls_among P N (Call f ts) = all_calls_among P N ts && (is_some (primitive_named P f) || is_among f N)
  calls_among P N (Lambda xs b ts) = all_calls_among P N ts && calls_among P N b

  pub all_calls_among : Profile → List Name → Terms → Bool
  all_calls_among P N NoTerms = true
  all_calls_among P N (More t ts) = calls_among P N t && all_calls_among P N ts

abbrev pub takes_part : Option Primitive → Bool
takes_part (Some Car) = true
takes_part (Some Cdr) = true
takes_part _ = false

-- x, or what CAR and CDR take of it
abbrev mutual
  pub is_within : Profile → Name → Term → Bool
  is_within P x (Variable y) = same_name y x
  is_within P x (Constant c) = false
  is_within P x (If a b c) = false
  is_within P x (Call f ts) = takes_part (primitive_named P f) && first_is_within P x ts
  is_within P x (Lambda xs b ts) = false

  pub first_is_within : Profile → Name → Terms → Bool
  first_is_within P x NoTerms = false
  first_is_within P x (More t ts) = is_within P x t

-- one CAR or CDR at least
abbrev pub is_part : Profile → Name → Term → Bool
is_part P x (Call f ts) = takes_part (primitive_named P f) && first_is_within P x ts
is_part P x _ = false

abbrev pub is_pair_test : Option Primitive → Bool
is_pair_test (Some IsPair) = true
is_pair_test _ = false

abbrev pub is_variable_of : Name → Term → Bool
is_variable_of x (Variable y) = same_name y x
is_variable_of x _ = false

abbrev pub first_is_variable : Name → Terms → Bool
first_is_variable x NoTerms = false
first_is_variable x (More t ts) = is_variable_of x t

-- the test that x is a pair
abbrev pub tests_pair : Profile → Name → Term → Bool
tests_pair P x (Call f ts) = is_pair_test (primitive_named P f) && first_is_variable x ts
tests_pair P x _ = false

abbrev pub first_term : Terms → Term
first_term NoTerms = Constant NIL
first_term (More t ts) = t

abbrev pub rest_terms : Terms → Terms
rest_terms NoTerms = NoTerms
rest_terms (More t ts) = ts

abbrev pub actual_for : Name → List Name → Terms → Term
actual_for x [] ts = Constant NIL
actual_for x (y ∷ ys) ts = cond (same_name y x) (first_term ts) (actual_for x ys (rest_terms ts))

-- Calls of primitives, of the names N, and of g where the actual for x is a part of x. k: x is known to be a pair.
abbrev mutual
  pub descends : Profile → List Name → Name → Name → List Name → Bool → Term → Bool
  descends P N g x xs k (Variable y) = true
  descends P N g x xs k (Constant c) = true
  descends P N g x xs k (If a b c) = descends P N g x xs k a && (descends P N g x xs (k || tests_pair P x a) b && descends P N g x xs k c)
  descends P N g x xs k (Call f ts) =
      all_descend P N g x xs k ts && (is_some (primitive_named P f) || (is_among f N || (same_name g f && (k && is_part P x (actual_for x xs ts)))))
  descends P N g x xs k (Lambda ys b ts) = all_descend P N g x xs k ts && calls_among P N b

  pub all_descend : Profile → List Name → Name → Name → List Name → Bool → Terms → Bool
  all_descend P N g x xs k NoTerms = true
  all_descend P N g x xs k (More t ts) = descends P N g x xs k t && all_descend P N g x xs k ts

abbrev pub first_that : (Name → Bool) → List Name → Name
first_that test [] = nil_name
first_that test (x ∷ xs) = cond (test x) x (first_that test xs)

-- the first formal that falls in each recursive call, over older functions of the names N
abbrev pub falling : Profile → List Name → Function → Name
falling P N h = first_that (λ x. descends P N h.name x h.formals false h.body) h.formals

abbrev pub names : List Function → List Name
names [] = []
names (h ∷ B) = h.name ∷ names B

-- each function is new, and descends over the older ones; newest first
abbrev pub are_descending : Profile → List Function → Bool
are_descending P [] = true
are_descending P (h ∷ B) =
    descends P (names B) h.name (falling P (names B) h) h.formals false h.body && (not (is_among h.name (names B)) && are_descending P B)

-- the number of levels that a call needs
abbrev pub levels : Profile → List Name → Function → List Object → ℕ
levels P N h vs = suc (pairs (value_for (falling P N h) h.formals vs))

-- the answers of functions, newest first
unfoldable pub answers : Profile → List Function → Answers
answers P [] f vs = NIL
answers P (h ∷ B) f vs = except (answers P B) h.name (λ us. answer_within P (answers P B) h (levels P (names B) h us) us) f vs
