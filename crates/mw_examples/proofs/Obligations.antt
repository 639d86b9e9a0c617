-- Obligations, and recursive definitions where the obligations are theorems already.
use Rattle.std.proofs.Common.{◌≡◌, List, [], ◌∷◌, refl, map, codes}
use Prim.Native.String.{String}
use Rattle.mw_model.specs.Terms.Object.{Object, Pair, named, NIL, T}
use Rattle.mw_model.specs.Terms.Term.{Constant, If, formula_object}
use Rattle.mw_model.specs.Values.Primitive.{One}
use Rattle.mw_model.specs.Values.Definition.{Function}
use Rattle.mw_model.specs.Events.Obligation.{obligations}
use Rattle.mw_model.specs.Events.Writing.{call, var}
use Rattle.mw_model.specs.Laws.BuiltInText.{joined}
use Rattle.mw_model.specs.Events.Theory.{Theory, initial}
use Rattle.mw_model.specs.Texts.Lexemes.{Ends}
use Rattle.mw_model.specs.Texts.Grammar.{reading}
use Rattle.mw_model.specs.Events.Refusal.{need, must, unless}
use Rattle.mw_model.specs.Reports.Report.{lines}

abbrev data_in : String → List Object
data_in text = (reading Ends (codes text)).events

abbrev h : Function
h = record { name = named "H"; formals = named "X" ∷ []; body = If (call "H" (call "CDR" (var "X" ∷ []) ∷ [])) (call "H" (call "CAR" (var "X" ∷ []) ∷ [])) (var "X") }

-- a test that mentions the function is left out
test_that_mentions_the_function_is_left_out : map formula_object (obligations (h ∷ []) ((named "H", call "RANK" (var "X" ∷ [])) ∷ [])) ≡ data_in "(pequal* (ordp (rank x)) 't) (pequal* (ord< (rank (cdr x)) (rank x)) 't) (pequal* (ord< (rank (car x)) (rank x)) 't)"
test_that_mentions_the_function_is_left_out = refl

abbrev twice : Function
twice = record { name = named "F"; formals = named "X" ∷ []; body = If (var "X") (If (var "X") (call "CONS" (call "F" (call "CDR" (var "X" ∷ []) ∷ []) ∷ call "F" (call "CDR" (var "X" ∷ []) ∷ []) ∷ [])) (var "X")) (var "X") }

equal_obligations_are_owed_once_and_equal_tests_stay : map formula_object (obligations (twice ∷ []) ((named "F", call "RANK" (var "X" ∷ [])) ∷ [])) ≡ data_in "(pequal* (ordp (rank x)) 't) (por* (pequal* x 'nil) (por* (pequal* x 'nil) (pequal* (ord< (rank (cdr x)) (rank x)) 't)))"
equal_obligations_are_owed_once_and_equal_tests_stay = refl

abbrev even : Function
even = record { name = named "EV"; formals = named "X" ∷ []; body = If (call "CONSP" (var "X" ∷ [])) (call "OD" (call "CDR" (var "X" ∷ []) ∷ [])) (Constant T) }

abbrev odd : Function
odd = record { name = named "OD"; formals = named "X" ∷ []; body = If (call "CONSP" (var "X" ∷ [])) (call "EV" (call "CDR" (var "X" ∷ []) ∷ [])) (Constant NIL) }

-- of the four that the two bodies owe, two are repeated
block_owes_equal_obligations_once : map formula_object (obligations (even ∷ odd ∷ []) ((named "EV", call "RANK" (var "X" ∷ [])) ∷ (named "OD", call "RANK" (var "X" ∷ [])) ∷ [])) ≡ data_in "(pequal* (ordp (rank x)) 't) (por* (pequal* (consp x) 'nil) (pequal* (ord< (rank (cdr x)) (rank x)) 't))"
block_owes_equal_obligations_once = refl

abbrev listed : List Object → Object
listed [] = NIL
listed (x ∷ xs) = Pair x (listed xs)

-- the initial theory with these formulas for theorems
abbrev with_theorems : String → Theory
with_theorems text = record (initial One) { theorems = listed (data_in text) }

abbrev rank_falls : Theory
rank_falls = with_theorems "(pequal* (ordp (rank x)) 't) (por* (pequal* (consp x) 'nil) (pequal* (ord< (rank (cdr x)) (rank x)) 't))"

abbrev app_book : String
app_book =
    "(define app (x y) (if (consp x) (cons (car x) (app (cdr x) y)) y) (rank x) ((theorem (pequal* (ordp (rank x)) 't)) (theorem (por* (pequal* (consp x) 'nil) (pequal* (ord< (rank (cdr x)) (rank x)) 't))))) (eval (app '(1 2) '(3)))"

recursive_definition_is_accepted_and_runs : lines 1 rank_falls (data_in app_book) 10000000 ≡ joined ("1 DEFINE APP accepted" ∷ "2 EVAL - accepted (1 2 3)" ∷ [])
unfolding need must unless
recursive_definition_is_accepted_and_runs = refl

abbrev even_book : String
even_book =
    "(define-all ((ev (x) (if (consp x) (od (cdr x)) t) (rank x)) (od (x) (if (consp x) (ev (cdr x)) nil) (rank x))) ((theorem (pequal* (ordp (rank x)) 't)) (theorem (por* (pequal* (consp x) 'nil) (pequal* (ord< (rank (cdr x)) (rank x)) 't))))) (eval (ev '(1 2)))"

block_is_accepted_and_runs_in_eight_steps : lines 1 rank_falls (data_in even_book) 8 ≡ joined ("1 DEFINE-ALL - accepted" ∷ "2 EVAL - accepted T" ∷ [])
unfolding need must unless
block_is_accepted_and_runs_in_eight_steps = refl

call_through_a_block_wants_eight_steps : lines 1 rank_falls (data_in even_book) 7 ≡ joined ("1 DEFINE-ALL - accepted" ∷ "2 EVAL - refused STEPS" ∷ [])
unfolding need must unless
call_through_a_block_wants_eight_steps = refl
