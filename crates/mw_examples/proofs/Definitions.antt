-- Definitions, obligations and witnesses.
use Rattle.std.proofs.Common.{[], ◌∷◌, refl}
use Rattle.mw_model.specs.Events.Refusal.{need, must, unless}
use Rattle.mw_model.specs.Reports.Report.{Done, SomeRefused}
use Rattle.mw_examples.proofs.Reports.{AreReported, example, check, check_lines, check_lines_within}

definitions_are_judged : AreReported
    (example "defined function has an axiom and keeps its name" (check_lines ("(define twice (x) (+ x x) nil ())" ∷ "(verify use (pequal* (twice x) (+ x x)) (axiom (pequal* (twice x) (+ x x))))" ∷ "(define twice (x) x nil ())" ∷ "(eval (twice 4))" ∷ [])) ("1 DEFINE TWICE accepted" ∷ "2 VERIFY USE accepted" ∷ "3 DEFINE TWICE refused NAME" ∷ "4 EVAL - accepted 8" ∷ "events 4 accepted 3 refused 1 level 1" ∷ []) SomeRefused
    ∷ example "abbreviation word is no name of a function" (check "(define list (x) x nil ())") ("1 DEFINE LIST refused NAME" ∷ "events 1 accepted 0 refused 1 level 1" ∷ []) SomeRefused
    ∷ example "each refusal of a definition leaves its name free" (check "(define if (x) x nil ()) (define k (x x) x nil ()) (define k (x) (car x x) nil ()) (define k (x) y nil ()) (define k (x) x nil (a)) (eval x) (define k (x) x nil ())") ("1 DEFINE IF refused NAME" ∷ "2 DEFINE K refused FORMALS" ∷ "3 DEFINE K refused TERM" ∷ "4 DEFINE K refused VARIABLES" ∷ "5 DEFINE K refused COUNT" ∷ "6 EVAL - refused VARIABLES" ∷ "7 DEFINE K accepted" ∷ "events 7 accepted 1 refused 6 level 1" ∷ []) SomeRefused
    ∷ example "recursion owes proofs" (check "(define f (x) (f x) x ())") ("1 DEFINE F refused COUNT" ∷ "events 1 accepted 0 refused 1 level 1" ∷ []) SomeRefused
    -- The lambda's actual is put for its formal, so that (g (g x)) is called.
    ∷ example "recursive call in an actual is nested" (check "(define g (x) ((lambda (y) (g y)) (g x)) x ())") ("1 DEFINE G refused NESTED" ∷ "events 1 accepted 0 refused 1 level 1" ∷ []) SomeRefused
    ∷ example "call of a witness ends without a value" (check_lines_within 1 ("(skolem pick y (x) (equal x y))" ∷ "(eval (pick 1))" ∷ "(eval (if nil (pick 1) 2))" ∷ [])) ("1 SKOLEM PICK accepted" ∷ "2 EVAL - refused WITNESS" ∷ "3 EVAL - accepted 2" ∷ "events 3 accepted 2 refused 1 level 1" ∷ []) SomeRefused
    ∷ example "words of the syntax may be formals" (check "(define f (quote if and) quote nil ()) (eval (f 1 2 3))") ("1 DEFINE F accepted" ∷ "2 EVAL - accepted 1" ∷ "events 2 accepted 2 refused 0 level 1" ∷ []) Done
    ∷ example "words of events may be functions" (check "(define verify (x) x nil ()) (define step (x) x nil ())") ("1 DEFINE VERIFY accepted" ∷ "2 DEFINE STEP accepted" ∷ "events 2 accepted 2 refused 0 level 1" ∷ []) Done
    ∷ [])
unfolding need must unless
definitions_are_judged = refl
