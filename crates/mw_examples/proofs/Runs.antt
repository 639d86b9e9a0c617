-- Runs: their values, their steps, and where they end without a value.
use Rattle.std.proofs.Common.{[], ◌∷◌, refl}
use Rattle.mw_model.specs.Events.Refusal.{need, must, unless}
use Rattle.mw_model.specs.Reports.Report.{Done, SomeRefused}
use Rattle.mw_examples.proofs.Reports.{AreReported, example, check, check_lines_within, check_within}

runs_take_steps : AreReported
    (example "second sum wants a second step" (check_within 1 "(eval (+ (+ 1 1) 1))") ("1 EVAL - refused STEPS" ∷ "events 1 accepted 0 refused 1 level 1" ∷ []) SomeRefused
    ∷ example "two sums take two steps" (check_within 2 "(eval (+ (+ 1 1) 1))") ("1 EVAL - accepted 3" ∷ "events 1 accepted 1 refused 0 level 1" ∷ []) Done
    ∷ example "call and sum take two steps" (check_lines_within 2 ("(define twice (x) (+ x x) nil ())" ∷ "(eval (twice 4))" ∷ [])) ("1 DEFINE TWICE accepted" ∷ "2 EVAL - accepted 8" ∷ "events 2 accepted 2 refused 0 level 1" ∷ []) Done
    ∷ example "call without a step for its body ends" (check_lines_within 1 ("(define twice (x) (+ x x) nil ())" ∷ "(eval (twice 4))" ∷ [])) ("1 DEFINE TWICE accepted" ∷ "2 EVAL - refused STEPS" ∷ "events 2 accepted 1 refused 1 level 1" ∷ []) SomeRefused
    ∷ example "lambda call takes no step" (check_within 1 "(eval ((lambda (x y) (cons y x)) 1 2))") ("1 EVAL - accepted (2 . 1)" ∷ "events 1 accepted 1 refused 0 level 1" ∷ []) Done
    ∷ example "branch not taken is not run" (check_within 1 "(eval (if nil (+ 1 1) 2))") ("1 EVAL - accepted 2" ∷ "events 1 accepted 1 refused 0 level 1" ∷ []) Done
    ∷ example "or runs its first part twice where it is true" (check_within 2 "(eval (or (+ 1 1) 2))") ("1 EVAL - accepted 2" ∷ "events 1 accepted 1 refused 0 level 1" ∷ []) Done
    ∷ example "or wants a step for each time" (check_within 1 "(eval (or (+ 1 1) 2))") ("1 EVAL - refused STEPS" ∷ "events 1 accepted 0 refused 1 level 1" ∷ []) SomeRefused
    ∷ example "three primitives take three steps" (check_within 3 "(eval (equal (cons 1 2) (cons 1 2)))") ("1 EVAL - accepted T" ∷ "events 1 accepted 1 refused 0 level 1" ∷ []) Done
    ∷ example "length of three members takes fourteen steps" (check_within 14 "(eval (logic.len '(1 2 3)))") ("1 EVAL - accepted 3" ∷ "events 1 accepted 1 refused 0 level 1" ∷ []) Done
    ∷ example "length of three members wants the fourteenth step" (check_within 13 "(eval (logic.len '(1 2 3)))") ("1 EVAL - refused STEPS" ∷ "events 1 accepted 0 refused 1 level 1" ∷ []) SomeRefused
    ∷ [])
unfolding need must unless
runs_take_steps = refl

runs_have_values : AreReported
    (example "number counts as nil among symbols" (check "(eval (symbol-< 7 'z))") ("1 EVAL - accepted T" ∷ "events 1 accepted 1 refused 0 level 1" ∷ []) Done
    ∷ example "equal pairs are equal" (check "(eval (cons 'zz 1)) (eval (equal '(zz . 1) (cons 'zz 1)))") ("1 EVAL - accepted (ZZ . 1)" ∷ "2 EVAL - accepted T" ∷ "events 2 accepted 2 refused 0 level 1" ∷ []) Done
    ∷ example "abbreviations are expanded" (check "(eval (let ((x 1)) (list x (first '(7 8)))))") ("1 EVAL - accepted (1 7)" ∷ "events 1 accepted 1 refused 0 level 1" ∷ []) Done
    ∷ example "let without bindings is its body" (check "(eval (let () 1))") ("1 EVAL - accepted 1" ∷ "events 1 accepted 1 refused 0 level 1" ∷ []) Done
    ∷ example "reference checker knows a given axiom" (check "(eval (logic.proofp '(axiom (pequal* x x)) '((pequal* x x)) nil nil))") ("1 EVAL - accepted T" ∷ "events 1 accepted 1 refused 0 level 1" ∷ []) Done
    ∷ example "reference checker knows no axiom by itself" (check "(eval (logic.proofp '(axiom (pequal* x x)) nil nil nil))") ("1 EVAL - accepted NIL" ∷ "events 1 accepted 1 refused 0 level 1" ∷ []) Done
    ∷ [])
unfolding need must unless
runs_have_values = refl

ordinals_are_compared : AreReported
    (example "omega is an ordinal" (check "(eval (ordp '((1 . 1) . 0)))") ("1 EVAL - accepted T" ∷ "events 1 accepted 1 refused 0 level 1" ∷ []) Done
    ∷ example "leading exponent zero is no ordinal" (check "(eval (ordp '((0 . 1) . 0)))") ("1 EVAL - accepted NIL" ∷ "events 1 accepted 1 refused 0 level 1" ∷ []) Done
    ∷ example "natural is below omega" (check "(eval (ord< 5 '((1 . 1) . 0)))") ("1 EVAL - accepted T" ∷ "events 1 accepted 1 refused 0 level 1" ∷ []) Done
    ∷ example "coefficient counts before the rest" (check "(eval (ord< '((1 . 2) . 0) '((1 . 1) . 9)))") ("1 EVAL - accepted NIL" ∷ "events 1 accepted 1 refused 0 level 1" ∷ []) Done
    ∷ [])
unfolding need must unless
ordinals_are_compared = refl

runs_end_without_a_value : AreReported
    (example "sum past range overflows" (check "(eval (+ 340282366920938463463374607431768211455 1))") ("1 EVAL - refused OVERFLOW" ∷ "events 1 accepted 0 refused 1 level 1" ∷ []) SomeRefused
    ∷ example "sum without a step left does not overflow" (check_within 1 "(eval (+ (+ 340282366920938463463374607431768211455 0) 1))") ("1 EVAL - refused STEPS" ∷ "events 1 accepted 0 refused 1 level 1" ∷ []) SomeRefused
    ∷ example "call of a witness wants no step" (check_within 1 "(skolem pick y (x) (equal x y)) (eval (pick (+ 1 1)))") ("1 SKOLEM PICK accepted" ∷ "2 EVAL - refused WITNESS" ∷ "events 2 accepted 1 refused 1 level 1" ∷ []) SomeRefused
    ∷ example "provability is a witness without a value" (check "(eval (logic.provablep '(pequal* x x) nil nil nil))") ("1 EVAL - refused WITNESS" ∷ "events 1 accepted 0 refused 1 level 1" ∷ []) SomeRefused
    ∷ example "abbreviation of a wrong form is no term" (check "(eval (let x 1)) (eval (cond 1))") ("1 EVAL - refused TERM" ∷ "2 EVAL - refused TERM" ∷ "events 2 accepted 0 refused 2 level 1" ∷ []) SomeRefused
    ∷ [])
unfolding need must unless
runs_end_without_a_value = refl
