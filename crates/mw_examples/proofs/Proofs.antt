-- Proofs that are accepted and proofs that are refused.
use Rattle.std.proofs.Common.{[], ◌∷◌, refl}
use Rattle.mw_model.specs.Events.Refusal.{need, must, unless}
use Rattle.mw_model.specs.Reports.Report.{Done, SomeRefused}
use Rattle.mw_examples.proofs.Reports.{AreReported, example, check, check_lines}

formulas_and_conclusions_are_judged : AreReported
    (example "verify by an axiom is accepted" (check "(verify refl (pequal* x x) (axiom (pequal* x x)))") ("1 VERIFY REFL accepted" ∷ "events 1 accepted 1 refused 0 level 1" ∷ []) Done
    ∷ example "schema with its parts swapped is no proof" (check "(verify s (por* (pequal* x y) (pnot* (pequal* x y))) (propositional-schema (por* (pequal* x y) (pnot* (pequal* x y)))))") ("1 VERIFY S refused PROOF" ∷ "events 1 accepted 0 refused 1 level 1" ∷ []) SomeRefused
    ∷ example "t and nil alone are no terms" (check "(verify z (pequal* t nil) (axiom (pequal* t nil)))") ("1 VERIFY Z refused FORMULA" ∷ "events 1 accepted 0 refused 1 level 1" ∷ []) SomeRefused
    ∷ example "t is not nil" (check "(verify z (pequal* 't 'nil) (axiom (pequal* 't 'nil)))") ("1 VERIFY Z refused PROOF" ∷ "events 1 accepted 0 refused 1 level 1" ∷ []) SomeRefused
    ∷ example "another conclusion than the formula is refused" (check "(verify c (pequal* x y) (axiom (pequal* x x)))") ("1 VERIFY C refused CONCLUSION" ∷ "events 1 accepted 0 refused 1 level 1" ∷ []) SomeRefused
    ∷ [])
unfolding need must unless
formulas_and_conclusions_are_judged = refl

instantiations_are_judged : AreReported
    (example "instantiation is simultaneous" (check_lines ("(verify swap (pequal* (+ b a) (+ a b)) (instantiation (pequal* (+ b a) (+ a b)) ((axiom (pequal* (+ a b) (+ b a)))) ((a . b) (b . a))))" ∷ "(verify swap (pequal* (+ a a) (+ a a)) (instantiation (pequal* (+ a a) (+ a a)) ((axiom (pequal* (+ a b) (+ b a)))) ((a . b) (b . a))))" ∷ [])) ("1 VERIFY SWAP accepted" ∷ "2 VERIFY SWAP refused PROOF" ∷ "events 2 accepted 1 refused 1 level 1" ∷ []) SomeRefused
    ∷ example "missing members of a proof are nil" (check "(verify a (pequal* x x) (axiom (pequal* x x) nil nil)) (verify b (pequal* x x) (instantiation (pequal* x x) ((axiom (pequal* x x)))))") ("1 VERIFY A accepted" ∷ "2 VERIFY B accepted" ∷ "events 2 accepted 2 refused 0 level 1" ∷ []) Done
    ∷ example "of two pairs for a variable the first counts" (check "(verify a (pequal* y y) (instantiation (pequal* y y) ((axiom (pequal* x x))) ((x . y) (x . z))))") ("1 VERIFY A accepted" ∷ "events 1 accepted 1 refused 0 level 1" ∷ []) Done
    ∷ example "each pair of a substitution holds a term" (check "(verify a (pequal* y y) (instantiation (pequal* y y) ((axiom (pequal* x x))) ((x . y) (x . t))))") ("1 VERIFY A refused PROOF" ∷ "events 1 accepted 0 refused 1 level 1" ∷ []) SomeRefused
    ∷ [])
unfolding need must unless
instantiations_are_judged = refl

rules_that_compute_are_judged : AreReported
    (example "beta reduction and functional equality are accepted" (check_lines ("(verify be (pequal* ((lambda (x) (cons x x)) '1) (cons '1 '1)) (beta-reduction (pequal* ((lambda (x) (cons x x)) '1) (cons '1 '1))))" ∷ "(verify fe (por* (pnot* (pequal* a b)) (pequal* (car a) (car b))) (functional-equality (por* (pnot* (pequal* a b)) (pequal* (car a) (car b)))))" ∷ [])) ("1 VERIFY BE accepted" ∷ "2 VERIFY FE accepted" ∷ "events 2 accepted 2 refused 0 level 1" ∷ []) Done
    ∷ example "functional equality of a function without actuals" (check "(define one () 1 nil ()) (verify o (pequal* (one) (one)) (functional-equality (pequal* (one) (one))))") ("1 DEFINE ONE accepted" ∷ "2 VERIFY O accepted" ∷ "events 2 accepted 2 refused 0 level 1" ∷ []) Done
    ∷ example "base eval stops subtraction at zero" (check "(verify d (pequal* (- '2 '5) '0) (base-eval (pequal* (- '2 '5) '0)))") ("1 VERIFY D accepted" ∷ "events 1 accepted 1 refused 0 level 1" ∷ []) Done
    ∷ example "base eval does not wrap and induction owes an ordinal" (check_lines ("(verify o (pequal* (+ '340282366920938463463374607431768211455 '1) '0) (base-eval (pequal* (+ '340282366920938463463374607431768211455 '1) '0)))" ∷ "(verify i (pequal* x x) (induction (pequal* x x) ((axiom (pequal* x x))) ('0 () ())))" ∷ [])) ("1 VERIFY O refused PROOF" ∷ "2 VERIFY I refused PROOF" ∷ "events 2 accepted 0 refused 2 level 1" ∷ []) SomeRefused
    ∷ example "the first two events of the trial book" (check_lines ("(verify trial (pequal* (+ '1 '1) '2) (base-eval (pequal* (+ '1 '1) '2)))" ∷ "(verify trial (por* (pequal* (+ '2 '4) '6) (pequal* x '2)) (cut (por* (pequal* (+ '2 '4) '6) (pequal* x '2)) ((expansion (por* (pequal* x '2) (pequal* (+ '2 '4) '6)) ((base-eval (pequal* (+ '2 '4) '6)))) (propositional-schema (por* (pnot* (pequal* x '2)) (pequal* x '2))))))" ∷ [])) ("1 VERIFY TRIAL accepted" ∷ "2 VERIFY TRIAL accepted" ∷ "events 2 accepted 2 refused 0 level 1" ∷ []) Done
    ∷ [])
unfolding need must unless
rules_that_compute_are_judged = refl
