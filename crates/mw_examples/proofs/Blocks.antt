-- Blocks of functions that call each other.
use Rattle.std.proofs.Common.{[], ◌∷◌, refl}
use Rattle.mw_model.specs.Events.Refusal.{need, must, unless}
use Rattle.mw_model.specs.Reports.Report.{SomeRefused}
use Rattle.mw_examples.proofs.Reports.{AreReported, example, check}

blocks_are_judged : AreReported
    (example "block with recursion owes proofs" (check "(define-all ((ev (x) (if (consp x) (od (cdr x)) t) (rank x)) (od (x) (if (consp x) (ev (cdr x)) nil) (rank x))) ())") ("1 DEFINE-ALL - refused COUNT" ∷ "events 1 accepted 0 refused 1 level 1" ∷ []) SomeRefused
    ∷ example "blocks refused for a name for no member and for nesting" (check "(define-all ((p (x) x nil) (p (x) x nil)) ()) (define-all () ()) (define-all ((p (x) (q (p x)) x) (q (x) x nil)) ())") ("1 DEFINE-ALL - refused NAME" ∷ "2 DEFINE-ALL - refused EVENT" ∷ "3 DEFINE-ALL - refused NESTED" ∷ "events 3 accepted 0 refused 3 level 1" ∷ []) SomeRefused
    ∷ example "nesting is sought with actuals put for formals" (check "(define-all ((p (x) ((lambda (y) (q y)) (p x)) x) (q (x) x nil)) ())") ("1 DEFINE-ALL - refused NESTED" ∷ "events 1 accepted 0 refused 1 level 1" ∷ []) SomeRefused
    ∷ [])
unfolding need must unless
blocks_are_judged = refl
