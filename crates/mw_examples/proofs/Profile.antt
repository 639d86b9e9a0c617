-- The profile with multiplication.
use Rattle.std.proofs.Common.{[], ◌∷◌, refl}
use Rattle.mw_model.specs.Events.Refusal.{need, must, unless}
use Rattle.mw_model.specs.Reports.Report.{Done, SomeRefused}
use Rattle.mw_examples.proofs.Reports.{AreReported, example, check}

products_are_computed_under_the_profile : AreReported
    (example "products are cut at the same bound as sums" (check "(profile 2) (eval (* 18446744073709551615 18446744073709551617)) (eval (* 18446744073709551616 18446744073709551616)) (eval (* 3 (* 'a 5)))") ("1 PROFILE - accepted" ∷ "2 EVAL - accepted 340282366920938463463374607431768211455" ∷ "3 EVAL - refused OVERFLOW" ∷ "4 EVAL - accepted 0" ∷ "events 4 accepted 3 refused 1 level 1" ∷ []) SomeRefused
    ∷ example "star is free without the profile" (check "(eval (* 2 3)) (define * (a b) a nil ())") ("1 EVAL - refused TERM" ∷ "2 DEFINE * accepted" ∷ "events 2 accepted 1 refused 1 level 1" ∷ []) SomeRefused
    ∷ example "star is taken under the profile" (check "(profile 2) (define * (a b) a nil ())") ("1 PROFILE - accepted" ∷ "2 DEFINE * refused NAME" ∷ "events 2 accepted 1 refused 1 level 1" ∷ []) SomeRefused
    ∷ [])
unfolding need must unless
products_are_computed_under_the_profile = refl

profile_is_fixed_by_what_changes_the_theory : AreReported
    (example "profile is changed once" (check "(profile 3) (profile 2) (profile 2)") ("1 PROFILE - refused PROFILE" ∷ "2 PROFILE - accepted" ∷ "3 PROFILE - refused PROFILE" ∷ "events 3 accepted 1 refused 2 level 1" ∷ []) SomeRefused
    ∷ example "profile comes before the first definition" (check "(define k (x) x nil ()) (profile 2)") ("1 DEFINE K accepted" ∷ "2 PROFILE - refused PROFILE" ∷ "events 2 accepted 1 refused 1 level 1" ∷ []) SomeRefused
    ∷ example "printing before the profile does not matter" (check "(print 1) (profile 2)") ("1 PRINT - accepted 1" ∷ "2 PROFILE - accepted" ∷ "events 2 accepted 2 refused 0 level 1" ∷ []) Done
    ∷ example "only what changes the theory fixes the profile" (check "(profile 1) (eval 1) (define k (x) y nil ()) (profile 1) (profile 2)") ("1 PROFILE - accepted" ∷ "2 EVAL - accepted 1" ∷ "3 DEFINE K refused VARIABLES" ∷ "4 PROFILE - accepted" ∷ "5 PROFILE - accepted" ∷ "events 5 accepted 4 refused 1 level 1" ∷ []) SomeRefused
    ∷ example "profile comes before the first theorem" (check "(verify a (pequal* x x) (axiom (pequal* x x))) (profile 1)") ("1 VERIFY A accepted" ∷ "2 PROFILE - refused PROFILE" ∷ "events 2 accepted 1 refused 1 level 1" ∷ []) SomeRefused
    ∷ [])
unfolding need must unless
profile_is_fixed_by_what_changes_the_theory = refl
