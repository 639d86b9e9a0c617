-- The shape of events, and the report on them.
use Rattle.std.proofs.Common.{[], ◌∷◌, refl}
use Rattle.mw_model.specs.Events.Refusal.{need, must, unless}
use Rattle.mw_model.specs.Reports.Report.{Done, SomeRefused}
use Rattle.mw_examples.proofs.Reports.{AreReported, example, check}

events_have_a_shape : AreReported
    (example "empty book has no event" (check "") ("events 0 accepted 0 refused 0 level 1" ∷ []) Done
    ∷ example "atom unknown word and missing members are no events" (check "abc (abc) (verify x)") ("1 - - refused EVENT" ∷ "2 ABC - refused EVENT" ∷ "3 VERIFY X refused EVENT" ∷ "events 3 accepted 0 refused 3 level 1" ∷ []) SomeRefused
    ∷ example "bare words alone are raised" (check "(|verify| x)") ("1 |verify| - refused EVENT" ∷ "events 1 accepted 0 refused 1 level 1" ∷ []) SomeRefused
    ∷ example "label is the second member of any pair" (check "(verify . x) (verify x . y)") ("1 VERIFY - refused EVENT" ∷ "2 VERIFY X refused EVENT" ∷ "events 2 accepted 0 refused 2 level 1" ∷ []) SomeRefused
    ∷ example "natural past range is refused" (check "(print 340282366920938463463374607431768211456) (print 1)") ("1 PRINT - refused RANGE" ∷ "2 PRINT - accepted 1" ∷ "events 2 accepted 1 refused 1 level 1" ∷ []) SomeRefused
    ∷ example "range comes before the shape" (check "(foo 340282366920938463463374607431768211456) 340282366920938463463374607431768211456") ("1 FOO - refused RANGE" ∷ "2 - - refused RANGE" ∷ "events 2 accepted 0 refused 2 level 1" ∷ []) SomeRefused
    ∷ [])
unfolding need must unless
events_have_a_shape = refl
