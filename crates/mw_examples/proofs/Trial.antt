-- The trial book's first events, and how the book ends.
use Rattle.std.proofs.Common.{◌≡◌, [], ◌∷◌, refl}
use Rattle.mw_model.specs.Laws.BuiltInText.{joined}
use Rattle.mw_model.specs.Texts.Grammar.{trees}
use Rattle.mw_model.specs.Events.Refusal.{need, must, unless}
use Rattle.mw_model.specs.Reports.Report.{last_line}
use Rattle.mw_model.specs.Reports.Trial.{trial_book}

trial_book_of_two_events : trial_book 2 ≡ joined ("(verify trial (pequal* (+ '1 '1) '2) (base-eval (pequal* (+ '1 '1) '2)))" ∷ "(verify trial (por* (pequal* (+ '2 '4) '6) (pequal* x '2)) (cut (por* (pequal* (+ '2 '4) '6) (pequal* x '2)) ((expansion (por* (pequal* x '2) (pequal* (+ '2 '4) '6)) ((base-eval (pequal* (+ '2 '4) '6)))) (propositional-schema (por* (pnot* (pequal* x '2)) (pequal* x '2))))))" ∷ [])
trial_book_of_two_events = refl

trial_of_two_events_accepts_both : last_line (trees (trial_book 2)) 10000000 ≡ joined ("events 2 accepted 2 refused 0 level 1" ∷ [])
unfolding need must unless
trial_of_two_events_accepts_both = refl

trial_of_no_event : last_line (trees (trial_book 0)) 10000000 ≡ joined ("events 0 accepted 0 refused 0 level 1" ∷ [])
unfolding need must unless
trial_of_no_event = refl

trial_of_forty_events_accepts_all : last_line (trees (trial_book 40)) 10000000 ≡ joined ("events 40 accepted 40 refused 0 level 1" ∷ [])
unfolding need must unless
trial_of_forty_events_accepts_all = refl
