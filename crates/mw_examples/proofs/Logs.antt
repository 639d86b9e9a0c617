-- Logs: their reports are computed from their bytes.
use Rattle.std.proofs.Common.{[], ◌∷◌, refl, codes}
use Prim.Native.String.{String}
use Rattle.mw_model.specs.Events.Refusal.{need, must, unless}
use Rattle.mw_model.specs.Laws.BuiltInText.{joined}
use Rattle.mw_model.specs.Texts.Lexemes.{CLOSE}
use Rattle.mw_model.specs.Reports.Report.{Report, Done, SomeRefused, Syntax}
use Rattle.mw_commands.specs.Commands.LogReport.{log_report}
use Rattle.mw_examples.proofs.Reports.{AreReported, example}

abbrev pub recheck : String → Report
recheck log = log_report (codes log)

logs_are_judged : AreReported
    (example "steps of a claim and of its definition" (log_report (joined ("(DEFINE NEVER (X AXIOMS THMS ATBL) NIL NIL NIL)" ∷ "(STEP 1 AXIOM (PEQUAL* (NEVER X AXIOMS THMS ATBL) (QUOTE NIL)) NIL NIL)" ∷ "(STEP 2 EXPANSION (POR* (PNOT* (PEQUAL* (LOGIC.PROVABLEP (LOGIC.CONCLUSION X) AXIOMS THMS ATBL) (QUOTE NIL))) (PEQUAL* (NEVER X AXIOMS THMS ATBL) (QUOTE NIL))) (1) NIL)" ∷ "(STEP 3 PROPOSITIONAL-SCHEMA (POR* (PNOT* (PNOT* (PEQUAL* (LOGIC.PROVABLEP (LOGIC.CONCLUSION X) AXIOMS THMS ATBL) (QUOTE NIL)))) (PNOT* (PEQUAL* (LOGIC.PROVABLEP (LOGIC.CONCLUSION X) AXIOMS THMS ATBL) (QUOTE NIL)))) NIL NIL)" ∷ "(STEP 4 CUT (POR* (PEQUAL* (NEVER X AXIOMS THMS ATBL) (QUOTE NIL)) (PNOT* (PEQUAL* (LOGIC.PROVABLEP (LOGIC.CONCLUSION X) AXIOMS THMS ATBL) (QUOTE NIL)))) (2 3) NIL)" ∷ "(VERIFY CLAIM (POR* (PEQUAL* (NEVER X AXIOMS THMS ATBL) (QUOTE NIL)) (PNOT* (PEQUAL* (LOGIC.PROVABLEP (LOGIC.CONCLUSION X) AXIOMS THMS ATBL) (QUOTE NIL)))) 4)" ∷ "; events 4 flat 2" ∷ []))) ("1 DEFINE NEVER yes" ∷ "2 VERIFY CLAIM yes" ∷ "events 2 yes 2 no 0 left 0" ∷ []) Done
    ∷ example "step that is no axiom" (recheck "(step 1 axiom (pequal* x y) nil nil) (verify bad (pequal* x y) 1)") ("1 VERIFY BAD no STEP" ∷ "events 1 yes 0 no 1 left 0" ∷ []) SomeRefused
    ∷ example "number of no step" (recheck "(verify bad (pequal* x x) 1)") ("1 VERIFY BAD no GOAL" ∷ "events 1 yes 0 no 1 left 0" ∷ []) SomeRefused
    ∷ example "word that a log has not" (recheck "(eval 1)") ("1 EVAL - no SHAPE" ∷ "events 1 yes 0 no 1 left 0" ∷ []) SomeRefused
    ∷ example "name that is taken" (recheck "(define if (x) x nil nil)") ("1 DEFINE IF no ADMIT" ∷ "events 1 yes 0 no 1 left 0" ∷ []) SomeRefused
    ∷ [])
unfolding need must unless
logs_are_judged = refl

steps_are_collected : AreReported
    -- A step may name only steps before it, and not one that comes after it.
    (example "step that names a later one" (recheck "(step 1 expansion (por* (pequal* a b) (pequal* x x)) (2) nil) (step 2 axiom (pequal* x x) nil nil) (verify late (por* (pequal* a b) (pequal* x x)) 1)") ("1 VERIFY LATE no STEP" ∷ "events 1 yes 0 no 1 left 0" ∷ []) SomeRefused
    -- Steps belong to the next event, and are gone after it, whatever the answer.
    ∷ example "steps are gone after an event" (recheck "(step 1 axiom (pequal* x x) nil nil) (verify refl (pequal* x x) 1) (verify refl (pequal* x x) 1)") ("1 VERIFY REFL yes" ∷ "2 VERIFY REFL no GOAL" ∷ "events 2 yes 1 no 1 left 0" ∷ []) SomeRefused
    -- Each event has a yes, and still the log is not done.
    ∷ example "steps left over" (recheck "(step 1 axiom (pequal* x x) nil nil) (verify refl (pequal* x x) 1) (step 1 axiom (pequal* x x) nil nil) (step 7)") ("1 VERIFY REFL yes" ∷ "events 1 yes 1 no 0 left 2" ∷ []) SomeRefused
    -- All collected steps have to be good, also those that no number names, and also where an event has no number.
    ∷ example "steps that nothing names" (recheck "(step 1 axiom (pequal* x x) nil nil) (step 2 axiom (pequal* x y) nil nil) (verify refl (pequal* x x) 1) (step 1 axiom nil nil nil) (skolem w y () y)") ("1 VERIFY REFL no STEP" ∷ "2 SKOLEM W no STEP" ∷ "events 2 yes 0 no 2 left 0" ∷ []) SomeRefused
    ∷ [])
unfolding need must unless
steps_are_collected = refl

edges_of_logs_are_judged : AreReported
    -- SHAPE comes before STEP, STEP before ADMIT, ADMIT before GOAL.
    (example "first objection counts" (recheck "(step 7) (verify 5 x (a)) (step 7) (verify 5 x 1) (verify 5 x 1) (verify n (pequal* x x) 0)") ("1 VERIFY - no SHAPE" ∷ "2 VERIFY - no STEP" ∷ "3 VERIFY - no ADMIT" ∷ "4 VERIFY N no GOAL" ∷ "events 4 yes 0 no 4 left 0" ∷ []) SomeRefused
    -- a natural past the range
    ∷ example "naturals past the range" (recheck "(step 1 axiom (pequal* x x) nil 340282366920938463463374607431768211456) (skolem w y () y) (skolem w y () '340282366920938463463374607431768211456)") ("1 SKOLEM W no STEP" ∷ "2 SKOLEM W no SHAPE" ∷ "events 2 yes 0 no 2 left 0" ∷ []) SomeRefused
    -- A definition without obligations wants no number, a recursive one two; a wrong number of them is GOAL and not COUNT.
    ∷ example "numbers of definitions" (recheck "(define k (x) x nil (1)) (define k (x) x nil nil) (define f (x) (f x) x nil) (define-all ((p (x) x nil) (q (x) x nil)) ()) (define-all () ()) (define g (x) x nil 1)") ("1 DEFINE K no GOAL" ∷ "2 DEFINE K yes" ∷ "3 DEFINE F no GOAL" ∷ "4 DEFINE-ALL - yes" ∷ "5 DEFINE-ALL - no SHAPE" ∷ "6 DEFINE G no SHAPE" ∷ "events 6 yes 2 no 4 left 0" ∷ []) SomeRefused
    ∷ example "profiles in a log" (recheck "(profile 3) (profile 1) (profile 2) (step 1 base-eval (pequal* (* '2 '3) '6) nil nil) (verify six (pequal* (* '2 '3) '6) 1) (profile 2)") ("1 PROFILE - no ADMIT" ∷ "2 PROFILE - yes" ∷ "3 PROFILE - yes" ∷ "4 VERIFY SIX yes" ∷ "5 PROFILE - no ADMIT" ∷ "events 5 yes 3 no 2 left 0" ∷ []) SomeRefused
    -- STEP alone, and a list that is not proper: the first begins with no STEP, the second does
    ∷ example "words that look like steps" (recheck "step (step . 1)") ("1 - - no SHAPE" ∷ "events 1 yes 0 no 1 left 1" ∷ []) SomeRefused
    ∷ example "fault of a log" (recheck "(skolem w y () y) )") ("1 SKOLEM W yes" ∷ "syntax CLOSE at 18" ∷ []) (Syntax CLOSE 18)
    ∷ [])
unfolding need must unless
edges_of_logs_are_judged = refl
