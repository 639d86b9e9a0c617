-- Switches to another checker.
use Rattle.std.proofs.Common.{[], ◌∷◌, refl}
use Rattle.mw_model.specs.Events.Refusal.{need, must, unless}
use Rattle.mw_model.specs.Reports.Report.{Done, SomeRefused}
use Rattle.mw_examples.proofs.Reports.{AreReported, example, check, check_lines}

switches_are_judged : AreReported
    (example "checker that accepts nothing is switched to" (check_lines ("(define never (x axioms thms atbl) nil nil ())" ∷ "(verify claim" ∷ "#1=(por* #2=(pequal* (never x axioms thms atbl) 'nil)" ∷ "#3=(pnot* (pequal* (logic.provablep (logic.conclusion x) axioms thms atbl) 'nil)))" ∷ "(cut #1# ((expansion (por* #3# #2#) ((axiom #2#)))" ∷ "(propositional-schema (por* (pnot* #3#) #3#)))))" ∷ "(switch never)" ∷ "(verify refl (pequal* x x) (axiom (pequal* x x)))" ∷ [])) ("1 DEFINE NEVER accepted" ∷ "2 VERIFY CLAIM accepted" ∷ "3 SWITCH NEVER accepted" ∷ "4 VERIFY REFL refused NIL" ∷ "events 4 accepted 3 refused 1 level 2" ∷ []) SomeRefused
    ∷ example "switch wants four arguments and a theorem" (check "(switch logic.proofp) (switch logic.termp) (switch 7)") ("1 SWITCH LOGIC.PROOFP refused CLAIM" ∷ "2 SWITCH LOGIC.TERMP refused CHECKER" ∷ "3 SWITCH - refused CHECKER" ∷ "events 3 accepted 0 refused 3 level 1" ∷ []) SomeRefused
    ∷ example "running checker may be switched to again" (check_lines ("(define never (x axioms thms atbl) nil nil ())" ∷ "(verify claim" ∷ "#1=(por* #2=(pequal* (never x axioms thms atbl) 'nil)" ∷ "#3=(pnot* (pequal* (logic.provablep (logic.conclusion x) axioms thms atbl) 'nil)))" ∷ "(cut #1# ((expansion (por* #3# #2#) ((axiom #2#)))" ∷ "(propositional-schema (por* (pnot* #3#) #3#)))))" ∷ "(switch never)" ∷ "(switch never)" ∷ [])) ("1 DEFINE NEVER accepted" ∷ "2 VERIFY CLAIM accepted" ∷ "3 SWITCH NEVER accepted" ∷ "4 SWITCH NEVER accepted" ∷ "events 4 accepted 4 refused 0 level 3" ∷ []) Done
    ∷ [])
unfolding need must unless
switches_are_judged = refl
