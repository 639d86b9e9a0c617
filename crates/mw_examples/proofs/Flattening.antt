-- Logs of books: what is owed where a book is turned to one.
use Rattle.std.proofs.Common.{◌≡◌, ℕ, List, [], ◌∷◌, ◌++◌, refl}
use Prim.Native.String.{String}
use Rattle.mw_model.specs.Events.Refusal.{need, must, unless}
use Rattle.mw_model.specs.Laws.BuiltInText.{joined}
use Rattle.mw_model.specs.Texts.Lexemes.{TOKEN}
use Rattle.mw_model.specs.Texts.Grammar.{Book, trees}
use Rattle.mw_model.specs.Reports.Report.{Status, Done, SomeRefused, Syntax}
use Rattle.mw_model.specs.Texts.Pieces.{comment_ending}
use Rattle.mw_commands.specs.Commands.LogReport.{log_report}
use Rattle.mw_commands.specs.Commands.Flattening.{plain_course, flat_events, flat_summary, FlatWritten, flattening_status}
use Rattle.mw_commands.proofs.FlatData.{joined_by, flat_text, flat_owed}
use Rattle.mw_examples.proofs.Reports.{says}

-- what is written for the book, and the status
abbrev pub flat : List String → List String → Status → Type 0
flat book text status = FlatWritten (trees (joined book)) 10000000 (joined text) × (flattening_status (trees (joined book)) 10000000 ≡ status)

owes : (b : Book) (text : List ℕ) → text ≡ joined_by flat_text (flat_events (plain_course b.events 10000000)) ++ comment_ending b.fault (flat_summary (plain_course b.events 10000000)) → FlatWritten b 10000000 text
owes b text e = (joined_by flat_text (flat_events (plain_course b.events 10000000)), flat_owed (flat_events (plain_course b.events 10000000)), e)

abbrev claim_and_definition_before_a_switch_book : List String
claim_and_definition_before_a_switch_book = "(define never (x axioms thms atbl) nil nil ())" ∷ "(verify claim" ∷ "#1=(por* #2=(pequal* (never x axioms thms atbl) 'nil)" ∷ "#3=(pnot* (pequal* (logic.provablep (logic.conclusion x) axioms thms atbl) 'nil)))" ∷ "(cut #1# ((expansion (por* #3# #2#) ((axiom #2#)))" ∷ "(propositional-schema (por* (pnot* #3#) #3#)))))" ∷ "(switch never)" ∷ "(verify refl (pequal* x x) (axiom (pequal* x x)))" ∷ []

abbrev claim_and_definition_before_a_switch_text : List String
claim_and_definition_before_a_switch_text = "(DEFINE NEVER (X AXIOMS THMS ATBL) NIL NIL NIL)" ∷ "(STEP 1 AXIOM (PEQUAL* (NEVER X AXIOMS THMS ATBL) (QUOTE NIL)) NIL NIL)" ∷ "(STEP 2 EXPANSION (POR* (PNOT* (PEQUAL* (LOGIC.PROVABLEP (LOGIC.CONCLUSION X) AXIOMS THMS ATBL) (QUOTE NIL))) (PEQUAL* (NEVER X AXIOMS THMS ATBL) (QUOTE NIL))) (1) NIL)" ∷ "(STEP 3 PROPOSITIONAL-SCHEMA (POR* (PNOT* (PNOT* (PEQUAL* (LOGIC.PROVABLEP (LOGIC.CONCLUSION X) AXIOMS THMS ATBL) (QUOTE NIL)))) (PNOT* (PEQUAL* (LOGIC.PROVABLEP (LOGIC.CONCLUSION X) AXIOMS THMS ATBL) (QUOTE NIL)))) NIL NIL)" ∷ "(STEP 4 CUT (POR* (PEQUAL* (NEVER X AXIOMS THMS ATBL) (QUOTE NIL)) (PNOT* (PEQUAL* (LOGIC.PROVABLEP (LOGIC.CONCLUSION X) AXIOMS THMS ATBL) (QUOTE NIL)))) (2 3) NIL)" ∷ "(VERIFY CLAIM (POR* (PEQUAL* (NEVER X AXIOMS THMS ATBL) (QUOTE NIL)) (PNOT* (PEQUAL* (LOGIC.PROVABLEP (LOGIC.CONCLUSION X) AXIOMS THMS ATBL) (QUOTE NIL)))) 4)" ∷ "; events 4 flat 2" ∷ []

claim_and_definition_before_a_switch : flat claim_and_definition_before_a_switch_book claim_and_definition_before_a_switch_text SomeRefused
unfolding need must unless
claim_and_definition_before_a_switch = (owes (trees (joined claim_and_definition_before_a_switch_book)) _ refl, refl)

claim_and_definition_before_a_switch_again : log_report (joined claim_and_definition_before_a_switch_text) ≡ says ("1 DEFINE NEVER yes" ∷ "2 VERIFY CLAIM yes" ∷ "events 2 yes 2 no 0 left 0" ∷ []) Done
unfolding need must unless
claim_and_definition_before_a_switch_again = refl

abbrev pub theorem_is_one_step_book : List String
theorem_is_one_step_book = "(verify refl (pequal* x x) (axiom (pequal* x x)))" ∷ []

abbrev pub theorem_is_one_step_text : List String
theorem_is_one_step_text = "(STEP 1 AXIOM (PEQUAL* X X) NIL NIL)" ∷ "(VERIFY REFL (PEQUAL* X X) 1)" ∷ "; events 1 flat 1" ∷ []

pub theorem_is_one_step : flat theorem_is_one_step_book theorem_is_one_step_text Done
unfolding need must unless
theorem_is_one_step = (owes (trees (joined theorem_is_one_step_book)) _ refl, refl)

theorem_is_one_step_again : log_report (joined theorem_is_one_step_text) ≡ says ("1 VERIFY REFL yes" ∷ "events 1 yes 1 no 0 left 0" ∷ []) Done
unfolding need must unless
theorem_is_one_step_again = refl

-- ---- what the books above do not show

-- The subproof that stands twice is one step, and what an event that is refused would show does not come.
abbrev repeated_subproof_is_one_step_book : List String
repeated_subproof_is_one_step_book = "(verify twice (pequal* x x) (contraction (pequal* x x) ((expansion (por* (pequal* x x) (pequal* x x)) ((axiom (pequal* x x)))))))" ∷ "(verify bad (pequal* x y) (axiom (pequal* x y)))" ∷ "(verify both (por* (pequal* b b) (pequal* b b)) (cut (por* (pequal* b b) (pequal* b b)) ((expansion (por* (pequal* b b) (pequal* b b)) (#1=(instantiation (pequal* b b) ((axiom (pequal* x x))) ((x . b))))) (expansion (por* (pnot* (pequal* b b)) (pequal* b b)) (#1#)))))" ∷ []

abbrev repeated_subproof_is_one_step_text : List String
repeated_subproof_is_one_step_text = "(STEP 1 AXIOM (PEQUAL* X X) NIL NIL)" ∷ "(STEP 2 EXPANSION (POR* (PEQUAL* X X) (PEQUAL* X X)) (1) NIL)" ∷ "(STEP 3 CONTRACTION (PEQUAL* X X) (2) NIL)" ∷ "(VERIFY TWICE (PEQUAL* X X) 3)" ∷ "(STEP 1 AXIOM (PEQUAL* X X) NIL NIL)" ∷ "(STEP 2 INSTANTIATION (PEQUAL* B B) (1) ((X . B)))" ∷ "(STEP 3 EXPANSION (POR* (PEQUAL* B B) (PEQUAL* B B)) (2) NIL)" ∷ "(STEP 4 EXPANSION (POR* (PNOT* (PEQUAL* B B)) (PEQUAL* B B)) (2) NIL)" ∷ "(STEP 5 CUT (POR* (PEQUAL* B B) (PEQUAL* B B)) (3 4) NIL)" ∷ "(VERIFY BOTH (POR* (PEQUAL* B B) (PEQUAL* B B)) 5)" ∷ "; events 3 flat 2" ∷ []

repeated_subproof_is_one_step : flat repeated_subproof_is_one_step_book repeated_subproof_is_one_step_text SomeRefused
unfolding need must unless
repeated_subproof_is_one_step = (owes (trees (joined repeated_subproof_is_one_step_book)) _ refl, refl)

repeated_subproof_is_one_step_again : log_report (joined repeated_subproof_is_one_step_text) ≡ says ("1 VERIFY TWICE yes" ∷ "2 VERIFY BOTH yes" ∷ "events 2 yes 2 no 0 left 0" ∷ []) Done
unfolding need must unless
repeated_subproof_is_one_step_again = refl

-- SKOLEM and PROFILE stay as they are, EVAL and PRINT are only counted, and so is all after an accepted switch, not after a refused one.
abbrev what_a_log_has_no_word_for_book : List String
what_a_log_has_no_word_for_book = "(profile 1)" ∷ "(switch logic.proofp)" ∷ "(eval 1)" ∷ "(skolem w y () y)" ∷ "(print a)" ∷ "(define-all ((p (x) x nil) (q (x) (p x) nil)) ())" ∷ "(verify refl (pequal* x x) (axiom (pequal* x x) ()))" ∷ []

abbrev what_a_log_has_no_word_for_text : List String
what_a_log_has_no_word_for_text = "(PROFILE 1)" ∷ "(SKOLEM W Y NIL Y)" ∷ "(STEP 1 AXIOM (PEQUAL* X X) NIL NIL)" ∷ "(VERIFY REFL (PEQUAL* X X) 1)" ∷ "; events 7 flat 3" ∷ []

what_a_log_has_no_word_for : flat what_a_log_has_no_word_for_book what_a_log_has_no_word_for_text SomeRefused
unfolding need must unless
what_a_log_has_no_word_for = (owes (trees (joined what_a_log_has_no_word_for_book)) _ refl, refl)

what_a_log_has_no_word_for_again : log_report (joined what_a_log_has_no_word_for_text) ≡ says ("1 PROFILE - yes" ∷ "2 SKOLEM W yes" ∷ "3 VERIFY REFL yes" ∷ "events 3 yes 3 no 0 left 0" ∷ []) Done
unfolding need must unless
what_a_log_has_no_word_for_again = refl

abbrev fault_of_a_book_for_a_log_book : List String
fault_of_a_book_for_a_log_book = "(skolem w y () y)" ∷ "12a" ∷ []

abbrev fault_of_a_book_for_a_log_text : List String
fault_of_a_book_for_a_log_text = "(SKOLEM W Y NIL Y)" ∷ "; syntax TOKEN at 18" ∷ []

fault_of_a_book_for_a_log : flat fault_of_a_book_for_a_log_book fault_of_a_book_for_a_log_text (Syntax TOKEN 18)
unfolding need must unless
fault_of_a_book_for_a_log = (owes (trees (joined fault_of_a_book_for_a_log_book)) _ refl, refl)

fault_of_a_book_for_a_log_again : log_report (joined fault_of_a_book_for_a_log_text) ≡ says ("1 SKOLEM W yes" ∷ "events 1 yes 1 no 0 left 0" ∷ []) Done
unfolding need must unless
fault_of_a_book_for_a_log_again = refl
