-- Slices: what is owed for the book and the name.
use Rattle.std.proofs.Common.{◌≡◌, ℕ, true, List, [], ◌∷◌, ◌++◌, length, map, Option, Some, None, refl, subst, codes}
use Prim.Native.String.{String}
use Rattle.mw_model.specs.Terms.Object.{Name, Object, named}
use Rattle.mw_model.specs.Events.Refusal.{need, must, unless}
use Rattle.mw_model.specs.Laws.BuiltInText.{joined}
use Rattle.mw_model.specs.Texts.Lexemes.{Fault, CLOSE}
use Rattle.mw_model.specs.Texts.Grammar.{Book, trees}
use Rattle.mw_model.specs.Laws.Lines.{text_lines}
use Rattle.mw_model.specs.Reports.Report.{Status, Done, SomeRefused, Syntax, spaced}
use Rattle.mw_model.specs.Texts.Pieces.{comment}
use Rattle.mw_commands.specs.Commands.Slice.{event_at, target, IsSlice}
use Rattle.mw_commands.specs.Commands.Slicing.{accepted_events, of_events, SliceOwed, SliceWritten, slicing_status}
use Rattle.mw_commands.proofs.SlicePlaces.{slice_places, slice_exists}
use Rattle.mw_commands.proofs.WrittenData.{are_short, short_lines}

-- what is written for the book and the name, and the status
abbrev pub slice : String → List String → List String → Status → Type 0
slice name book text status = SliceWritten (trees (joined book)) 10000000 (named name) (joined text) × (slicing_status (trees (joined book)) 10000000 (named name) ≡ status)

-- the events of the slice are written as they are printed, if they are short
abbrev pub kept_by : List Object → ℕ → List Object
kept_by accepted goal = map (event_at accepted) (slice_places accepted goal)

owed_by : (fault : Option Fault) (found : Option ℕ) (es accepted : List Object) (goal : ℕ) (text : List ℕ) → fault ≡ None → found ≡ Some goal → are_short (kept_by accepted goal) ≡ true → text ≡ text_lines (kept_by accepted goal) ++ comment (spaced (codes "kept") (of_events (length (kept_by accepted goal)) es)) → SliceOwed fault found es accepted text
owed_by (Some f) found es accepted goal text h k s e = cc
owed_by None None es accepted goal text h k s e = cc
owed_by None (Some i) es accepted goal text h k s e =
    let is : goal ≡ i = cc in
    subst (λ j. SliceOwed None (Some j) es accepted text) is
    (kept_by accepted goal, text_lines (kept_by accepted goal), (slice_places accepted goal, slice_exists accepted goal, refl), short_lines (kept_by accepted goal) s, e)

sliced : (b : Book) (name : Name) (goal : ℕ) (text : List ℕ) → b.fault ≡ None → target (accepted_events b.events 10000000) name ≡ Some goal → are_short (kept_by (accepted_events b.events 10000000) goal) ≡ true → text ≡ text_lines (kept_by (accepted_events b.events 10000000) goal) ++ comment (spaced (codes "kept") (of_events (length (kept_by (accepted_events b.events 10000000) goal)) b.events)) → SliceWritten b 10000000 name text
sliced b name goal text = owed_by b.fault (target (accepted_events b.events 10000000) name) b.events (accepted_events b.events 10000000) goal text

abbrev pub twice_book : List String
twice_book = "(define twice (x) (+ x x) nil ())" ∷ "(verify use (pequal* (twice x) (+ x x)) (axiom (pequal* (twice x) (+ x x))))" ∷ "(define twice (x) x nil ())" ∷ "(eval (twice 4))" ∷ []

abbrev refl_event : String
refl_event = "(verify refl (pequal* x x) (axiom (pequal* x x)))"

abbrev pub twice_define : String
twice_define = "(DEFINE TWICE (X) (+ X X) NIL NIL)"

abbrev pub twice_verify : String
twice_verify = "(VERIFY USE (PEQUAL* (TWICE X) (+ X X)) (AXIOM (PEQUAL* (TWICE X) (+ X X))))"

pub definition_is_kept : slice "USE" twice_book (twice_define ∷ twice_verify ∷ "; kept 2 of 4" ∷ []) Done
unfolding need must unless
definition_is_kept = (sliced (trees (joined twice_book)) (named "USE") 1 _ refl refl refl refl, refl)

abbrev other_theorem_is_left_out_book : List String
other_theorem_is_left_out_book = refl_event ∷ twice_book

other_theorem_is_left_out : slice "USE" other_theorem_is_left_out_book (twice_define ∷ twice_verify ∷ "; kept 2 of 5" ∷ []) Done
unfolding need must unless
other_theorem_is_left_out = (sliced (trees (joined other_theorem_is_left_out_book)) (named "USE") 2 _ refl refl refl refl, refl)

-- the name X occurs in the theorem, but its definition comes after it
abbrev later_definition_is_left_out_book : List String
later_definition_is_left_out_book = "(define twice (x) (+ x x) nil ())" ∷ "(verify use (pequal* (twice x) (+ x x)) (axiom (pequal* (twice x) (+ x x))))" ∷ "(define twice (x) x nil ())" ∷ "(eval (twice 4))" ∷ "(define x (y) y nil ())" ∷ []

later_definition_is_left_out : slice "USE" later_definition_is_left_out_book (twice_define ∷ twice_verify ∷ "; kept 2 of 5" ∷ []) Done
unfolding need must unless
later_definition_is_left_out = (sliced (trees (joined later_definition_is_left_out_book)) (named "USE") 1 _ refl refl refl refl, refl)

name_of_no_theorem : slice "NOPE" twice_book ("; none of 4" ∷ []) SomeRefused
unfolding need must unless
name_of_no_theorem = (refl, refl)

-- ---- what the books above do not show

-- the definition of X before the theorem is kept, since X occurs in it, though as a variable
abbrev earlier_definition_is_kept_book : List String
earlier_definition_is_kept_book = "(define x (y) y nil ())" ∷ "(print 5)" ∷ "(verify r (pequal* x x) (axiom (pequal* x x)))" ∷ []

earlier_definition_is_kept : slice "R" earlier_definition_is_kept_book ("(DEFINE X (Y) Y NIL NIL)" ∷ "(VERIFY R (PEQUAL* X X) (AXIOM (PEQUAL* X X)))" ∷ "; kept 2 of 3" ∷ []) Done
unfolding need must unless
earlier_definition_is_kept = (sliced (trees (joined earlier_definition_is_kept_book)) (named "R") 2 _ refl refl refl refl, refl)

-- Both functions of a block come with the event that adds them; the word of the event counts as a name that occurs in it.
abbrev block_is_kept_for_its_second_function_book : List String
block_is_kept_for_its_second_function_book = "(define-all ((p (x) x nil) (q (x) x nil)) ())" ∷ "(define verify (x) x nil ())" ∷ "(define r (x) x nil ())" ∷ "(verify a (pequal* (q x) x) (axiom (pequal* (q x) x)))" ∷ []

block_is_kept_for_its_second_function : slice "A" block_is_kept_for_its_second_function_book ("(DEFINE-ALL ((P (X) X NIL) (Q (X) X NIL)) NIL)" ∷ "(DEFINE VERIFY (X) X NIL NIL)" ∷ "(VERIFY A (PEQUAL* (Q X) X) (AXIOM (PEQUAL* (Q X) X)))" ∷ "; kept 3 of 4" ∷ []) Done
unfolding need must unless
block_is_kept_for_its_second_function = (sliced (trees (joined block_is_kept_for_its_second_function_book)) (named "A") 3 _ refl refl refl refl, refl)

-- Of two theorems with one formula the first is kept, and the first of two with the name wanted is the target.
abbrev first_proof_of_a_formula_is_kept_book : List String
first_proof_of_a_formula_is_kept_book = "(profile 1)" ∷ "(profile 2)" ∷ "(verify one (pequal* x x) (axiom (pequal* x x)))" ∷ "(verify two (pequal* x x) (theorem (pequal* x x)))" ∷ "(skolem w y () (* y y))" ∷ "(verify b (por* (pequal* y y) (pequal* x x)) (expansion (por* (pequal* y y) (pequal* x x)) ((theorem (pequal* x x)))))" ∷ "(verify b (pequal* x x) (theorem (pequal* x x)))" ∷ []

first_proof_of_a_formula_is_kept : slice "B" first_proof_of_a_formula_is_kept_book ("(PROFILE 2)" ∷ "(VERIFY ONE (PEQUAL* X X) (AXIOM (PEQUAL* X X)))" ∷ "(VERIFY B (POR* (PEQUAL* Y Y) (PEQUAL* X X)) (EXPANSION (POR* (PEQUAL* Y Y) (PEQUAL* X X)) ((THEOREM (PEQUAL* X X)))))" ∷ "; kept 3 of 7" ∷ []) Done
unfolding need must unless
first_proof_of_a_formula_is_kept = (sliced (trees (joined first_proof_of_a_formula_is_kept_book)) (named "B") 5 _ refl refl refl refl, refl)

fault_leaves_its_line_alone : slice "USE" ("(define twice (x) (+ x x) nil ())" ∷ "(verify use (pequal* (twice x) (+ x x)) (axiom (pequal* (twice x) (+ x x))))" ∷ ")" ∷ []) ("; syntax CLOSE at 111" ∷ []) (Syntax CLOSE 111)
unfolding need must unless
fault_leaves_its_line_alone = (refl, refl)

-- after a switch all is kept that changes the theory; these events stand for accepted ones
abbrev switched : List Object
switched = (trees (codes "(profile 1) (define p (x) x nil ()) (eval 1) (print 2) (define never (x axioms thms atbl) nil nil ()) (switch never) (verify a (pequal* x x) (axiom (pequal* x x))) (define q (x) x nil ())")).events

switch_keeps_what_changes_the_theory : IsSlice switched 6 (1 ∷ 4 ∷ 5 ∷ 6 ∷ [])
switch_keeps_what_changes_the_theory = slice_exists switched 6

-- the target itself stands before the switch
switch_after_the_target : IsSlice switched 4 (4 ∷ [])
switch_after_the_target = slice_exists switched 4
