-- Tautologies: what is owed for books of formulas.
use Rattle.std.proofs.Common.{◌≡◌, ℕ, ◌<◌, false, ltb, List, [], ◌∷◌, ◌++◌, refl, sym, ◌∙◌, codes, lt-ltb, true≢false}
use Prim.Native.String.{String}
use Rattle.mw_model.specs.Terms.Object.{Object, NIL}
use Rattle.mw_model.specs.Terms.Term.{Formula, Equal, Not, Or}
use Rattle.mw_model.specs.Values.Primitive.{One}
use Rattle.mw_model.specs.Laws.BuiltInText.{joined}
use Rattle.mw_model.specs.Events.Writing.{var}
use Rattle.mw_model.specs.Events.Fate.{longest}
use Rattle.mw_model.specs.Texts.Grammar.{trees}
use Rattle.mw_model.specs.Texts.Lexemes.{CLOSE}
use Rattle.mw_model.specs.Reports.Report.{Status, Done, SomeRefused, Syntax}
use Rattle.mw_model.proofs.Judging.{judge_good}
use Rattle.mw_commands.specs.Commands.TautologyBook.{TautologiesWritten, tautology_status, initial_arities, IsPureProof}

-- what may be written for the book, and the status
abbrev pub taut : String → List String → Status → Type 0
taut book text status = TautologiesWritten (trees (codes book)) (joined text) × (tautology_status (trees (codes book)) ≡ status)

-- a text that is seen to be short is not long
none_long : (n : ℕ) → longest < n → ltb longest n ≡ false → ⊥
none_long n long short = true≢false (sym (lt-ltb longest n long) ∙ short)

first_datum : List Object → Object
first_datum [] = NIL
first_datum (x ∷ xs) = x

-- the equation of two variables
equation : String → String → Formula
equation x y = Equal (var x) (var y)

-- A or not A, by a cut of two instances of the schema: one proof of many
middle_excluded : Formula
unfolding equation
middle_excluded = Or (equation "X" "Y") (Not (equation "X" "Y"))

middle_text : List ℕ
middle_text = codes "(CUT (POR* (PEQUAL* X Y) (PNOT* (PEQUAL* X Y))) ((PROPOSITIONAL-SCHEMA (POR* (PNOT* (PEQUAL* X Y)) (PEQUAL* X Y))) (PROPOSITIONAL-SCHEMA (POR* (PNOT* (PNOT* (PEQUAL* X Y))) (PNOT* (PEQUAL* X Y))))))"

middle_proof : Object
unfolding first_datum middle_text
middle_proof = first_datum (trees middle_text).events

middle_proved : IsPureProof initial_arities middle_proof middle_excluded
unfolding middle_proof middle_excluded first_datum middle_text equation
middle_proved = record { proves = judge_good NIL NIL initial_arities One middle_proof middle_excluded refl; in_range = λ h. refl }

abbrev pub middle_book : String
middle_book = "(em (por* (pequal* x y) (pnot* (pequal* x y))))"

abbrev pub middle_lines : List String
middle_lines = "(VERIFY EM (POR* (PEQUAL* X Y) (PNOT* (PEQUAL* X Y))) (CUT (POR* (PEQUAL* X Y) (PNOT* (PEQUAL* X Y))) ((PROPOSITIONAL-SCHEMA (POR* (PNOT* (PEQUAL* X Y)) (PEQUAL* X Y))) (PROPOSITIONAL-SCHEMA (POR* (PNOT* (PNOT* (PEQUAL* X Y))) (PNOT* (PEQUAL* X Y)))))))" ∷ "; formulas 1 proved 1" ∷ []

pub tautology_is_a_theorem : taut middle_book middle_lines Done
unfolding middle_proof middle_excluded first_datum middle_text equation
tautology_is_a_theorem =
    let text = codes "(VERIFY EM (POR* (PEQUAL* X Y) (PNOT* (PEQUAL* X Y))) (CUT (POR* (PEQUAL* X Y) (PNOT* (PEQUAL* X Y))) ((PROPOSITIONAL-SCHEMA (POR* (PNOT* (PEQUAL* X Y)) (PEQUAL* X Y))) (PROPOSITIONAL-SCHEMA (POR* (PNOT* (PNOT* (PEQUAL* X Y))) (PNOT* (PEQUAL* X Y)))))))" in
    let line = text ++ 10 ∷ [] in
    ((line, (line, [], refl, (middle_proof, middle_proved, (text, 1, ((refl, refl), λ long few. absurd (none_long _ long refl)), refl)), refl), refl), refl)

first_choice_is_shown : taut "(no (por* (pequal* x y) (pequal* y x)))" ("; 1 NO FALSE (((PEQUAL* X Y)) ((PEQUAL* Y X)))" ∷ "; formulas 1 proved 0" ∷ []) SomeRefused
first_choice_is_shown =
    let text = codes "(((PEQUAL* X Y)) ((PEQUAL* Y X)))" in
    let line = codes "; 1 NO FALSE " ++ (text ++ 10 ∷ []) in
    ((line, (line, [], refl, (text, 1, ((refl, refl), λ long few. absurd (none_long _ long refl)), refl), refl), refl), refl)

-- ---- what the books above do not show

-- The first equation is false before it is true, and the last changes first.
last_equation_changes_first : taut "(a (por* (pequal* x y) (pnot* (pequal* y x))))" ("; 1 A FALSE (((PEQUAL* X Y)) ((PEQUAL* Y X) . T))" ∷ "; formulas 1 proved 0" ∷ []) SomeRefused
last_equation_changes_first =
    let text = codes "(((PEQUAL* X Y)) ((PEQUAL* Y X) . T))" in
    let line = codes "; 1 A FALSE " ++ (text ++ 10 ∷ []) in
    ((line, (line, [], refl, (text, 1, ((refl, refl), λ long few. absurd (none_long _ long refl)), refl), refl), refl), refl)

thirteen_equations_are_too_many : taut "(m (por* (pequal* x1 y) (por* (pequal* x2 y) (por* (pequal* x3 y) (por* (pequal* x4 y) (por* (pequal* x5 y) (por* (pequal* x6 y) (por* (pequal* x7 y) (por* (pequal* x8 y) (por* (pequal* x9 y) (por* (pequal* x10 y) (por* (pequal* x11 y) (por* (pequal* x12 y) (pequal* x13 y))))))))))))))" ("; 1 M MANY" ∷ "; formulas 1 proved 0" ∷ []) SomeRefused
thirteen_equations_are_too_many = let line = codes "; 1 M MANY" ++ 10 ∷ [] in ((line, (line, [], refl, refl, refl), refl), refl)

-- of thirteen equations one stands twice
twelve_equations_are_decided : taut "(t (por* (pequal* x1 y) (por* (pequal* x1 y) (por* (pequal* x2 y) (por* (pequal* x3 y) (por* (pequal* x4 y) (por* (pequal* x5 y) (por* (pequal* x6 y) (por* (pequal* x7 y) (por* (pequal* x8 y) (por* (pequal* x9 y) (por* (pequal* x10 y) (por* (pequal* x11 y) (pequal* x12 y))))))))))))))" ("; 1 T FALSE (((PEQUAL* X1 Y)) ((PEQUAL* X2 Y)) ((PEQUAL* X3 Y)) ((PEQUAL* X4 Y)) ((PEQUAL* X5 Y)) ((PEQUAL* X6 Y)) ((PEQUAL* X7 Y)) ((PEQUAL* X8 Y)) ((PEQUAL* X9 Y)) ((PEQUAL* X10 Y)) ((PEQUAL* X11 Y)) ((PEQUAL* X12 Y)))" ∷ "; formulas 1 proved 0" ∷ []) SomeRefused
twelve_equations_are_decided =
    let text = codes "(((PEQUAL* X1 Y)) ((PEQUAL* X2 Y)) ((PEQUAL* X3 Y)) ((PEQUAL* X4 Y)) ((PEQUAL* X5 Y)) ((PEQUAL* X6 Y)) ((PEQUAL* X7 Y)) ((PEQUAL* X8 Y)) ((PEQUAL* X9 Y)) ((PEQUAL* X10 Y)) ((PEQUAL* X11 Y)) ((PEQUAL* X12 Y)))" in
    let line = codes "; 1 T FALSE " ++ (text ++ 10 ∷ []) in
    ((line, (line, [], refl, (text, 1, ((refl, refl), λ long few. absurd (none_long _ long refl)), refl), refl), refl), refl)

-- no pair, a dotted pair, a number for the name, a function that is not known, a natural past the range, three members, no formula
shapes : taut "q (b . x) (12 (pequal* x x)) (f (pequal* (foo x) x)) (d (pequal* x '340282366920938463463374607431768211456)) (e (pequal* x x) x) (g (pequal* t x))" ("; 1 - SHAPE" ∷ "; 2 B SHAPE" ∷ "; 3 - SHAPE" ∷ "; 4 F SHAPE" ∷ "; 5 D SHAPE" ∷ "; 6 E SHAPE" ∷ "; 7 G SHAPE" ∷ "; formulas 7 proved 0" ∷ []) SomeRefused
shapes =
    let line : String → List ℕ = λ head. codes head ++ (codes " SHAPE" ++ 10 ∷ []) in
    let r7 = line "; 7 G" in
    let r6 = line "; 6 E" ++ r7 in
    let r5 = line "; 5 D" ++ r6 in
    let r4 = line "; 4 F" ++ r5 in
    let r3 = line "; 3 -" ++ r4 in
    let r2 = line "; 2 B" ++ r3 in
    let r1 = line "; 1 -" ++ r2 in
    ((r1, (line "; 1 -", r2, refl, refl, (line "; 2 B", r3, refl, refl, (line "; 3 -", r4, refl, refl, (line "; 4 F", r5, refl, refl, (line "; 5 D", r6, refl, refl, (line "; 6 E", r7, refl, refl, (line "; 7 G", [], refl, refl, refl))))))), refl), refl)

-- the data before a fault have their lines, and then the fault
fault_of_a_book_of_formulas : taut "(no (pequal* x y)) )" ("; 1 NO FALSE (((PEQUAL* X Y)))" ∷ "; syntax CLOSE at 19" ∷ []) (Syntax CLOSE 19)
fault_of_a_book_of_formulas =
    let text = codes "(((PEQUAL* X Y)))" in
    let line = codes "; 1 NO FALSE " ++ (text ++ 10 ∷ []) in
    ((line, (line, [], refl, (text, 1, ((refl, refl), λ long few. absurd (none_long _ long refl)), refl), refl), refl), refl)

empty_book_of_formulas : taut "" ("; formulas 0 proved 0" ∷ []) Done
empty_book_of_formulas = (([], refl, refl), refl)
