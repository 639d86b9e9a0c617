-- Explanations of books: what is owed for events that are refused.
use Rattle.std.proofs.Common.{◌≡◌, List, [], ◌∷◌, ◌++◌, map, refl, sym, ap}
use Rattle.std.specs.List.{All}
use Rattle.mw_model.specs.Events.Refusal.{need, must, unless}
use Rattle.mw_model.specs.Laws.BuiltInText.{joined}
use Rattle.mw_model.specs.Texts.Lexemes.{TOKEN}
use Rattle.mw_model.specs.Texts.Grammar.{trees}
use Rattle.mw_model.specs.Reports.Report.{Report, Done, SomeRefused, Syntax}
use Rattle.mw_model.specs.Texts.Pieces.{comment_ending}
use Rattle.mw_commands.specs.Commands.Lowering.{course_summary}
use Rattle.mw_commands.specs.Commands.Flattening.{plain_course}
use Rattle.mw_commands.specs.Commands.ExplanationBook.{ExplanationWritten, explanation_status}
use Rattle.mw_commands.proofs.FlatData.{joined_by}
use Rattle.mw_commands.proofs.ExplainData.{explained_text, explained_owed}
use Rattle.mw_examples.proofs.Reports.{says}
use Rattle.mw_examples.proofs.Tables.{Worked, worked, worked_within, each}

-- this is written for the book, and this is the status
abbrev IsExplained : Worked → Type 0
IsExplained e = ExplanationWritten (trees e.book) e.limit (joined e.text) × (explanation_status (trees e.book) e.limit ≡ e.status)

-- the text and the status, as they are computed
abbrev computed : Worked → Report
computed e =
    let b = trees e.book in
    let course = plain_course b.events e.limit in
    record { text = joined_by (explained_text e.limit) course ++ comment_ending b.fault (course_summary course); status = explanation_status b e.limit }

abbrev expected : Worked → Report
expected e = says e.text e.status

explained : (e : Worked) → expected e ≡ computed e → IsExplained e
explained e h =
    let course = plain_course (trees e.book).events e.limit in
    ((joined_by (explained_text e.limit) course, explained_owed e.limit course, ap (λ (r : Report). r.text) h), sym (ap (λ (r : Report). r.status) h))

are_explained : (table : List Worked) → map expected table ≡ map computed table → All IsExplained table
are_explained table h = each expected computed IsExplained explained table h

abbrev refused_proofs : List Worked
refused_proofs =
    worked "accepted event has no explanation"
    (joined ("(verify refl (pequal* x x) (axiom (pequal* x x)))" ∷ []))
    ("; events 1 accepted 1 refused 0 level 1" ∷ []) Done
    ∷ worked "first part that is no formula is shown"
    (joined ("(verify z (pequal* t nil) (axiom (pequal* t nil)))" ∷ "(verify u (por* (pequal* x (cons y (foo x))) (pequal* (bar x) y)) ())" ∷ "(verify v (pnot* (pequal* (car x x) y)) ())" ∷ "(verify w (pand* (pequal* x y) (pequal* 1 2)) ())" ∷ []))
    ("; 1 VERIFY Z refused FORMULA" ∷ "(WHY 1 FORMULA T)" ∷ "; 2 VERIFY U refused FORMULA" ∷ "(WHY 2 FORMULA (FOO X))" ∷ "; 3 VERIFY V refused FORMULA" ∷ "(WHY 3 FORMULA (CAR X X) 1)" ∷ "; 4 VERIFY W refused FORMULA" ∷ "(WHY 4 FORMULA (PAND* (PEQUAL* X Y) (PEQUAL* 1 2)))" ∷ "; events 4 accepted 0 refused 4 level 1" ∷ []) SomeRefused
    ∷ worked "wanted conclusion is shown"
    (joined ("(verify c (pequal* x y) (axiom (pequal* x x)))" ∷ []))
    ("; 1 VERIFY C refused CONCLUSION" ∷ "(WHY 1 CONCLUSION 1 (PEQUAL* X Y) (PEQUAL* X X))" ∷ "; events 1 accepted 0 refused 1 level 1" ∷ []) SomeRefused
    ∷ worked "schema that follows is shown"
    (joined ("(verify s (por* (pequal* x y) (pnot* (pequal* x y))) (propositional-schema (por* (pequal* x y) (pnot* (pequal* x y)))))" ∷ []))
    ("; 1 VERIFY S refused PROOF" ∷ "(WHY 1 PROOF 1 (POR* (PEQUAL* X Y) (PNOT* (PEQUAL* X Y))) NIL (PROPOSITIONAL-SCHEMA (POR* (PEQUAL* X Y) (PNOT* (PEQUAL* X Y))) NIL NIL) RULE (POR* (PNOT* (PNOT* (PEQUAL* X Y))) (PNOT* (PEQUAL* X Y))))" ∷ "; events 1 accepted 0 refused 1 level 1" ∷ []) SomeRefused
    ∷ worked "first wrong step is shown with its place"
    (joined ("(verify turned" ∷ " #1=(por* #2=(pequal* x x) #3=(pequal* a b))" ∷ " (cut #1#" ∷ "  ((expansion (por* #3# #2#) ((contraction #2# ((expansion (por* #2# #3#) ((axiom #2#)))))))" ∷ "   (propositional-schema (por* #3# (pnot* #3#))))))" ∷ []))
    ("; 1 VERIFY TURNED refused PROOF" ∷ "(WHY 1 PROOF 1 (POR* (PEQUAL* X X) (PEQUAL* A B)) (1 1 1) (EXPANSION (POR* (PEQUAL* X X) (PEQUAL* A B)) ((PEQUAL* X X)) NIL) RULE (POR* (PEQUAL* X X) (PEQUAL* X X)))" ∷ "; events 1 accepted 0 refused 1 level 1" ∷ []) SomeRefused
    ∷ worked "instance that follows is shown"
    (joined ("(verify swap (pequal* (+ a a) (+ a a)) (instantiation (pequal* (+ a a) (+ a a)) ((axiom (pequal* (+ a b) (+ b a)))) ((a . b) (b . a))))" ∷ "(verify q (pequal* b b) (instantiation (pequal* b b) (axiom (pequal* x x)) ((x . b))))" ∷ "(verify r (pequal* b b) (instantiation (pequal* b b) ((axiom (pequal* x x))) (x . b)))" ∷ []))
    ("; 1 VERIFY SWAP refused PROOF" ∷ "(WHY 1 PROOF 1 (PEQUAL* (+ A A) (+ A A)) NIL (INSTANTIATION (PEQUAL* (+ A A) (+ A A)) ((PEQUAL* (+ A B) (+ B A))) ((A . B) (B . A))) RULE (PEQUAL* (+ B A) (+ A B)))" ∷ "; 2 VERIFY Q refused PROOF" ∷ "(WHY 2 PROOF 1 (PEQUAL* B B) (1) AXIOM SHAPE)" ∷ "; 3 VERIFY R refused PROOF" ∷ "(WHY 3 PROOF 1 (PEQUAL* B B) NIL (INSTANTIATION (PEQUAL* B B) ((PEQUAL* X X)) (X . B)) EXTRAS)" ∷ "; events 3 accepted 0 refused 3 level 1" ∷ []) SomeRefused
    ∷ worked "value that follows is shown"
    (joined ("(verify two (pequal* (+ '1 '1) '3) (base-eval (pequal* (+ '1 '1) '3)))" ∷ "(verify o (pequal* (+ '340282366920938463463374607431768211455 '1) '0) (base-eval (pequal* (+ '340282366920938463463374607431768211455 '1) '0)))" ∷ "(verify b #1=(pequal* ((lambda (x y) (cons y x)) a b) (cons a b)) (beta-reduction #1#))" ∷ "(verify f #1=(por* (pnot* (pequal* a b)) (pequal* (cons a c) (cons b d))) (functional-equality #1#))" ∷ []))
    ("; 1 VERIFY TWO refused PROOF" ∷ "(WHY 1 PROOF 1 (PEQUAL* (+ (QUOTE 1) (QUOTE 1)) (QUOTE 3)) NIL (BASE-EVAL (PEQUAL* (+ (QUOTE 1) (QUOTE 1)) (QUOTE 3)) NIL NIL) RULE (PEQUAL* (+ (QUOTE 1) (QUOTE 1)) (QUOTE 2)))" ∷ "; 2 VERIFY O refused PROOF" ∷ "(WHY 2 PROOF 1 (PEQUAL* (+ (QUOTE 340282366920938463463374607431768211455) (QUOTE 1)) (QUOTE 0)) NIL (BASE-EVAL (PEQUAL* (+ (QUOTE 340282366920938463463374607431768211455) (QUOTE 1)) (QUOTE 0)) NIL NIL) RULE)" ∷ "; 3 VERIFY B refused PROOF" ∷ "(WHY 3 PROOF 1 (PEQUAL* ((LAMBDA (X Y) (CONS Y X)) A B) (CONS A B)) NIL (BETA-REDUCTION (PEQUAL* ((LAMBDA (X Y) (CONS Y X)) A B) (CONS A B)) NIL NIL) RULE (PEQUAL* ((LAMBDA (X Y) (CONS Y X)) A B) (CONS B A)))" ∷ "; 4 VERIFY F refused PROOF" ∷ "(WHY 4 PROOF 1 (POR* (PNOT* (PEQUAL* A B)) (PEQUAL* (CONS A C) (CONS B D))) NIL (FUNCTIONAL-EQUALITY (POR* (PNOT* (PEQUAL* A B)) (PEQUAL* (CONS A C) (CONS B D))) NIL NIL) RULE (POR* (PNOT* (PEQUAL* A B)) (POR* (PNOT* (PEQUAL* C D)) (PEQUAL* (CONS A C) (CONS B D)))))" ∷ "; events 4 accepted 0 refused 4 level 1" ∷ []) SomeRefused
    ∷ worked "wanted premises are shown"
    (joined ("(verify i (pequal* x x) (induction (pequal* x x) ((axiom (pequal* x x))) ((rank x) ((pequal* (consp x) 't)) ((((x . (cdr x))))))))" ∷ []))
    ("; 1 VERIFY I refused PROOF" ∷ "(WHY 1 PROOF 1 (PEQUAL* X X) NIL (INDUCTION (PEQUAL* X X) ((PEQUAL* X X)) ((RANK X) ((PEQUAL* (CONSP X) (QUOTE T))) ((((X CDR X)))))) PREMISES ((POR* (PEQUAL* X X) (PEQUAL* (CONSP X) (QUOTE T))) (POR* (PEQUAL* X X) (POR* (PNOT* (PEQUAL* (CONSP X) (QUOTE T))) (PNOT* (PEQUAL* (CDR X) (CDR X))))) (PEQUAL* (ORDP (RANK X)) (QUOTE T)) (POR* (PNOT* (PEQUAL* (CONSP X) (QUOTE T))) (PEQUAL* (ORD< (RANK (CDR X)) (RANK X)) (QUOTE T)))))" ∷ "; events 1 accepted 0 refused 1 level 1" ∷ []) SomeRefused
    ∷ worked "first condition that fails is named"
    (joined ("(verify a #1=(pequal* x x) (axioms #1#))" ∷ "(verify b #1=(pequal* x x) (contraction #1# ((axiom (por* #1# (pequal* x 7))))))" ∷ "(verify c #1=(pequal* x x) (axiom #1# nothing))" ∷ "(verify d #1=(pequal* x x) (axiom #1# () because))" ∷ "(verify e #1=(por* (pequal* x x) (pequal* x x)) (cut #1# ((axiom (pequal* x x)))))" ∷ "(verify f #1=(por* (pequal* x x) (pequal* a b)) (cut #1# ((expansion (por* (pequal* a b) (pequal* x x)) (#2=(axiom (pequal* x x)))) (expansion (por* (pequal* a b) (pequal* x x)) (#2#)))))" ∷ []))
    ("; 1 VERIFY A refused PROOF" ∷ "(WHY 1 PROOF 1 (PEQUAL* X X) NIL (AXIOMS (PEQUAL* X X) NIL NIL) METHOD)" ∷ "; 2 VERIFY B refused PROOF" ∷ "(WHY 2 PROOF 1 (PEQUAL* X X) (1) (AXIOM (POR* (PEQUAL* X X) (PEQUAL* X 7)) NIL NIL) FORMULA 7)" ∷ "; 3 VERIFY C refused PROOF" ∷ "(WHY 3 PROOF 1 (PEQUAL* X X) NIL (AXIOM (PEQUAL* X X) NIL NIL) SUBPROOFS)" ∷ "; 4 VERIFY D refused PROOF" ∷ "(WHY 4 PROOF 1 (PEQUAL* X X) NIL (AXIOM (PEQUAL* X X) NIL BECAUSE) EXTRAS)" ∷ "; 5 VERIFY E refused PROOF" ∷ "(WHY 5 PROOF 1 (POR* (PEQUAL* X X) (PEQUAL* X X)) NIL (CUT (POR* (PEQUAL* X X) (PEQUAL* X X)) ((PEQUAL* X X)) NIL) PREMISES 2)" ∷ "; 6 VERIFY F refused PROOF" ∷ "(WHY 6 PROOF 1 (POR* (PEQUAL* X X) (PEQUAL* A B)) NIL (CUT (POR* (PEQUAL* X X) (PEQUAL* A B)) ((POR* (PEQUAL* A B) (PEQUAL* X X)) (POR* (PEQUAL* A B) (PEQUAL* X X))) NIL) RULE)" ∷ "; events 6 accepted 0 refused 6 level 1" ∷ []) SomeRefused
    ∷ []

refused_proofs_are_explained : All IsExplained refused_proofs
unfolding need must unless
refused_proofs_are_explained = are_explained refused_proofs refl

abbrev refused_definitions : List Worked
refused_definitions =
    worked "obligations owed are shown"
    (joined ("(define app (x y)" ∷ " (if (consp x) (cons (car x) (app (cdr x) y)) y)" ∷ " (rank x)" ∷ " ())" ∷ "(define app (x y)" ∷ " (if (consp x) (cons (car x) (app (cdr x) y)) y)" ∷ " (rank x)" ∷ " ((axiom (pequal* x x)) (axiom (pequal* x x))))" ∷ "(define up (x) (if (consp x) (up (cdr x)) x) x ((theorem (pequal* (ordp x) 't)) ()))" ∷ "(define k (x) x nil (a))" ∷ []))
    ("; 1 DEFINE APP refused COUNT" ∷ "(WHY 1 COUNT (PEQUAL* (ORDP (RANK X)) (QUOTE T)) (POR* (PEQUAL* (CONSP X) (QUOTE NIL)) (PEQUAL* (ORD< (RANK (CDR X)) (RANK X)) (QUOTE T))))" ∷ "; 2 DEFINE APP refused CONCLUSION" ∷ "(WHY 2 CONCLUSION 1 (PEQUAL* (ORDP (RANK X)) (QUOTE T)) (PEQUAL* X X))" ∷ "; 3 DEFINE UP refused PROOF" ∷ "(WHY 3 PROOF 1 (PEQUAL* (ORDP X) (QUOTE T)) NIL (THEOREM (PEQUAL* (ORDP X) (QUOTE T)) NIL NIL) RULE)" ∷ "; 4 DEFINE K refused COUNT" ∷ "(WHY 4 COUNT)" ∷ "; events 4 accepted 0 refused 4 level 1" ∷ []) SomeRefused
    ∷ worked "what a definition lacks is shown"
    (joined ("(define if (x) x nil ())" ∷ "(define list (x) x nil ())" ∷ "(define 7 (x) x nil ())" ∷ "(define k (x x) x nil ())" ∷ "(define k (x) (cond ((consp x) (let ((y (first x x))) y)) (t (frist x))) nil ())" ∷ "(define k (x) x (k x) ())" ∷ "(define k (x) (cons y (cons x z)) y ())" ∷ "(define deep (x) (if (consp x) (deep (deep (cdr x))) x) (rank x) ())" ∷ "(skolem g y (y) (equal x y))" ∷ "(skolem g y (x) (equal z y))" ∷ []))
    ("; 1 DEFINE IF refused NAME" ∷ "(WHY 1 NAME 1 IF 3)" ∷ "; 2 DEFINE LIST refused NAME" ∷ "(WHY 2 NAME 1 LIST)" ∷ "; 3 DEFINE - refused NAME" ∷ "(WHY 3 NAME 1 7)" ∷ "; 4 DEFINE K refused FORMALS" ∷ "(WHY 4 FORMALS 1 (X X))" ∷ "; 5 DEFINE K refused TERM" ∷ "(WHY 5 TERM 1 BODY (FIRST X X))" ∷ "; 6 DEFINE K refused TERM" ∷ "(WHY 6 TERM 1 MEASURE (K X))" ∷ "; 7 DEFINE K refused VARIABLES" ∷ "(WHY 7 VARIABLES 1 Y Z)" ∷ "; 8 DEFINE DEEP refused NESTED" ∷ "(WHY 8 NESTED 1 (DEEP (DEEP (CDR X))))" ∷ "; 9 SKOLEM G refused FORMALS" ∷ "(WHY 9 FORMALS 1 (Y Y))" ∷ "; 10 SKOLEM G refused VARIABLES" ∷ "(WHY 10 VARIABLES 1 Z)" ∷ "; events 10 accepted 0 refused 10 level 1" ∷ []) SomeRefused
    ∷ worked "definition of a block is counted"
    (joined ("(define-all ((p (x) x nil) (p (x) x nil)) ())" ∷ "(define-all ((p (x) x nil) (q (x) x)) ())" ∷ "(define-all () ())" ∷ "(define-all (p))" ∷ "(define-all ((p (x) (q x x) nil) (q (x y) (p x y) nil)) ())" ∷ "(define-all ((p (x) x nil) (q (x t) x nil)) ())" ∷ []))
    ("; 1 DEFINE-ALL - refused NAME" ∷ "(WHY 1 NAME 2 P)" ∷ "; 2 DEFINE-ALL - refused EVENT" ∷ "(WHY 2 EVENT)" ∷ "; 3 DEFINE-ALL - refused EVENT" ∷ "(WHY 3 EVENT)" ∷ "; 4 DEFINE-ALL - refused EVENT" ∷ "(WHY 4 EVENT 3)" ∷ "; 5 DEFINE-ALL - refused TERM" ∷ "(WHY 5 TERM 2 BODY (P X Y) 1)" ∷ "; 6 DEFINE-ALL - refused FORMALS" ∷ "(WHY 6 FORMALS 2 (X T))" ∷ "; events 6 accepted 0 refused 6 level 1" ∷ []) SomeRefused
    ∷ worked "refused definitions of each kind"
    (joined ("(define if (x) x nil ()) (define list (x) x nil ()) (define k (x x) x nil ())" ∷ "(define k (x) (cond ((consp x) (let ((y (first x x))) y)) (t (frist x))) nil ())" ∷ "(define k (x) x (k x) ())" ∷ "(define k (x) (cons y (cons x z)) y ())" ∷ "(define deep (x) (if (consp x) (deep (deep (cdr x))) x) (rank x) ())" ∷ "(skolem g y (y) (equal x y))" ∷ "(define-all ((p (x) (q x x) nil) (q (x y) (p x y) nil)) ())" ∷ "(define-all ((p (x) x nil) (p (x) x nil)) ())" ∷ []))
    ("; 1 DEFINE IF refused NAME" ∷ "(WHY 1 NAME 1 IF 3)" ∷ "; 2 DEFINE LIST refused NAME" ∷ "(WHY 2 NAME 1 LIST)" ∷ "; 3 DEFINE K refused FORMALS" ∷ "(WHY 3 FORMALS 1 (X X))" ∷ "; 4 DEFINE K refused TERM" ∷ "(WHY 4 TERM 1 BODY (FIRST X X))" ∷ "; 5 DEFINE K refused TERM" ∷ "(WHY 5 TERM 1 MEASURE (K X))" ∷ "; 6 DEFINE K refused VARIABLES" ∷ "(WHY 6 VARIABLES 1 Y Z)" ∷ "; 7 DEFINE DEEP refused NESTED" ∷ "(WHY 7 NESTED 1 (DEEP (DEEP (CDR X))))" ∷ "; 8 SKOLEM G refused FORMALS" ∷ "(WHY 8 FORMALS 1 (Y Y))" ∷ "; 9 DEFINE-ALL - refused TERM" ∷ "(WHY 9 TERM 2 BODY (P X Y) 1)" ∷ "; 10 DEFINE-ALL - refused NAME" ∷ "(WHY 10 NAME 2 P)" ∷ "; events 10 accepted 0 refused 10 level 1" ∷ []) SomeRefused
    ∷ []

refused_definitions_are_explained : All IsExplained refused_definitions
unfolding need must unless
refused_definitions_are_explained = are_explained refused_definitions refl

abbrev other_refused_events : List Worked
other_refused_events =
    worked "members wanted are counted"
    (joined ("abc (abc) (verify x)" ∷ "(print 340282366920938463463374607431768211456)" ∷ "(profile 3)" ∷ "(verify 7 (pequal* x x) ())" ∷ []))
    ("; 1 - - refused EVENT" ∷ "(WHY 1 EVENT)" ∷ "; 2 ABC - refused EVENT" ∷ "(WHY 2 EVENT)" ∷ "; 3 VERIFY X refused EVENT" ∷ "(WHY 3 EVENT 4)" ∷ "; 4 PRINT - refused RANGE" ∷ "(WHY 4 RANGE)" ∷ "; 5 PROFILE - refused PROFILE" ∷ "(WHY 5 PROFILE)" ∷ "; 6 VERIFY - refused NAME" ∷ "(WHY 6 NAME 7)" ∷ "; events 6 accepted 0 refused 6 level 1" ∷ []) SomeRefused
    ∷ worked_within 2 "run is not explained"
    (joined ("(eval (car 1 2))" ∷ "(eval (cons x (cons y x)))" ∷ "(eval (+ 340282366920938463463374607431768211455 1))" ∷ "(eval (logic.provablep '(pequal* x x) nil nil nil))" ∷ "(eval (+ (+ 1 1) (+ 1 1)))" ∷ []))
    ("; 1 EVAL - refused TERM" ∷ "(WHY 1 TERM 1 BODY (CAR 1 2) 1)" ∷ "; 2 EVAL - refused VARIABLES" ∷ "(WHY 2 VARIABLES 1 X Y)" ∷ "; 3 EVAL - refused OVERFLOW" ∷ "(WHY 3 OVERFLOW)" ∷ "; 4 EVAL - refused WITNESS" ∷ "(WHY 4 WITNESS)" ∷ "; 5 EVAL - refused STEPS" ∷ "(WHY 5 STEPS)" ∷ "; events 5 accepted 0 refused 5 level 1" ∷ []) SomeRefused
    ∷ worked "claim wanted is shown"
    (joined ("(switch logic.proofp)" ∷ "(switch logic.termp)" ∷ "(switch nothing)" ∷ "(define never (x axioms thms atbl) nil nil ())" ∷ "(verify claim" ∷ " #1=(por* #2=(pequal* (never x axioms thms atbl) 'nil)" ∷ "          #3=(pnot* (pequal* (logic.provablep (logic.conclusion x) axioms thms atbl) 'nil)))" ∷ " (cut #1# ((expansion (por* #3# #2#) ((axiom #2#)))" ∷ "           (propositional-schema (por* (pnot* #3#) #3#)))))" ∷ "(switch never)" ∷ "(verify refl (pequal* x x) (axiom (pequal* x x)))" ∷ []))
    ("; 1 SWITCH LOGIC.PROOFP refused CLAIM" ∷ "(WHY 1 CLAIM (POR* (PEQUAL* (LOGIC.PROOFP X AXIOMS THMS ATBL) (QUOTE NIL)) (PNOT* (PEQUAL* (LOGIC.PROVABLEP (LOGIC.CONCLUSION X) AXIOMS THMS ATBL) (QUOTE NIL)))))" ∷ "; 2 SWITCH LOGIC.TERMP refused CHECKER" ∷ "(WHY 2 CHECKER 2)" ∷ "; 3 SWITCH NOTHING refused CHECKER" ∷ "(WHY 3 CHECKER)" ∷ "; 7 VERIFY REFL refused NIL" ∷ "(WHY 7 NIL 1 (PEQUAL* X X))" ∷ "; events 7 accepted 3 refused 4 level 2" ∷ []) SomeRefused
    ∷ worked_within 2 "refused data of each kind"
    (joined ("abc (verify x)" ∷ "(print 340282366920938463463374607431768211456)" ∷ "(profile 3)" ∷ "(eval (+ (+ 1 1) (+ 1 1)))" ∷ []))
    ("; 1 - - refused EVENT" ∷ "(WHY 1 EVENT)" ∷ "; 2 VERIFY X refused EVENT" ∷ "(WHY 2 EVENT 4)" ∷ "; 3 PRINT - refused RANGE" ∷ "(WHY 3 RANGE)" ∷ "; 4 PROFILE - refused PROFILE" ∷ "(WHY 4 PROFILE)" ∷ "; 5 EVAL - refused STEPS" ∷ "(WHY 5 STEPS)" ∷ "; events 5 accepted 0 refused 5 level 1" ∷ []) SomeRefused
    ∷ worked "fault of a book that is explained"
    (joined ("(verify c (pequal* x y) (axiom (pequal* x y)))" ∷ "(print 12a)" ∷ []))
    ("; 1 VERIFY C refused PROOF" ∷ "(WHY 1 PROOF 1 (PEQUAL* X Y) NIL (AXIOM (PEQUAL* X Y) NIL NIL) RULE)" ∷ "; syntax TOKEN at 54" ∷ []) (Syntax TOKEN 54)
    ∷ []

other_refused_events_are_explained : All IsExplained other_refused_events
unfolding need must unless
other_refused_events_are_explained = are_explained other_refused_events refl
