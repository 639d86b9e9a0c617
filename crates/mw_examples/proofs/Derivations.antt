-- Derivations: what is owed for books of them. The proofs in the texts are some of many.
use Rattle.std.proofs.Common.{◌≡◌, Bool, true, List, [], ◌∷◌, ◌++◌, map, refl, sym, ap, codes}
use Rattle.std.specs.List.{All}
use Prim.Native.String.{String}
use Rattle.mw_model.specs.Terms.Object.{Object}
use Rattle.mw_model.specs.Events.Refusal.{need, must, unless}
use Rattle.mw_model.specs.Laws.BuiltInText.{joined}
use Rattle.mw_model.specs.Texts.Lexemes.{DOT}
use Rattle.mw_model.specs.Texts.Grammar.{trees}
use Rattle.mw_model.specs.Events.Fate.{event_word}
use Rattle.mw_model.specs.Reports.Report.{Report, Done, SomeRefused, Syntax}
use Rattle.mw_model.specs.Texts.Pieces.{comment_ending}
use Rattle.mw_commands.specs.Commands.Slice.{proofs_by_word}
use Rattle.mw_commands.specs.Commands.Lowering.{derived_course, course_summary, LoweredWritten, lowering_status}
use Rattle.mw_commands.proofs.TurnsTest.{pieces, are_right, right}
use Rattle.mw_examples.proofs.Reports.{says}
use Rattle.mw_examples.proofs.Tables.{Worked, worked, each}

-- this may be written for the book, and this is the status
abbrev pub IsLowered : Worked → Type 0
IsLowered e = LoweredWritten (trees e.book) e.limit (joined e.text) × (lowering_status (trees e.book) e.limit ≡ e.status)

-- the proofs of the events that were written
abbrev proofs_in : List String → List Object
proofs_in text = map (λ e. proofs_by_word (event_word e) e) (trees (joined text)).events

-- whether these proofs are right, and the text with them, and the status
record Computed : Type 0 where
  right : Bool
  report : Report

abbrev computed : Worked → Computed
computed e =
    let b = trees e.book in
    let course = derived_course b.events e.limit in
    record { right = are_right course (proofs_in e.text); report = record { text = pieces course (proofs_in e.text) ++ comment_ending b.fault (course_summary course); status = lowering_status b e.limit } }

abbrev expected : Worked → Computed
expected e = record { right = true; report = says e.text e.status }

lowered : (e : Worked) → computed e ≡ expected e → IsLowered e
lowered e h =
    let course = derived_course (trees e.book).events e.limit in (
      (pieces course (proofs_in e.text), right course (proofs_in e.text) (ap (λ (c : Computed). c.right) h), sym (ap (λ (c : Computed). c.report.text) h)),
      ap (λ (c : Computed). c.report.status) h,
    )

are_lowered : (table : List Worked) → map computed table ≡ map expected table → All IsLowered table
are_lowered table h = each computed expected IsLowered lowered table h

abbrev pub disjunction_is_commuted_text : List String
disjunction_is_commuted_text = "(VERIFY C (POR* (PEQUAL* X X) (PEQUAL* A B)) (CUT (POR* (PEQUAL* X X) (PEQUAL* A B)) ((EXPANSION (POR* (PEQUAL* A B) (PEQUAL* X X)) ((AXIOM (PEQUAL* X X)))) (PROPOSITIONAL-SCHEMA (POR* (PNOT* (PEQUAL* A B)) (PEQUAL* A B))))))" ∷ "; events 1 accepted 1 refused 0 level 1" ∷ []

abbrev pub commuted : Worked
commuted = worked "disjunction is commuted" (codes "(verify c #1=(por* #2=(pequal* x x) #3=(pequal* a b)) (commute-or #1# ((expansion (por* #3# #2#) ((axiom #2#))))))") disjunction_is_commuted_text Done

pub disjunction_is_commuted : IsLowered commuted
unfolding need must unless
disjunction_is_commuted = lowered commuted refl

abbrev rules : List Worked
rules =
    worked "conclusion is detached"
    (codes "(verify m (pequal* x x) (modus-ponens (pequal* x x) ((axiom (pequal* x x)) (propositional-schema (por* (pnot* (pequal* x x)) (pequal* x x))))))")
    ("(VERIFY M (PEQUAL* X X) (CONTRACTION (PEQUAL* X X) ((CUT (POR* (PEQUAL* X X) (PEQUAL* X X)) ((CUT (POR* (PEQUAL* X X) (PEQUAL* X X)) ((EXPANSION (POR* (PEQUAL* X X) (PEQUAL* X X)) ((AXIOM (PEQUAL* X X)))) (PROPOSITIONAL-SCHEMA (POR* (PNOT* (PEQUAL* X X)) (PEQUAL* X X))))) (PROPOSITIONAL-SCHEMA (POR* (PNOT* (PEQUAL* X X)) (PEQUAL* X X))))))))" ∷ "; events 1 accepted 1 refused 0 level 1" ∷ []) Done
    ∷ worked "equation is turned"
    (codes "(verify s (pequal* (+ b a) (+ a b)) (symmetry (pequal* (+ b a) (+ a b)) ((axiom (pequal* (+ a b) (+ b a))))))")
    ("(VERIFY S (PEQUAL* (+ B A) (+ A B)) (CONTRACTION (PEQUAL* (+ B A) (+ A B)) ((CUT (POR* (PEQUAL* (+ B A) (+ A B)) (PEQUAL* (+ B A) (+ A B))) ((CUT (POR* (PEQUAL* (+ A B) (+ A B)) (PEQUAL* (+ B A) (+ A B))) ((EXPANSION (POR* (PEQUAL* (+ B A) (+ A B)) (PEQUAL* (+ A B) (+ A B))) ((INSTANTIATION (PEQUAL* (+ A B) (+ A B)) ((AXIOM (PEQUAL* X X))) ((X + A B))))) (PROPOSITIONAL-SCHEMA (POR* (PNOT* (PEQUAL* (+ B A) (+ A B))) (PEQUAL* (+ B A) (+ A B)))))) (CONTRACTION (POR* (PNOT* (PEQUAL* (+ A B) (+ A B))) (PEQUAL* (+ B A) (+ A B))) ((CUT (POR* (POR* (PNOT* (PEQUAL* (+ A B) (+ A B))) (PEQUAL* (+ B A) (+ A B))) (POR* (PNOT* (PEQUAL* (+ A B) (+ A B))) (PEQUAL* (+ B A) (+ A B)))) ((CUT (POR* (PEQUAL* (+ A B) (+ A B)) (POR* (PNOT* (PEQUAL* (+ A B) (+ A B))) (PEQUAL* (+ B A) (+ A B)))) ((EXPANSION (POR* (POR* (PNOT* (PEQUAL* (+ A B) (+ A B))) (PEQUAL* (+ B A) (+ A B))) (PEQUAL* (+ A B) (+ A B))) ((INSTANTIATION (PEQUAL* (+ A B) (+ A B)) ((AXIOM (PEQUAL* X X))) ((X + A B))))) (PROPOSITIONAL-SCHEMA (POR* (PNOT* (POR* (PNOT* (PEQUAL* (+ A B) (+ A B))) (PEQUAL* (+ B A) (+ A B)))) (POR* (PNOT* (PEQUAL* (+ A B) (+ A B))) (PEQUAL* (+ B A) (+ A B))))))) (CONTRACTION (POR* (PNOT* (PEQUAL* (+ A B) (+ A B))) (POR* (PNOT* (PEQUAL* (+ A B) (+ A B))) (PEQUAL* (+ B A) (+ A B)))) ((CUT (POR* (POR* (PNOT* (PEQUAL* (+ A B) (+ A B))) (POR* (PNOT* (PEQUAL* (+ A B) (+ A B))) (PEQUAL* (+ B A) (+ A B)))) (POR* (PNOT* (PEQUAL* (+ A B) (+ A B))) (POR* (PNOT* (PEQUAL* (+ A B) (+ A B))) (PEQUAL* (+ B A) (+ A B))))) ((CUT (POR* (PEQUAL* (+ A B) (+ B A)) (POR* (PNOT* (PEQUAL* (+ A B) (+ A B))) (POR* (PNOT* (PEQUAL* (+ A B) (+ A B))) (PEQUAL* (+ B A) (+ A B))))) ((EXPANSION (POR* (POR* (PNOT* (PEQUAL* (+ A B) (+ A B))) (POR* (PNOT* (PEQUAL* (+ A B) (+ A B))) (PEQUAL* (+ B A) (+ A B)))) (PEQUAL* (+ A B) (+ B A))) ((AXIOM (PEQUAL* (+ A B) (+ B A))))) (PROPOSITIONAL-SCHEMA (POR* (PNOT* (POR* (PNOT* (PEQUAL* (+ A B) (+ A B))) (POR* (PNOT* (PEQUAL* (+ A B) (+ A B))) (PEQUAL* (+ B A) (+ A B))))) (POR* (PNOT* (PEQUAL* (+ A B) (+ A B))) (POR* (PNOT* (PEQUAL* (+ A B) (+ A B))) (PEQUAL* (+ B A) (+ A B)))))))) (INSTANTIATION (POR* (PNOT* (PEQUAL* (+ A B) (+ B A))) (POR* (PNOT* (PEQUAL* (+ A B) (+ A B))) (POR* (PNOT* (PEQUAL* (+ A B) (+ A B))) (PEQUAL* (+ B A) (+ A B))))) ((AXIOM (POR* (PNOT* (PEQUAL* X1 Y1)) (POR* (PNOT* (PEQUAL* X2 Y2)) (POR* (PNOT* (PEQUAL* X1 X2)) (PEQUAL* Y1 Y2)))))) ((X1 + A B) (Y1 + B A) (X2 + A B) (Y2 + A B))))))))))))))))" ∷ "; events 1 accepted 1 refused 0 level 1" ∷ []) Done
    ∷ worked "equations are chained"
    (codes "(verify t (pequal* (+ a b) (+ a b)) (transitivity (pequal* (+ a b) (+ a b)) ((axiom (pequal* (+ a b) (+ b a))) (symmetry (pequal* (+ b a) (+ a b)) ((axiom (pequal* (+ a b) (+ b a))))))))")
    ("(VERIFY T (PEQUAL* (+ A B) (+ A B)) (CONTRACTION (PEQUAL* (+ A B) (+ A B)) ((CUT (POR* (PEQUAL* (+ A B) (+ A B)) (PEQUAL* (+ A B) (+ A B))) ((CUT (POR* (PEQUAL* (+ B A) (+ B A)) (PEQUAL* (+ A B) (+ A B))) ((EXPANSION (POR* (PEQUAL* (+ A B) (+ A B)) (PEQUAL* (+ B A) (+ B A))) ((INSTANTIATION (PEQUAL* (+ B A) (+ B A)) ((AXIOM (PEQUAL* X X))) ((X + B A))))) (PROPOSITIONAL-SCHEMA (POR* (PNOT* (PEQUAL* (+ A B) (+ A B))) (PEQUAL* (+ A B) (+ A B)))))) (CONTRACTION (POR* (PNOT* (PEQUAL* (+ B A) (+ B A))) (PEQUAL* (+ A B) (+ A B))) ((CUT (POR* (POR* (PNOT* (PEQUAL* (+ B A) (+ B A))) (PEQUAL* (+ A B) (+ A B))) (POR* (PNOT* (PEQUAL* (+ B A) (+ B A))) (PEQUAL* (+ A B) (+ A B)))) ((CUT (POR* (PEQUAL* (+ B A) (+ A B)) (POR* (PNOT* (PEQUAL* (+ B A) (+ B A))) (PEQUAL* (+ A B) (+ A B)))) ((EXPANSION (POR* (POR* (PNOT* (PEQUAL* (+ B A) (+ B A))) (PEQUAL* (+ A B) (+ A B))) (PEQUAL* (+ B A) (+ A B))) ((CONTRACTION (PEQUAL* (+ B A) (+ A B)) ((CUT (POR* (PEQUAL* (+ B A) (+ A B)) (PEQUAL* (+ B A) (+ A B))) ((CUT (POR* (PEQUAL* (+ A B) (+ A B)) (PEQUAL* (+ B A) (+ A B))) ((EXPANSION (POR* (PEQUAL* (+ B A) (+ A B)) (PEQUAL* (+ A B) (+ A B))) ((INSTANTIATION (PEQUAL* (+ A B) (+ A B)) ((AXIOM (PEQUAL* X X))) ((X + A B))))) (PROPOSITIONAL-SCHEMA (POR* (PNOT* (PEQUAL* (+ B A) (+ A B))) (PEQUAL* (+ B A) (+ A B)))))) (CONTRACTION (POR* (PNOT* (PEQUAL* (+ A B) (+ A B))) (PEQUAL* (+ B A) (+ A B))) ((CUT (POR* (POR* (PNOT* (PEQUAL* (+ A B) (+ A B))) (PEQUAL* (+ B A) (+ A B))) (POR* (PNOT* (PEQUAL* (+ A B) (+ A B))) (PEQUAL* (+ B A) (+ A B)))) ((CUT (POR* (PEQUAL* (+ A B) (+ A B)) (POR* (PNOT* (PEQUAL* (+ A B) (+ A B))) (PEQUAL* (+ B A) (+ A B)))) ((EXPANSION (POR* (POR* (PNOT* (PEQUAL* (+ A B) (+ A B))) (PEQUAL* (+ B A) (+ A B))) (PEQUAL* (+ A B) (+ A B))) ((INSTANTIATION (PEQUAL* (+ A B) (+ A B)) ((AXIOM (PEQUAL* X X))) ((X + A B))))) (PROPOSITIONAL-SCHEMA (POR* (PNOT* (POR* (PNOT* (PEQUAL* (+ A B) (+ A B))) (PEQUAL* (+ B A) (+ A B)))) (POR* (PNOT* (PEQUAL* (+ A B) (+ A B))) (PEQUAL* (+ B A) (+ A B))))))) (CONTRACTION (POR* (PNOT* (PEQUAL* (+ A B) (+ A B))) (POR* (PNOT* (PEQUAL* (+ A B) (+ A B))) (PEQUAL* (+ B A) (+ A B)))) ((CUT (POR* (POR* (PNOT* (PEQUAL* (+ A B) (+ A B))) (POR* (PNOT* (PEQUAL* (+ A B) (+ A B))) (PEQUAL* (+ B A) (+ A B)))) (POR* (PNOT* (PEQUAL* (+ A B) (+ A B))) (POR* (PNOT* (PEQUAL* (+ A B) (+ A B))) (PEQUAL* (+ B A) (+ A B))))) ((CUT (POR* (PEQUAL* (+ A B) (+ B A)) (POR* (PNOT* (PEQUAL* (+ A B) (+ A B))) (POR* (PNOT* (PEQUAL* (+ A B) (+ A B))) (PEQUAL* (+ B A) (+ A B))))) ((EXPANSION (POR* (POR* (PNOT* (PEQUAL* (+ A B) (+ A B))) (POR* (PNOT* (PEQUAL* (+ A B) (+ A B))) (PEQUAL* (+ B A) (+ A B)))) (PEQUAL* (+ A B) (+ B A))) ((AXIOM (PEQUAL* (+ A B) (+ B A))))) (PROPOSITIONAL-SCHEMA (POR* (PNOT* (POR* (PNOT* (PEQUAL* (+ A B) (+ A B))) (POR* (PNOT* (PEQUAL* (+ A B) (+ A B))) (PEQUAL* (+ B A) (+ A B))))) (POR* (PNOT* (PEQUAL* (+ A B) (+ A B))) (POR* (PNOT* (PEQUAL* (+ A B) (+ A B))) (PEQUAL* (+ B A) (+ A B)))))))) (INSTANTIATION (POR* (PNOT* (PEQUAL* (+ A B) (+ B A))) (POR* (PNOT* (PEQUAL* (+ A B) (+ A B))) (POR* (PNOT* (PEQUAL* (+ A B) (+ A B))) (PEQUAL* (+ B A) (+ A B))))) ((AXIOM (POR* (PNOT* (PEQUAL* X1 Y1)) (POR* (PNOT* (PEQUAL* X2 Y2)) (POR* (PNOT* (PEQUAL* X1 X2)) (PEQUAL* Y1 Y2)))))) ((X1 + A B) (Y1 + B A) (X2 + A B) (Y2 + A B))))))))))))))))) (PROPOSITIONAL-SCHEMA (POR* (PNOT* (POR* (PNOT* (PEQUAL* (+ B A) (+ B A))) (PEQUAL* (+ A B) (+ A B)))) (POR* (PNOT* (PEQUAL* (+ B A) (+ B A))) (PEQUAL* (+ A B) (+ A B))))))) (CONTRACTION (POR* (PNOT* (PEQUAL* (+ B A) (+ A B))) (POR* (PNOT* (PEQUAL* (+ B A) (+ B A))) (PEQUAL* (+ A B) (+ A B)))) ((CUT (POR* (POR* (PNOT* (PEQUAL* (+ B A) (+ A B))) (POR* (PNOT* (PEQUAL* (+ B A) (+ B A))) (PEQUAL* (+ A B) (+ A B)))) (POR* (PNOT* (PEQUAL* (+ B A) (+ A B))) (POR* (PNOT* (PEQUAL* (+ B A) (+ B A))) (PEQUAL* (+ A B) (+ A B))))) ((CUT (POR* (PEQUAL* (+ B A) (+ A B)) (POR* (PNOT* (PEQUAL* (+ B A) (+ A B))) (POR* (PNOT* (PEQUAL* (+ B A) (+ B A))) (PEQUAL* (+ A B) (+ A B))))) ((EXPANSION (POR* (POR* (PNOT* (PEQUAL* (+ B A) (+ A B))) (POR* (PNOT* (PEQUAL* (+ B A) (+ B A))) (PEQUAL* (+ A B) (+ A B)))) (PEQUAL* (+ B A) (+ A B))) ((CONTRACTION (PEQUAL* (+ B A) (+ A B)) ((CUT (POR* (PEQUAL* (+ B A) (+ A B)) (PEQUAL* (+ B A) (+ A B))) ((CUT (POR* (PEQUAL* (+ A B) (+ A B)) (PEQUAL* (+ B A) (+ A B))) ((EXPANSION (POR* (PEQUAL* (+ B A) (+ A B)) (PEQUAL* (+ A B) (+ A B))) ((INSTANTIATION (PEQUAL* (+ A B) (+ A B)) ((AXIOM (PEQUAL* X X))) ((X + A B))))) (PROPOSITIONAL-SCHEMA (POR* (PNOT* (PEQUAL* (+ B A) (+ A B))) (PEQUAL* (+ B A) (+ A B)))))) (CONTRACTION (POR* (PNOT* (PEQUAL* (+ A B) (+ A B))) (PEQUAL* (+ B A) (+ A B))) ((CUT (POR* (POR* (PNOT* (PEQUAL* (+ A B) (+ A B))) (PEQUAL* (+ B A) (+ A B))) (POR* (PNOT* (PEQUAL* (+ A B) (+ A B))) (PEQUAL* (+ B A) (+ A B)))) ((CUT (POR* (PEQUAL* (+ A B) (+ A B)) (POR* (PNOT* (PEQUAL* (+ A B) (+ A B))) (PEQUAL* (+ B A) (+ A B)))) ((EXPANSION (POR* (POR* (PNOT* (PEQUAL* (+ A B) (+ A B))) (PEQUAL* (+ B A) (+ A B))) (PEQUAL* (+ A B) (+ A B))) ((INSTANTIATION (PEQUAL* (+ A B) (+ A B)) ((AXIOM (PEQUAL* X X))) ((X + A B))))) (PROPOSITIONAL-SCHEMA (POR* (PNOT* (POR* (PNOT* (PEQUAL* (+ A B) (+ A B))) (PEQUAL* (+ B A) (+ A B)))) (POR* (PNOT* (PEQUAL* (+ A B) (+ A B))) (PEQUAL* (+ B A) (+ A B))))))) (CONTRACTION (POR* (PNOT* (PEQUAL* (+ A B) (+ A B))) (POR* (PNOT* (PEQUAL* (+ A B) (+ A B))) (PEQUAL* (+ B A) (+ A B)))) ((CUT (POR* (POR* (PNOT* (PEQUAL* (+ A B) (+ A B))) (POR* (PNOT* (PEQUAL* (+ A B) (+ A B))) (PEQUAL* (+ B A) (+ A B)))) (POR* (PNOT* (PEQUAL* (+ A B) (+ A B))) (POR* (PNOT* (PEQUAL* (+ A B) (+ A B))) (PEQUAL* (+ B A) (+ A B))))) ((CUT (POR* (PEQUAL* (+ A B) (+ B A)) (POR* (PNOT* (PEQUAL* (+ A B) (+ A B))) (POR* (PNOT* (PEQUAL* (+ A B) (+ A B))) (PEQUAL* (+ B A) (+ A B))))) ((EXPANSION (POR* (POR* (PNOT* (PEQUAL* (+ A B) (+ A B))) (POR* (PNOT* (PEQUAL* (+ A B) (+ A B))) (PEQUAL* (+ B A) (+ A B)))) (PEQUAL* (+ A B) (+ B A))) ((AXIOM (PEQUAL* (+ A B) (+ B A))))) (PROPOSITIONAL-SCHEMA (POR* (PNOT* (POR* (PNOT* (PEQUAL* (+ A B) (+ A B))) (POR* (PNOT* (PEQUAL* (+ A B) (+ A B))) (PEQUAL* (+ B A) (+ A B))))) (POR* (PNOT* (PEQUAL* (+ A B) (+ A B))) (POR* (PNOT* (PEQUAL* (+ A B) (+ A B))) (PEQUAL* (+ B A) (+ A B)))))))) (INSTANTIATION (POR* (PNOT* (PEQUAL* (+ A B) (+ B A))) (POR* (PNOT* (PEQUAL* (+ A B) (+ A B))) (POR* (PNOT* (PEQUAL* (+ A B) (+ A B))) (PEQUAL* (+ B A) (+ A B))))) ((AXIOM (POR* (PNOT* (PEQUAL* X1 Y1)) (POR* (PNOT* (PEQUAL* X2 Y2)) (POR* (PNOT* (PEQUAL* X1 X2)) (PEQUAL* Y1 Y2)))))) ((X1 + A B) (Y1 + B A) (X2 + A B) (Y2 + A B))))))))))))))))) (PROPOSITIONAL-SCHEMA (POR* (PNOT* (POR* (PNOT* (PEQUAL* (+ B A) (+ A B))) (POR* (PNOT* (PEQUAL* (+ B A) (+ B A))) (PEQUAL* (+ A B) (+ A B))))) (POR* (PNOT* (PEQUAL* (+ B A) (+ A B))) (POR* (PNOT* (PEQUAL* (+ B A) (+ B A))) (PEQUAL* (+ A B) (+ A B)))))))) (INSTANTIATION (POR* (PNOT* (PEQUAL* (+ B A) (+ A B))) (POR* (PNOT* (PEQUAL* (+ B A) (+ A B))) (POR* (PNOT* (PEQUAL* (+ B A) (+ B A))) (PEQUAL* (+ A B) (+ A B))))) ((AXIOM (POR* (PNOT* (PEQUAL* X1 Y1)) (POR* (PNOT* (PEQUAL* X2 Y2)) (POR* (PNOT* (PEQUAL* X1 X2)) (PEQUAL* Y1 Y2)))))) ((X1 + B A) (Y1 + A B) (X2 + B A) (Y2 + A B))))))))))))))))" ∷ "; events 1 accepted 1 refused 0 level 1" ∷ []) Done
    ∷ worked "actuals are replaced"
    (codes "(verify r (pequal* (if a (+ a b) c) (if a (+ b a) c)) (replace (pequal* (if a (+ a b) c) (if a (+ b a) c)) ((instantiation (pequal* a a) ((axiom (pequal* x x))) ((x . a))) (axiom (pequal* (+ a b) (+ b a))) (instantiation (pequal* c c) ((axiom (pequal* x x))) ((x . c))))))")
    ("(VERIFY R (PEQUAL* (IF A (+ A B) C) (IF A (+ B A) C)) (CONTRACTION (PEQUAL* (IF A (+ A B) C) (IF A (+ B A) C)) ((CUT (POR* (PEQUAL* (IF A (+ A B) C) (IF A (+ B A) C)) (PEQUAL* (IF A (+ A B) C) (IF A (+ B A) C))) ((CUT (POR* (PEQUAL* C C) (PEQUAL* (IF A (+ A B) C) (IF A (+ B A) C))) ((EXPANSION (POR* (PEQUAL* (IF A (+ A B) C) (IF A (+ B A) C)) (PEQUAL* C C)) ((INSTANTIATION (PEQUAL* C C) ((AXIOM (PEQUAL* X X))) ((X . C))))) (PROPOSITIONAL-SCHEMA (POR* (PNOT* (PEQUAL* (IF A (+ A B) C) (IF A (+ B A) C))) (PEQUAL* (IF A (+ A B) C) (IF A (+ B A) C)))))) (CONTRACTION (POR* (PNOT* (PEQUAL* C C)) (PEQUAL* (IF A (+ A B) C) (IF A (+ B A) C))) ((CUT (POR* (POR* (PNOT* (PEQUAL* C C)) (PEQUAL* (IF A (+ A B) C) (IF A (+ B A) C))) (POR* (PNOT* (PEQUAL* C C)) (PEQUAL* (IF A (+ A B) C) (IF A (+ B A) C)))) ((CUT (POR* (PEQUAL* (+ A B) (+ B A)) (POR* (PNOT* (PEQUAL* C C)) (PEQUAL* (IF A (+ A B) C) (IF A (+ B A) C)))) ((EXPANSION (POR* (POR* (PNOT* (PEQUAL* C C)) (PEQUAL* (IF A (+ A B) C) (IF A (+ B A) C))) (PEQUAL* (+ A B) (+ B A))) ((AXIOM (PEQUAL* (+ A B) (+ B A))))) (PROPOSITIONAL-SCHEMA (POR* (PNOT* (POR* (PNOT* (PEQUAL* C C)) (PEQUAL* (IF A (+ A B) C) (IF A (+ B A) C)))) (POR* (PNOT* (PEQUAL* C C)) (PEQUAL* (IF A (+ A B) C) (IF A (+ B A) C))))))) (CONTRACTION (POR* (PNOT* (PEQUAL* (+ A B) (+ B A))) (POR* (PNOT* (PEQUAL* C C)) (PEQUAL* (IF A (+ A B) C) (IF A (+ B A) C)))) ((CUT (POR* (POR* (PNOT* (PEQUAL* (+ A B) (+ B A))) (POR* (PNOT* (PEQUAL* C C)) (PEQUAL* (IF A (+ A B) C) (IF A (+ B A) C)))) (POR* (PNOT* (PEQUAL* (+ A B) (+ B A))) (POR* (PNOT* (PEQUAL* C C)) (PEQUAL* (IF A (+ A B) C) (IF A (+ B A) C))))) ((CUT (POR* (PEQUAL* A A) (POR* (PNOT* (PEQUAL* (+ A B) (+ B A))) (POR* (PNOT* (PEQUAL* C C)) (PEQUAL* (IF A (+ A B) C) (IF A (+ B A) C))))) ((EXPANSION (POR* (POR* (PNOT* (PEQUAL* (+ A B) (+ B A))) (POR* (PNOT* (PEQUAL* C C)) (PEQUAL* (IF A (+ A B) C) (IF A (+ B A) C)))) (PEQUAL* A A)) ((INSTANTIATION (PEQUAL* A A) ((AXIOM (PEQUAL* X X))) ((X . A))))) (PROPOSITIONAL-SCHEMA (POR* (PNOT* (POR* (PNOT* (PEQUAL* (+ A B) (+ B A))) (POR* (PNOT* (PEQUAL* C C)) (PEQUAL* (IF A (+ A B) C) (IF A (+ B A) C))))) (POR* (PNOT* (PEQUAL* (+ A B) (+ B A))) (POR* (PNOT* (PEQUAL* C C)) (PEQUAL* (IF A (+ A B) C) (IF A (+ B A) C)))))))) (FUNCTIONAL-EQUALITY (POR* (PNOT* (PEQUAL* A A)) (POR* (PNOT* (PEQUAL* (+ A B) (+ B A))) (POR* (PNOT* (PEQUAL* C C)) (PEQUAL* (IF A (+ A B) C) (IF A (+ B A) C)))))))))))))))))))" ∷ "; events 1 accepted 1 refused 0 level 1" ∷ []) Done
    ∷ worked "call without actuals equals itself"
    (codes "(define c () nil nil ()) (verify z (pequal* (c) (c)) (replace (pequal* (c) (c)) ())) (eval (c)) (verify refl (pequal* x x) (axiom (pequal* x x)))")
    ("(DEFINE C NIL NIL NIL NIL)" ∷ "(VERIFY Z (PEQUAL* (C) (C)) (FUNCTIONAL-EQUALITY (PEQUAL* (C) (C))))" ∷ "(EVAL (C))" ∷ "(VERIFY REFL (PEQUAL* X X) (AXIOM (PEQUAL* X X)))" ∷ "; events 4 accepted 4 refused 0 level 1" ∷ []) Done
    ∷ worked "axiom is no conclusion of symmetry"
    (codes "(verify e (pequal* y x) (symmetry (pequal* y x) ((axiom (pequal* x y)))))")
    ("; 1 VERIFY E refused PROOF" ∷ "; events 1 accepted 0 refused 1 level 1" ∷ []) SomeRefused
    ∷ []

rules_are_lowered : All IsLowered rules
unfolding need must unless
rules_are_lowered = are_lowered rules refl

-- what the books above do not show
abbrev edges : List Worked
edges =
    -- Extras are NIL, and a rule with too many subproofs does not hold. The number of a line is that of the event in the book.
    worked "faults of derivations"
    (codes "(verify x (pequal* x x) (symmetry (pequal* x x) ((axiom (pequal* x x))) (t))) (verify y (pequal* x x) (symmetry (pequal* x x) ((axiom (pequal* x x)) (axiom (pequal* x x))))) (verify z (pequal* x x) (replace (pequal* x x) ())) (verify w (pequal* x x) (symmetry (pequal* x x) ((axiom (pequal* x x))) ())) (eval (car x))")
    ("; 1 VERIFY X refused PROOF" ∷ "; 2 VERIFY Y refused PROOF" ∷ "; 3 VERIFY Z refused PROOF" ∷ "(VERIFY W (PEQUAL* X X) (CONTRACTION (PEQUAL* X X) ((CUT (POR* (PEQUAL* X X) (PEQUAL* X X)) ((CUT (POR* (PEQUAL* X X) (PEQUAL* X X)) ((EXPANSION (POR* (PEQUAL* X X) (PEQUAL* X X)) ((INSTANTIATION (PEQUAL* X X) ((AXIOM (PEQUAL* X X))) ((X . X))))) (PROPOSITIONAL-SCHEMA (POR* (PNOT* (PEQUAL* X X)) (PEQUAL* X X))))) (CONTRACTION (POR* (PNOT* (PEQUAL* X X)) (PEQUAL* X X)) ((CUT (POR* (POR* (PNOT* (PEQUAL* X X)) (PEQUAL* X X)) (POR* (PNOT* (PEQUAL* X X)) (PEQUAL* X X))) ((CUT (POR* (PEQUAL* X X) (POR* (PNOT* (PEQUAL* X X)) (PEQUAL* X X))) ((EXPANSION (POR* (POR* (PNOT* (PEQUAL* X X)) (PEQUAL* X X)) (PEQUAL* X X)) ((INSTANTIATION (PEQUAL* X X) ((AXIOM (PEQUAL* X X))) ((X . X))))) (PROPOSITIONAL-SCHEMA (POR* (PNOT* (POR* (PNOT* (PEQUAL* X X)) (PEQUAL* X X))) (POR* (PNOT* (PEQUAL* X X)) (PEQUAL* X X)))))) (CONTRACTION (POR* (PNOT* (PEQUAL* X X)) (POR* (PNOT* (PEQUAL* X X)) (PEQUAL* X X))) ((CUT (POR* (POR* (PNOT* (PEQUAL* X X)) (POR* (PNOT* (PEQUAL* X X)) (PEQUAL* X X))) (POR* (PNOT* (PEQUAL* X X)) (POR* (PNOT* (PEQUAL* X X)) (PEQUAL* X X)))) ((CUT (POR* (PEQUAL* X X) (POR* (PNOT* (PEQUAL* X X)) (POR* (PNOT* (PEQUAL* X X)) (PEQUAL* X X)))) ((EXPANSION (POR* (POR* (PNOT* (PEQUAL* X X)) (POR* (PNOT* (PEQUAL* X X)) (PEQUAL* X X))) (PEQUAL* X X)) ((AXIOM (PEQUAL* X X)))) (PROPOSITIONAL-SCHEMA (POR* (PNOT* (POR* (PNOT* (PEQUAL* X X)) (POR* (PNOT* (PEQUAL* X X)) (PEQUAL* X X)))) (POR* (PNOT* (PEQUAL* X X)) (POR* (PNOT* (PEQUAL* X X)) (PEQUAL* X X))))))) (INSTANTIATION (POR* (PNOT* (PEQUAL* X X)) (POR* (PNOT* (PEQUAL* X X)) (POR* (PNOT* (PEQUAL* X X)) (PEQUAL* X X)))) ((AXIOM (POR* (PNOT* (PEQUAL* X1 Y1)) (POR* (PNOT* (PEQUAL* X2 Y2)) (POR* (PNOT* (PEQUAL* X1 X2)) (PEQUAL* Y1 Y2)))))) ((X1 . X) (Y1 . X) (X2 . X) (Y2 . X))))))))))))))))" ∷ "; 5 EVAL - refused VARIABLES" ∷ "; events 5 accepted 1 refused 4 level 1" ∷ []) SomeRefused
    -- A checker that was switched to is run on the derivation as it stands, and says no here.
    ∷ worked "switched checker sees the derivation"
    (codes "(define never (x axioms thms atbl) nil nil ()) (verify claim #1=(por* #2=(pequal* (never x axioms thms atbl) 'nil) #3=(pnot* (pequal* (logic.provablep (logic.conclusion x) axioms thms atbl) 'nil))) (commute-or #1# ((expansion (por* #3# #2#) ((axiom #2#)))))) (switch never) (verify x (pequal* x x) (symmetry (pequal* x x) ((axiom (pequal* x x)))))")
    ("(DEFINE NEVER (X AXIOMS THMS ATBL) NIL NIL NIL)" ∷ "(VERIFY CLAIM (POR* (PEQUAL* (NEVER X AXIOMS THMS ATBL) (QUOTE NIL)) (PNOT* (PEQUAL* (LOGIC.PROVABLEP (LOGIC.CONCLUSION X) AXIOMS THMS ATBL) (QUOTE NIL)))) (CUT (POR* (PEQUAL* (NEVER X AXIOMS THMS ATBL) (QUOTE NIL)) (PNOT* (PEQUAL* (LOGIC.PROVABLEP (LOGIC.CONCLUSION X) AXIOMS THMS ATBL) (QUOTE NIL)))) ((EXPANSION (POR* (PNOT* (PEQUAL* (LOGIC.PROVABLEP (LOGIC.CONCLUSION X) AXIOMS THMS ATBL) (QUOTE NIL))) (PEQUAL* (NEVER X AXIOMS THMS ATBL) (QUOTE NIL))) ((AXIOM (PEQUAL* (NEVER X AXIOMS THMS ATBL) (QUOTE NIL))))) (PROPOSITIONAL-SCHEMA (POR* (PNOT* (PNOT* (PEQUAL* (LOGIC.PROVABLEP (LOGIC.CONCLUSION X) AXIOMS THMS ATBL) (QUOTE NIL)))) (PNOT* (PEQUAL* (LOGIC.PROVABLEP (LOGIC.CONCLUSION X) AXIOMS THMS ATBL) (QUOTE NIL))))))))" ∷ "(SWITCH NEVER)" ∷ "; 4 VERIFY X refused NIL" ∷ "; events 4 accepted 3 refused 1 level 2" ∷ []) SomeRefused
    ∷ worked "fault of a book of derivations"
    (codes "(verify refl (pequal* x x) (axiom (pequal* x x))) (a . b c)")
    ("(VERIFY REFL (PEQUAL* X X) (AXIOM (PEQUAL* X X)))" ∷ "; syntax DOT at 57" ∷ []) (Syntax DOT 57)
    ∷ []

edges_are_lowered : All IsLowered edges
unfolding need must unless
edges_are_lowered = are_lowered edges refl
