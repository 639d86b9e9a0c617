-- By the members.
use Rattle.std.proofs.Common.{◌≡◌, ◌<◌, sym, ap, ap₂, ◌∙◌, arith}
use Rattle.mw_model.specs.Terms.Object.{Object, Pair}
use Rattle.mw_model.specs.Terms.Term.{ArityTable}
use Rattle.mw_model.specs.Laws.Rules.{is_term_object, is_formula_object}
use Rattle.mw_heap.specs.Objects.{object_at}
use Rattle.mw_heap.proofs.NoPair.{shown_no_pair}
use Rattle.mw_term.specs.Marking.{AreMarks}
use Rattle.mw_explain.specs.FormulaParts.{first_bad}
use Rattle.mw_explain.proofs.LookingInFormulas.{equation_itself, equation_part, disjunction_itself, disjunction_part, leads_in_negation}
use Rattle.mw_explain.proofs.formula_part.next_part.Goals as goal
use Rattle.mw_explain.proofs.formula_part.next_part.Goals.{In-Pair-view-2, After-first_bad, After-first_bad-then-is_word-3}

-- x is a list of three members or more, which stand before it
list : (c : In-Pair-view-2) → (z : Object) × (object_at c.args.heap.now.objects c.args.x ≡ Pair (object_at c.args.heap.now.objects c.in-Pair.head) (Pair (object_at c.args.heap.now.objects c.in-Pair-view.a) (Pair (object_at c.args.heap.now.objects c.in-Pair-view-2.b) z)))
list c =
    let os = c.args.heap.now.objects in
    (object_at os c.in-Pair-view-2.field-1, c.in-Pair.ensures.shows.2 ∙ ap (Pair (object_at os c.in-Pair.head)) (c.in-Pair-view.ensures.shows.2 ∙ ap (Pair (object_at os c.in-Pair-view.a)) c.in-Pair-view-2.ensures.shows.2))

older : (c : In-Pair-view-2) → (c.in-Pair-view.a < c.args.x) × (c.in-Pair-view-2.b < c.args.x)
older c = (
  omega (arith, c.in-Pair-view.ensures.below.0, c.in-Pair.ensures.below.1),
  omega (arith, c.in-Pair-view-2.ensures.below.0, c.in-Pair-view.ensures.below.1, c.in-Pair.ensures.below.1),
)

-- the first of the two that is no term, and that is no formula
no_term : (c : After-first_bad) (A : ArityTable) → AreMarks A c.args.heap.now.objects c.args.marks.now → first_bad (is_term_object A (object_at c.args.heap.now.objects c.in-Pair-view.a)) (is_term_object A (object_at c.args.heap.now.objects c.in-Pair-view-2.b)) c.in-Pair-view.a c.in-Pair-view-2.b ≡ c.first_bad.result
no_term c A k =
    let os = c.args.heap.now.objects in
    ap₂ (λ g i. first_bad g i c.in-Pair-view.a c.in-Pair-view-2.b) (sym (c.is_term.ensures A os k)) (sym (c.is_term-then-is_word-2.ensures A os k)) ∙ sym c.first_bad.ensures

no_formula : (c : After-first_bad-then-is_word-3) (A : ArityTable) → AreMarks A c.args.heap.now.objects c.args.marks.now → first_bad (is_formula_object A (object_at c.args.heap.now.objects c.in-Pair-view.a)) (is_formula_object A (object_at c.args.heap.now.objects c.in-Pair-view-2.b)) c.in-Pair-view.a c.in-Pair-view-2.b ≡ c.first_bad-then-is_word-3.result
no_formula c A k =
    let os = c.args.heap.now.objects in
    ap₂ (λ g i. first_bad g i c.in-Pair-view.a c.in-Pair-view-2.b) (sym (c.is_formula.ensures A os k)) (sym (c.is_formula-then-is_word-3.ensures A os k)) ∙ sym c.first_bad-then-is_word-3.ensures

pub returns-in-Some : goal.returns-in-Some
returns-in-Some c = λ A k h.
    let s = (goal.at.returns-in-Some c).In-Pair-view-2 in
    equation_part A c.args.heap.now.objects c.args.x _ _ _ (list s) h (older s).0 (older s).1 (sym c.is_word-2.ensures ∙ c.if-is_word-2.true) c.in-Some.part (no_term (goal.at.returns-in-Some c).After-first_bad A k ∙ c.in-Some.is)

pub returns-in-None : goal.returns-in-None
returns-in-None c = λ A k h.
    let s = (goal.at.returns-in-None c).In-Pair-view-2 in
    equation_itself A c.args.heap.now.objects c.args.x _ _ _ (list s) h (older s).0 (older s).1 (sym c.is_word-2.ensures ∙ c.if-is_word-2.true) (no_term (goal.at.returns-in-None c).After-first_bad A k ∙ c.in-None.is)

pub returns-in-Some-first_bad : goal.returns-in-Some-first_bad
returns-in-Some-first_bad c = λ A k h.
    let s = (goal.at.returns-in-Some-first_bad c).In-Pair-view-2 in
    disjunction_part A c.args.heap.now.objects c.args.x _ _ _ (list s) h (older s).0 (older s).1 (sym c.is_word-2.ensures ∙ c.if-is_word-2.false) (sym c.is_word-3.ensures ∙ c.if-is_word-3.true) c.in-Some-first_bad.part (no_formula (goal.at.returns-in-Some-first_bad c).After-first_bad-then-is_word-3 A k ∙ c.in-Some-first_bad.is)

pub returns-in-None-first_bad : goal.returns-in-None-first_bad
returns-in-None-first_bad c = λ A k h.
    let s = (goal.at.returns-in-None-first_bad c).In-Pair-view-2 in
    disjunction_itself A c.args.heap.now.objects c.args.x _ _ _ (list s) h (older s).0 (older s).1 (sym c.is_word-2.ensures ∙ c.if-is_word-2.false) (sym c.is_word-3.ensures ∙ c.if-is_word-3.true) (no_formula (goal.at.returns-in-None-first_bad c).After-first_bad-then-is_word-3 A k ∙ c.in-None-first_bad.is)

pub returns-then-is_word : goal.returns-then-is_word
returns-then-is_word c = λ A k h.
    let os = c.args.heap.now.objects in
    let is = c.in-Pair.ensures.shows.2 ∙ ap (Pair (object_at os c.in-Pair.head)) c.in-Pair-view.ensures.shows.2 in
    let a_older : c.in-Pair-view.a < c.args.x = omega (arith, c.in-Pair-view.ensures.below.0, c.in-Pair.ensures.below.1) in
    leads_in_negation A os c.args.x c.in-Pair.head c.in-Pair-view.a c.in-Pair-view.others c.in_negation.result is (shown_no_pair os c.view-3.result (object_at os c.in-Pair-view.others) c.view-3.ensures.shows c.in_default-view-2.not-Pair) a_older (sym c.is_word.ensures ∙ c.if-is_word.true) h (c.in_negation.ensures A os k)
