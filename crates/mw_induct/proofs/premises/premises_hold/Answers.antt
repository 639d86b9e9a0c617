-- The tests of the data and of the premises make the rule. The looks change no object.
use Rattle.std.proofs.Common.{rules, ◌≡◌, ◌&&◌, true, All, IfOk, sym, subst, ◌∙◌, eqb, eqb-true}
use Rattle.std.proofs.lemmas.Result.{IfOk-weaker}
use Rattle.std.proofs.lemmas.Bool.{and_parts}
use Rattle.mw_model.specs.Terms.Object.{same_object}
use Rattle.mw_model.specs.Terms.Term.{ArityTable}
use Rattle.mw_model.specs.Laws.Rules.{is_formula_object}
use Rattle.mw_model.specs.Laws.RulesInduction.{is_list_object, length_object, are_case_objects, premises_object}
use Rattle.mw_heap.specs.Objects.{object_at, IsIn}
use Rattle.mw_term.specs.Marking.{AreMarks}
use Rattle.mw_subst.proofs.FormulaObjects.{substitute_object-formula}
use Rattle.mw_induct.specs.Conclusions.{conclusions_object}
use Rattle.mw_induct.proofs.Ends.{data_pairs, object_is_induction-from, no_induction-data, no_induction-premises}
use Rattle.mw_induct.proofs.Rests.{few_premises, other_premises}
use Rattle.mw_induct.proofs.premises.premises_hold.Goals as goal
use Rattle.mw_induct.proofs.premises.premises_hold.Goals.{then-conclusions-lt2-via-then-conclusions-lt2, then-conclusions-lt2-via-else-conclusions-lt2+then-not-is_disjunction_from}

pub returns-then-conclusions-lt2-clause-answer : goal.returns-then-conclusions-lt2-clause-answer
returns-then-conclusions-lt2-clause-answer c = λ A k.
    let os = c.args.heap.now.objects in
    let ps = c.args.conclusions.now in
    let f = object_at os c.args.f in
    no_induction-premises A f (conclusions_object os ps) (object_at os c.args.extras) (λ m q s. elim c.then-conclusions-lt2.branch [
      | then-conclusions-lt2-via-then-conclusions-lt2 w ↦ few_premises os ps w.if-conclusions-lt2.true f m q s
      | then-conclusions-lt2-via-else-conclusions-lt2+then-not-is_disjunction_from w ↦ other_premises os ps w.index-conclusions-0.result f w.if-conclusions-lt2.false w.index-conclusions-0.is (w.is_disjunction_from.ensures.no w.if-not-is_disjunction_from.true) m q s
    ])

pub returns-then-not-are_cases-clause-answer : goal.returns-then-not-are_cases-clause-answer
returns-then-not-are_cases-clause-answer c = λ A k.
    let os = c.args.heap.now.objects in
    let e = c.in_ok-take_looks_at_cases.ensures in
    let parts = c.in-Some.measure-1-given.0.0 in
    let tested = subst (λ os. (A : ArityTable) → AreMarks A os c.args.marks.now →
    c.are_cases.result ≡ (is_list_object (object_at os parts.1) && (eqb (length_object (object_at os parts.1)) (length_object (object_at os parts.2)) && are_case_objects A (object_at os parts.2)))) e c.are_cases.ensures in
    no_induction-data A (object_at os c.args.f) (conclusions_object os c.args.conclusions.now) (object_at os c.args.extras) _ _ _ c.in-Some.ensures.0 (sym (tested A k) ∙ c.if-not-are_cases.true)

-- the tests of the data under the table of the marks
pub are_premises-requires-clause-scheme : goal.are_premises-requires-clause-scheme
are_premises-requires-clause-scheme c =
    let marks = c.requires.marks in
    let looked = subst (λ os. AreMarks marks.0 os c.args.marks.now) (sym c.in_ok-take_looks_at_cases.ensures) marks.1 in
    let tested = sym c.if-not-are_cases.false ∙ c.are_cases.ensures marks.0 looked in
    record {
      measure = search rules;
      cases = record { conditions_within = search rules; cases_within = search rules; as_many = eqb-true _ _ (and_parts _ _ (and_parts _ _ (sym tested)).1).0; pairs = search (data_pairs, tested) };
    }

pub are_premises-requires-clause-formula : goal.are_premises-requires-clause-formula
are_premises-requires-clause-formula c =
    let formula = c.requires.formula in
    let e = sym c.in_ok-take_looks_at_cases.ensures in
    let same = subst (λ os. is_formula_object formula.0 (object_at os c.args.f) ≡ true) e formula.1 in
    (subst (λ os. IsIn os c.args.f) e c.requires.conclusion, λ s. substitute_object-formula formula.0 s (object_at c.take_looks_at_cases.new.heap.objects c.args.f) same)

pub returns-clause-answer : goal.returns-clause-answer
returns-clause-answer c =
    let os = c.args.heap.now.objects in
    let e = c.in_ok-take_looks_at_cases.ensures in
    let parts = c.in-Some.measure-1-given.0.0 in
    let tested = subst (λ os. (A : ArityTable) → AreMarks A os c.args.marks.now →
    c.are_cases.result ≡ (is_list_object (object_at os parts.1) && (eqb (length_object (object_at os parts.1)) (length_object (object_at os parts.2)) && are_case_objects A (object_at os parts.2)))) e c.are_cases.ensures in
    let made = subst (λ os. IfOk c.are_premises.result (λ b. b ≡ same_object (conclusions_object os c.args.conclusions.now)
    (premises_object (object_at os c.args.f) (object_at os parts.0) (object_at os parts.1) (object_at os parts.2)))) e c.are_premises.ensures.premises in
    IfOk-weaker c.are_premises.result _ _
    (λ b h. λ A marks.
    h ∙ object_is_induction-from A (object_at os c.args.f) (conclusions_object os c.args.conclusions.now) (object_at os c.args.extras) _ _ _ c.in-Some.ensures.0 (sym (tested A marks) ∙ c.if-not-are_cases.false))
    made

pub are_premises-requires-clause-conclusions : goal.are_premises-requires-clause-conclusions
are_premises-requires-clause-conclusions c = subst (λ os. All (IsIn os) c.args.conclusions.now) (sym c.in_ok-take_looks_at_cases.ensures) c.requires.premises
