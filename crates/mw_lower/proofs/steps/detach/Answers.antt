-- The second premise is compared with: not the first or the conclusion.
use Rattle.std.proofs.Common.{ap, ap₂, sym, ◌∙◌, subst}
use Rattle.std.proofs.lemmas.Bool.{and_left, and_right, and_from}
use Rattle.mw_model.specs.Terms.Object.{symbol, list2}
use Rattle.mw_model.specs.Terms.Term.{Or, Not, formula_object}
use Rattle.mw_model.specs.Terms.Same.{same_formula}
use Rattle.mw_model.proofs.SameTerms.{same_formula-eq}
use Rattle.mw_commands.specs.Commands.DerivationTest.{is_detached}
use Rattle.mw_commands.proofs.LogAccepted.{conclusion_is}
use Rattle.mw_heap.specs.Objects.{object_at}
use Rattle.mw_lower.specs.Proofs.{IsProof}
use Rattle.mw_lower.proofs.ByMethods.{formed}
use Rattle.mw_lower.proofs.RulesProve.{detaches}
use Rattle.mw_lower.proofs.StepTests.{no_object, or_parts, detached_none, same_by_objects, or_formed}
use Rattle.mw_lower.proofs.steps.detach.Goals as goal
use Rattle.mw_lower.proofs.steps.detach.Goals.{then-not-is_not-via-then-not-is_not, then-not-is_not-via-else-not-is_not+then-not-same}

pub returns-in_default-clause-answer : goal.returns-in_default-clause-answer
returns-in_default-clause-answer c = λ b F G H has i e h k. no_object G (c.in_default.ensures.value ∙ conclusion_is b.axioms b.theorems b.table b.profile _ G h)

pub returns-in_default-parts_of-clause-answer : goal.returns-in_default-parts_of-clause-answer
returns-in_default-parts_of-clause-answer c = λ b F G H has i e h k. detached_none F G H _ (conclusion_is b.axioms b.theorems b.table b.profile _ H k) c.in_default-parts_of.ensures

pub returns-then-not-is_not-clause-answer : goal.returns-then-not-is_not-clause-answer
returns-then-not-is_not-clause-answer c = λ b F G H has i e h k.
    let at = object_at c.args.heap.now.objects in
    let first = c.in-Some.ensures.value ∙ conclusion_is b.axioms b.theorems b.table b.profile _ G h in
    let p = or_parts H _ _ _ (conclusion_is b.axioms b.theorems b.table b.profile _ H k) c.in-Some-parts_of.ensures.2 in
    let j = or_formed b H p.left p.right p.is (formed b _ H k) in
    ap (is_detached F G) p.is ∙ elim c.then-not-is_not.branch [
      | then-not-is_not-via-then-not-is_not w ↦
          let same = same_by_objects b p.left (Not G) _ _ j.0 (formed b _ G h) p.left_is (ap (list2 (symbol "PNOT*")) first) in
          and_left (same_formula p.left (Not G)) (same_formula p.right F) (sym same ∙ (sym c.is_not.ensures ∙ w.if-not-is_not.true))
      | then-not-is_not-via-else-not-is_not+then-not-same w ↦
          let same = same_by_objects b p.right F _ (at c.args.conclusion) j.1 i p.right_is e in
          and_right (same_formula p.left (Not G)) (same_formula p.right F) (sym same ∙ (sym w.same.ensures.same ∙ w.if-not-same.true))
    ]

pub returns-clause-answer : goal.returns-clause-answer
returns-clause-answer c = λ b F G H has i e h k.
    let at = object_at c.args.heap.now.objects in
    let first = c.in-Some.ensures.value ∙ conclusion_is b.axioms b.theorems b.table b.profile _ G h in
    let p = or_parts H _ _ _ (conclusion_is b.axioms b.theorems b.table b.profile _ H k) c.in-Some-parts_of.ensures.2 in
    let j = or_formed b H p.left p.right p.is (formed b _ H k) in
    let negation = sym (same_by_objects b p.left (Not G) _ _ j.0 (formed b _ G h) p.left_is (ap (list2 (symbol "PNOT*")) first)) ∙ (sym c.is_not.ensures ∙ c.if-not-is_not.false) in
    let rest = sym (same_by_objects b p.right F _ (at c.args.conclusion) j.1 i p.right_is e) ∙ (sym c.same.ensures.same ∙ c.if-not-same.false) in
    let right = same_formula-eq p.right F rest in
    let whole = p.is ∙ ap₂ Or (same_formula-eq p.left (Not G) negation) right in
    (ap (is_detached F G) p.is ∙ and_from _ _ negation rest, c.in_ok-apply.ensures.made.0, detaches b G F _ _ _ _ _ c.in_ok-apply.ensures.made.1 first (p.right_is ∙ ap formula_object right) h (subst (IsProof b (at c.args.q)) whole k))
