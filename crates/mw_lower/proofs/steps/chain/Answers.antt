-- The two equations meet in the middle, and the conclusion is compared with that of their ends.
use Rattle.std.proofs.Common.{ap, ap₂, sym, ◌∙◌, subst}
use Rattle.std.proofs.lemmas.Bool.{and_left, and_right, and_from}
use Rattle.mw_model.specs.Terms.Object.{symbol, list3}
use Rattle.mw_model.specs.Terms.Term.{Equal}
use Rattle.mw_model.specs.Terms.Same.{same_term, same_formula}
use Rattle.mw_model.proofs.SameTerms.{same_term-eq, same_formula-eq}
use Rattle.mw_commands.specs.Commands.DerivationTest.{is_chained}
use Rattle.mw_commands.proofs.LogAccepted.{conclusion_is}
use Rattle.mw_heap.specs.Objects.{object_at}
use Rattle.mw_lower.specs.Proofs.{IsProof}
use Rattle.mw_lower.proofs.ByMethods.{formed}
use Rattle.mw_lower.proofs.RulesProve.{chains}
use Rattle.mw_lower.proofs.StepTests.{equal_parts, chained_none, chained_second_none, same_by_objects, same_by_terms, equal_formed}
use Rattle.mw_lower.proofs.steps.chain.Goals as goal
use Rattle.mw_lower.proofs.steps.chain.Goals.{then-not-same-via-then-not-same, then-not-same-via-else-not-same+then-not-is_equal}

pub returns-in_default-clause-answer : goal.returns-in_default-clause-answer
returns-in_default-clause-answer c = λ b F G H has i e h k. chained_none F G H _ (conclusion_is b.axioms b.theorems b.table b.profile _ G h) c.in_default.ensures

pub returns-in_default-parts_of-clause-answer : goal.returns-in_default-parts_of-clause-answer
returns-in_default-parts_of-clause-answer c = λ b F G H has i e h k. chained_second_none F G H _ (conclusion_is b.axioms b.theorems b.table b.profile _ H k) c.in_default-parts_of.ensures

pub returns-then-not-same-clause-answer : goal.returns-then-not-same-clause-answer
returns-then-not-same-clause-answer c = λ b F G H has i e h k.
    let at = object_at c.args.heap.now.objects in
    let p = equal_parts G _ _ _ (conclusion_is b.axioms b.theorems b.table b.profile _ G h) c.in-Some.ensures.2 in
    let q = equal_parts H _ _ _ (conclusion_is b.axioms b.theorems b.table b.profile _ H k) c.in-Some-parts_of.ensures.2 in
    let i1 = equal_formed b G p.left p.right p.is (formed b _ G h) in
    let i2 = equal_formed b H q.left q.right q.is (formed b _ H k) in
    ap₂ (is_chained F) p.is q.is ∙ elim c.then-not-same.branch [
      | then-not-same-via-then-not-same w ↦
          let same = same_by_terms b p.right q.left _ _ i1.1 i2.0 p.right_is q.left_is in
          and_left (same_term p.right q.left) (same_formula F (Equal p.left q.right)) (sym same ∙ (sym c.same.ensures.same ∙ w.if-not-same.true))
      | then-not-same-via-else-not-same+then-not-is_equal w ↦
          let same = same_by_objects b F (Equal p.left q.right) (at c.args.conclusion) _ i (and_from _ _ i1.0 i2.1) e (ap₂ (list3 (symbol "PEQUAL*")) p.left_is q.right_is) in
          and_right (same_term p.right q.left) (same_formula F (Equal p.left q.right)) (sym same ∙ (sym w.is_equal.ensures ∙ w.if-not-is_equal.true))
    ]

pub returns-clause-answer : goal.returns-clause-answer
returns-clause-answer c = λ b F G H has i e h k.
    let at = object_at c.args.heap.now.objects in
    let p = equal_parts G _ _ _ (conclusion_is b.axioms b.theorems b.table b.profile _ G h) c.in-Some.ensures.2 in
    let q = equal_parts H _ _ _ (conclusion_is b.axioms b.theorems b.table b.profile _ H k) c.in-Some-parts_of.ensures.2 in
    let i1 = equal_formed b G p.left p.right p.is (formed b _ G h) in
    let i2 = equal_formed b H q.left q.right q.is (formed b _ H k) in
    let meet = sym (same_by_terms b p.right q.left _ _ i1.1 i2.0 p.right_is q.left_is) ∙ (sym c.same.ensures.same ∙ c.if-not-same.false) in
    let ends = sym (same_by_objects b F (Equal p.left q.right) (at c.args.conclusion) _ i (and_from _ _ i1.0 i2.1) e (ap₂ (list3 (symbol "PEQUAL*")) p.left_is q.right_is)) ∙ (sym c.is_equal.ensures ∙ c.if-not-is_equal.false) in
    let second = q.is ∙ ap (λ t. Equal t q.right) (sym (same_term-eq p.right q.left meet)) in
    let made = chains b p.left p.right q.right _ _ _ _ _ _ has c.in_ok-apply.ensures.made.1 p.left_is p.right_is q.right_is (subst (IsProof b (at c.args.p)) p.is h) (subst (IsProof b (at c.args.q)) second k) in
    (ap₂ (is_chained F) p.is q.is ∙ and_from _ _ meet ends, c.in_ok-apply.ensures.made.0, subst (IsProof b _) (sym (same_formula-eq F (Equal p.left q.right) ends)) made)
