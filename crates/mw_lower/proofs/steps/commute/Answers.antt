-- The conclusion is compared with the premise turned round.
use Rattle.std.proofs.Common.{ap, sym, ◌∙◌, subst}
use Rattle.mw_model.specs.Terms.Term.{Or}
use Rattle.mw_model.proofs.SameTerms.{same_formula-eq}
use Rattle.mw_commands.specs.Commands.DerivationTest.{is_commuted}
use Rattle.mw_commands.proofs.LogAccepted.{conclusion_is}
use Rattle.mw_heap.specs.Objects.{object_at}
use Rattle.mw_lower.specs.Proofs.{IsProof}
use Rattle.mw_lower.proofs.ByMethods.{formed}
use Rattle.mw_lower.proofs.RulesProve.{commutes}
use Rattle.mw_lower.proofs.StepTests.{or_parts, commuted_none, commuted_test}
use Rattle.mw_lower.proofs.steps.commute.Goals as goal

pub returns-in_default-clause-answer : goal.returns-in_default-clause-answer
returns-in_default-clause-answer c = λ b F G has i e h. commuted_none F G _ (conclusion_is b.axioms b.theorems b.table b.profile _ G h) c.in_default.ensures

pub returns-then-not-is_or-clause-answer : goal.returns-then-not-is_or-clause-answer
returns-then-not-is_or-clause-answer c = λ b F G has i e h.
    sym (commuted_test b F G _ _ _ _ i (formed b _ G h) e (conclusion_is b.axioms b.theorems b.table b.profile _ G h) c.in-Some.ensures.2) ∙ (sym c.is_or.ensures ∙ c.if-not-is_or.true)

pub returns-clause-answer : goal.returns-clause-answer
returns-clause-answer c = λ b F G has i e h.
    let at = object_at c.args.heap.now.objects in
    let is = conclusion_is b.axioms b.theorems b.table b.profile _ G h in
    let p = or_parts G _ _ _ is c.in-Some.ensures.2 in
    let holds = sym (commuted_test b F G _ _ _ _ i (formed b _ G h) e is c.in-Some.ensures.2) ∙ (sym c.is_or.ensures ∙ c.if-not-is_or.false) in
    let made = commutes b p.left p.right _ _ _ _ c.in_ok-apply.ensures.made.1 p.left_is p.right_is (subst (IsProof b (at c.args.p)) p.is h) in
    (holds, c.in_ok-apply.ensures.made.0, subst (IsProof b _) (sym (same_formula-eq F (Or p.right p.left) (sym (ap (is_commuted F) p.is) ∙ holds))) made)
