-- The conclusion is compared with the equation turned round.
use Rattle.std.proofs.Common.{ap, sym, ◌∙◌, subst}
use Rattle.mw_model.specs.Terms.Term.{Equal}
use Rattle.mw_model.proofs.SameTerms.{same_formula-eq}
use Rattle.mw_commands.specs.Commands.DerivationTest.{is_turned}
use Rattle.mw_commands.proofs.LogAccepted.{conclusion_is}
use Rattle.mw_heap.specs.Objects.{object_at}
use Rattle.mw_lower.specs.Proofs.{IsProof}
use Rattle.mw_lower.proofs.ByMethods.{formed}
use Rattle.mw_lower.proofs.RulesProve.{turns_round}
use Rattle.mw_lower.proofs.StepTests.{equal_parts, turned_none, turned_test}
use Rattle.mw_lower.proofs.steps.turn_round.Goals as goal

pub returns-in_default-clause-answer : goal.returns-in_default-clause-answer
returns-in_default-clause-answer c = λ b F G has i e h. turned_none F G _ (conclusion_is b.axioms b.theorems b.table b.profile _ G h) c.in_default.ensures

pub returns-then-not-is_equal-clause-answer : goal.returns-then-not-is_equal-clause-answer
returns-then-not-is_equal-clause-answer c = λ b F G has i e h.
    sym (turned_test b F G _ _ _ _ i (formed b _ G h) e (conclusion_is b.axioms b.theorems b.table b.profile _ G h) c.in-Some.ensures.2) ∙ (sym c.is_equal.ensures ∙ c.if-not-is_equal.true)

pub returns-clause-answer : goal.returns-clause-answer
returns-clause-answer c = λ b F G has i e h.
    let at = object_at c.args.heap.now.objects in
    let is = conclusion_is b.axioms b.theorems b.table b.profile _ G h in
    let p = equal_parts G _ _ _ is c.in-Some.ensures.2 in
    let holds = sym (turned_test b F G _ _ _ _ i (formed b _ G h) e is c.in-Some.ensures.2) ∙ (sym c.is_equal.ensures ∙ c.if-not-is_equal.false) in
    let made = turns_round b p.left p.right _ _ _ _ has c.in_ok-apply.ensures.made.1 p.left_is p.right_is (subst (IsProof b (at c.args.p)) p.is h) in
    (holds, c.in_ok-apply.ensures.made.0, subst (IsProof b _) (sym (same_formula-eq F (Equal p.right p.left) (sym (ap (is_turned F) p.is) ∙ holds))) made)
