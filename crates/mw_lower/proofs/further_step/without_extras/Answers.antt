-- By how many proofs there are.
use Rattle.std.proofs.Common.{None, sym, ◌∙◌, subst}
use Rattle.std.proofs.lemmas.Result.{IfOk-weaker}
use Rattle.mw_commands.specs.Commands.Derivation as logic
use Rattle.mw_commands.specs.Commands.DerivationTest.{is_commuted, is_turned, is_detached, is_chained}
use Rattle.mw_commands.proofs.RuleRows.{commute-row, detach-row, symmetry-row, chain-row}
use Rattle.mw_model.specs.Terms.Object.{NIL}
use Rattle.mw_heap.specs.Objects.{object_at}
use Rattle.mw_heap.specs.Lists.{list_object}
use Rattle.mw_lower.specs.Answers.{AnswersAll}
use Rattle.mw_lower.specs.Further.{rule_of}
use Rattle.mw_lower.proofs.OneOrTwo.{one, two, not_one, not_two}
use Rattle.mw_lower.proofs.further_step.without_extras.Goals as goal

pub returns-in-Some-clause-answer : goal.returns-in-Some-clause-answer
returns-in-Some-clause-answer c =
    let os = c.args.heap.now.objects in
    IfOk-weaker c.commute.result _ _ (λ o h. subst (λ r. AnswersAll (rule_of r) (object_at os c.args.c) (list_object os c.args.proofs.now) c.commute.new.heap.objects o) (sym c.in-CommuteOr.is)
    (one os logic.CommuteOr (object_at os c.args.c) c.commute.new.heap.objects o c.args.proofs.now _ c.in-Some.ensures h)) c.commute.ensures.answer

pub returns-in-None-clause-answer : goal.returns-in-None-clause-answer
returns-in-None-clause-answer c =
    let os = c.args.heap.now.objects in
    subst (λ r. AnswersAll (rule_of r) (object_at os c.args.c) (list_object os c.args.proofs.now) os None) (sym c.in-CommuteOr.is) (λ b F Fs has i d hs. commute-row b.axioms b.theorems b.table b.profile F Fs NIL ∙ not_one os (is_commuted F) b c.args.proofs.now Fs c.in-None.ensures hs)

pub returns-in-Some-alone-clause-answer : goal.returns-in-Some-alone-clause-answer
returns-in-Some-alone-clause-answer c =
    let os = c.args.heap.now.objects in
    IfOk-weaker c.turn_round.result _ _ (λ o h. subst (λ r. AnswersAll (rule_of r) (object_at os c.args.c) (list_object os c.args.proofs.now) c.turn_round.new.heap.objects o) (sym c.in-Symmetry.is)
    (one os logic.Symmetry (object_at os c.args.c) c.turn_round.new.heap.objects o c.args.proofs.now _ c.in-Some-alone.ensures h)) c.turn_round.ensures.answer

pub returns-in-None-alone-clause-answer : goal.returns-in-None-alone-clause-answer
returns-in-None-alone-clause-answer c =
    let os = c.args.heap.now.objects in
    subst (λ r. AnswersAll (rule_of r) (object_at os c.args.c) (list_object os c.args.proofs.now) os None) (sym c.in-Symmetry.is) (λ b F Fs has i d hs. symmetry-row b.axioms b.theorems b.table b.profile F Fs NIL ∙ not_one os (is_turned F) b c.args.proofs.now Fs c.in-None-alone.ensures hs)

pub returns-in-Some-both-clause-answer : goal.returns-in-Some-both-clause-answer
returns-in-Some-both-clause-answer c =
    let os = c.args.heap.now.objects in
    IfOk-weaker c.detach.result _ _ (λ o h. subst (λ r. AnswersAll (rule_of r) (object_at os c.args.c) (list_object os c.args.proofs.now) c.detach.new.heap.objects o) (sym c.in-ModusPonens.is)
    (two os logic.ModusPonens (object_at os c.args.c) c.detach.new.heap.objects o c.args.proofs.now _ _ c.in-Some-both.ensures h)) c.detach.ensures.answer

pub returns-in-None-both-clause-answer : goal.returns-in-None-both-clause-answer
returns-in-None-both-clause-answer c =
    let os = c.args.heap.now.objects in
    subst (λ r. AnswersAll (rule_of r) (object_at os c.args.c) (list_object os c.args.proofs.now) os None) (sym c.in-ModusPonens.is) (λ b F Fs has i d hs. detach-row b.axioms b.theorems b.table b.profile F Fs NIL ∙ not_two os (is_detached F) b c.args.proofs.now Fs c.in-None-both.ensures hs)

pub returns-in-Some-both-2-clause-answer : goal.returns-in-Some-both-2-clause-answer
returns-in-Some-both-2-clause-answer c =
    let os = c.args.heap.now.objects in
    IfOk-weaker c.chain.result _ _ (λ o h. subst (λ r. AnswersAll (rule_of r) (object_at os c.args.c) (list_object os c.args.proofs.now) c.chain.new.heap.objects o) (sym c.in-Transitivity.is)
    (two os logic.Transitivity (object_at os c.args.c) c.chain.new.heap.objects o c.args.proofs.now _ _ c.in-Some-both-2.ensures h)) c.chain.ensures.answer

pub returns-in-None-both-2-clause-answer : goal.returns-in-None-both-2-clause-answer
returns-in-None-both-2-clause-answer c =
    let os = c.args.heap.now.objects in
    subst (λ r. AnswersAll (rule_of r) (object_at os c.args.c) (list_object os c.args.proofs.now) os None) (sym c.in-Transitivity.is) (λ b F Fs has i d hs. chain-row b.axioms b.theorems b.table b.profile F Fs NIL ∙ not_two os (is_chained F) b c.args.proofs.now Fs c.in-None-both-2.ensures hs)
