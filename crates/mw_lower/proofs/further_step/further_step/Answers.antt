-- With extras no further rule holds.
use Rattle.std.proofs.Common.{sym, ◌∙◌}
use Rattle.std.proofs.lemmas.Result.{IfOk-weaker}
use Rattle.mw_model.specs.Terms.Object.{NIL}
use Rattle.mw_model.proofs.Names.{same_object-eq}
use Rattle.mw_heap.specs.Objects.{object_at}
use Rattle.mw_heap.specs.Lists.{list_object}
use Rattle.mw_lower.specs.Further.{rule_of}
use Rattle.mw_lower.proofs.OneOrTwo.{with_nil}
use Rattle.mw_lower.proofs.further_step.further_step.Goals as goal

pub returns-then-is_nil-clause-answer : goal.returns-then-is_nil-clause-answer
returns-then-is_nil-clause-answer c =
    let os = c.args.heap.now.objects in
    let nil = same_object-eq (object_at os c.args.step.extras) NIL (sym c.is_nil.ensures ∙ c.if-is_nil.true) in
    IfOk-weaker c.without_extras.result _ _ (λ o h. with_nil (rule_of c.args.rule) (object_at os c.args.step.conclusion) (object_at os c.args.step.extras) (list_object os c.args.proofs.now) c.without_extras.new.heap.objects o nil h) c.without_extras.ensures.answer
