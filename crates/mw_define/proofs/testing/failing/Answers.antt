-- The equation, or that it does not hold.
use Rattle.std.proofs.Common.{cond, sym, ap, ◌∙◌}
use Rattle.std.proofs.lemmas.Result.{IfOk-weaker}
use Rattle.mw_model.specs.Laws.Rules.{equal_object, not_object}
use Rattle.mw_heap.specs.Objects.{object_at}
use Rattle.mw_heap.proofs.Objects.{Grows-trans}
use Rattle.mw_define.specs.Axioms.{quoted_nil}
use Rattle.mw_define.proofs.testing.failing.Goals as goal

pub returns-then-is_nil-clause-grows : goal.returns-then-is_nil-clause-grows
returns-then-is_nil-clause-grows c = Grows-trans _ _ _ c.in_ok-equation.ensures.grows c.call_of_one.ensures.grows

pub returns-then-is_nil-clause-made : goal.returns-then-is_nil-clause-made
returns-then-is_nil-clause-made c =
    let equation = equal_object (object_at c.args.heap.now.objects c.args.term) quoted_nil in
    let is = ap (λ b. cond b (not_object equation) equation) (sym c.is_nil-is_nil.ensures ∙ c.if-is_nil.true) in
    IfOk-weaker c.call_of_one.result _ _ (λ r made. (made.0, made.1 ∙ (ap not_object c.in_ok-equation.ensures.made.1 ∙ sym is))) c.call_of_one.ensures.made

pub returns-clause-made : goal.returns-clause-made
returns-clause-made c =
    let equation = equal_object (object_at c.args.heap.now.objects c.args.term) quoted_nil in
    let is = ap (λ b. cond b (not_object equation) equation) (sym c.is_nil-is_nil.ensures ∙ c.if-is_nil.false) in
    (c.in_ok-equation.ensures.made.0, c.in_ok-equation.ensures.made.1 ∙ sym is)
