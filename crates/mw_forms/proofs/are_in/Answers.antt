-- Each member was looked at.
use Rattle.std.proofs.Common.{refl, subst, All}
use Rattle.std.proofs.lemmas.List.{take_all}
use Rattle.std.proofs.lemmas.List.Elements.{All-more}
use Rattle.mw_heap.specs.Objects.{IsIn}
use Rattle.mw_forms.proofs.are_in.Goals as goal

pub loop-x-preserved : goal.loop-x-preserved
loop-x-preserved c = All-more (IsIn c.args.heap.now.objects) c.args.xs.now c.loop-x.x-index c.x-item.result c.loop-x-test.true c.loop-x.invariant (subst (IsIn c.args.heap.now.objects) c.x-item.is (c.if-not-is_in.ensures.0 refl))

pub returns : goal.returns
returns c = λ _. subst (All (IsIn c.args.heap.now.objects)) (take_all c.loop-x.x-index c.args.xs.now c.loop-x-test.false) c.loop-x.invariant
