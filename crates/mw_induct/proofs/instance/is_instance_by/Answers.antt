-- The substitution that is read is that of the object, as it was before the looks were taken.
use Rattle.std.proofs.Common.{◌≡◌, IfOk, ap, ◌∙◌, subst}
use Rattle.std.proofs.lemmas.Result.{IfOk-weaker}
use Rattle.mw_model.specs.Terms.Object.{same_object}
use Rattle.mw_model.specs.Laws.Rules.{substitute_object}
use Rattle.mw_model.proofs.SameObject.{same_object-swap}
use Rattle.mw_heap.specs.Objects.{object_at}
use Rattle.mw_induct.proofs.instance.is_instance_by.Goals as goal

pub returns-clause-instance : goal.returns-clause-instance
returns-clause-instance c =
    let o = object_at c.take_searches_of_members.new.heap.objects in
    subst (λ os. IfOk c.is_instance.result (λ b. b ≡ same_object (object_at os c.args.y) (substitute_object (object_at os c.args.s) (object_at os c.args.x)))) c.in_ok-take_searches_of_members.ensures
    (IfOk-weaker c.is_instance.result _ _ (λ b e. e ∙ (same_object-swap _ (o c.args.y) ∙ ap (λ s. same_object (o c.args.y) (substitute_object s (o c.args.x))) c.in_ok-sigma.ensures.read)) c.is_instance.ensures.instance)
