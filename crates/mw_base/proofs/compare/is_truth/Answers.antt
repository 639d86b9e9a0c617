-- Equality does not look which object comes first.
use Rattle.std.proofs.Common.{sym, ap, ◌∙◌}
use Rattle.mw_model.specs.Terms.Object.{same_object, NIL, truth_of}
use Rattle.mw_model.proofs.SameObject.{same_object-swap}
use Rattle.mw_heap.specs.Parts.{part_at}
use Rattle.mw_base.proofs.compare.is_truth.Goals as goal

pub returns-else-holds : goal.returns-else-holds
returns-else-holds c =
    let v = part_at c.args.heap.now.objects c.args.v in
    c.is_nil.ensures ∙ (same_object-swap v NIL ∙ ap (λ h. same_object (truth_of h) v) (sym c.if-holds.false))
