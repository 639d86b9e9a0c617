-- Against what is nothing, the test is the one for NIL.
use Rattle.std.proofs.Common.{sym, ap, ◌∙◌}
use Rattle.mw_model.specs.Terms.Object.{same_object, NIL}
use Rattle.mw_model.proofs.SameObject.{same_object-swap}
use Rattle.mw_heap.specs.Parts.{part_at}
use Rattle.mw_heap.proofs.store.heap.Heap.is_same.Goals as goal

pub returns-in-None-default : goal.returns-in-None-default
returns-in-None-default c =
    let os = c.args.self.now.objects in
    let y = part_at os c.args.y in
    c.is_nil-in-None-default.ensures ∙ (same_object-swap y NIL ∙ ap (λ x. same_object (part_at os x) y) (sym c.in-None-default.is-0))
