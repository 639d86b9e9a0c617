-- The name goes before the list of the arguments.
use Rattle.std.proofs.Common.{ap, ap₂, ◌∙◌}
use Rattle.std.proofs.lemmas.Result.{IfOk-weaker}
use Rattle.mw_model.specs.Terms.Object.{Symbol, Pair, name_of_bytes}
use Rattle.mw_heap.proofs.Objects.{object_at-Grows}
use Rattle.mw_build.proofs.Taking.{list_object-is}
use Rattle.mw_build.proofs.parts.call.Goals as goal

pub returns-clause-made : goal.returns-clause-made
returns-clause-made c =
    let arguments = c.in_ok-arguments.ensures.made in
    let head = c.in_ok-head.ensures.made.1 ∙ ap (λ b. Symbol (name_of_bytes b)) c.name.ensures in
    let tail = object_at-Grows _ _ c.in_ok-head.ensures.grows _ arguments.0 ∙ (arguments.1 ∙ list_object-is _ _) in
    IfOk-weaker c.cons.result _ _ (λ r m. (m.0, m.1 ∙ ap₂ Pair head tail)) c.cons.ensures.made
