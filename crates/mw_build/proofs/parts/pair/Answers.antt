-- The second part is the same in the heap that the first one made.
use Rattle.std.proofs.Common.{get_or, ap, ap₂, ◌∙◌}
use Rattle.std.proofs.lemmas.Result.{IfOk-weaker}
use Rattle.mw_model.specs.Terms.Object.{NIL, Pair}
use Rattle.mw_heap.proofs.Objects.{object_at-Grows}
use Rattle.mw_build.proofs.OnStack.{map-grows}
use Rattle.mw_build.proofs.parts.pair.Goals as goal

pub returns-clause-made : goal.returns-clause-made
returns-clause-made c =
    let first = c.in_ok-first.ensures.made in
    let second = c.in_ok-second.ensures.made in
    let parts = ap₂ Pair (object_at-Grows _ _ c.in_ok-second.ensures.grows _ first.0 ∙ first.1) (second.1 ∙ ap (λ xs. get_or xs 1 NIL) (map-grows _ _ _ c.in_ok-first.ensures.grows c.requires)) in
    IfOk-weaker c.cons.result _ _ (λ r m. (m.0, m.1 ∙ parts)) c.cons.ensures.made
