-- The one at the place is not headed by it either.
use Rattle.std.proofs.Common.{◌≡◌, true, false, eqb, refl, sym, ap, ◌∙◌, arith, eqb-true}
use Rattle.std.proofs.lemmas.Bool.{eqb-false}
use Rattle.mw_commands.specs.Commands.Slice.{begins_with}
use Rattle.mw_heap.specs.Objects.{object_at}
use Rattle.mw_slice.proofs.NoTheorems.{theorems_none}
use Rattle.mw_slice.proofs.firsts.names_theorem.Goals as goal

pub loop-index-preserved : goal.loop-index-preserved
loop-index-preserved c = λ r l.
    let os = c.args.heap.now.objects in
    let i = c.loop-index.index in
    let here : begins_with "THEOREM" (object_at os i) ≡ false = ap (λ r. begins_with "THEOREM" (object_at os r)) (sym c.nth.ensures) ∙ (sym c.is_headed.ensures ∙ c.if-is_headed.false) in
    elim (eqb r i) as (λ b. eqb r i ≡ b → begins_with "THEOREM" (object_at os r) ≡ false) [
      | true ↦ λ e. ap (λ r. begins_with "THEOREM" (object_at os r)) (eqb-true r i e) ∙ here
      | false ↦ λ e. c.loop-index.invariant r (let n = eqb-false r i e in grind (arith, l, n))
    ] refl

pub returns : goal.returns
returns c = λ e r i.
    let os = c.args.heap.now.objects in
    theorems_none os c.order.ensures.older (λ r i. c.loop-index.invariant r (omega (arith, i, c.mark.ensures, c.cells-index-end.ensures, c.loop-index-test.false))) (object_at os r) r i refl
