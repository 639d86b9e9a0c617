-- The judge over an earlier heap says the same.
use Rattle.std.proofs.Common.{sym, ap, ◌∙◌}
use Rattle.mw_heap.specs.Objects.{object_at}
use Rattle.mw_flat.specs.Collecting.{by_number}
use Rattle.mw_flat.proofs.Judging.{by_number-grows}
use Rattle.mw_flat.proofs.collected.CollectedJudge.refusal.Goals as goal

pub returns-then-concludes-clause-refusal : goal.returns-then-concludes-clause-refusal
returns-then-concludes-clause-refusal c =
    let new = c.args.heap.now.objects in
    let formula = object_at new c.args.formula in
    let proof = object_at new c.args.proof in
    λ os grows ready. sym (c.concludes.ensures.yes c.if-concludes.true) ∙ (ap (λ rs. by_number new rs formula proof) c.deref.ensures.value ∙ by_number-grows os new grows c.args.self.now.conclusions.items ready formula proof)

pub returns-else-concludes-clause-refusal : goal.returns-else-concludes-clause-refusal
returns-else-concludes-clause-refusal c =
    let new = c.args.heap.now.objects in
    let formula = object_at new c.args.formula in
    let proof = object_at new c.args.proof in
    λ os grows ready. sym (c.concludes.ensures.no c.if-concludes.false) ∙ (ap (λ rs. by_number new rs formula proof) c.deref.ensures.value ∙ by_number-grows os new grows c.args.self.now.conclusions.items ready formula proof)
