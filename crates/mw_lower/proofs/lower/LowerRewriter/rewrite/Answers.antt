-- What the proof becomes is what it turns to; where that is nothing, there is none.
use Rattle.std.proofs.Common.{subst}
use Rattle.mw_heap.specs.Objects.{object_at}
use Rattle.mw_proof.specs.Judging.{basis_over}
use Rattle.mw_lower.specs.Turned.{IsTurned}
use Rattle.mw_lower.proofs.Turning.{becomes_turns, none_turns}
use Rattle.mw_lower.proofs.lower.LowerRewriter.rewrite.Goals as goal

pub returns-in-Ok-Some-clause-rewritten : goal.returns-in-Ok-Some-clause-rewritten
returns-in-Ok-Some-clause-rewritten c =
    let b = basis_over c.args.heap.now.objects c.args.arity.now c.args.basis.now in
    let h = subst (λ o. IsTurned b c.turned.new.heap.objects o (object_at c.args.heap.now.objects c.args.proof)) c.in-Ok-Some.field-0-is c.in-Ok-Some.ensures.turned in
    (h.0, becomes_turns b _ _ h.1 c.in_range.ensures)

pub returns-in-Ok-None-clause-rewritten : goal.returns-in-Ok-None-clause-rewritten
returns-in-Ok-None-clause-rewritten c =
    let b = basis_over c.args.heap.now.objects c.args.arity.now c.args.basis.now in
    λ q. none_turns b _ q (subst (λ o. IsTurned b c.turned.new.heap.objects o (object_at c.args.heap.now.objects c.args.proof)) c.in-Ok-None.field-0-is c.in-Ok-None.ensures.turned)
