-- There are parts exactly where there is a bad step.
use Rattle.mw_commands.specs.Commands.ExplanationSteps.{bad_step_shown}
use Rattle.mw_heap.specs.Objects.{object_at}
use Rattle.mw_theory.specs.Knowledge.{parts_of, meant}
use Rattle.mw_explain_events.proofs.RefusedProofs.{parts-found}
use Rattle.mw_explain_events.proofs.proofs.bad_step_of.Goals as goal

pub returns-clause-shown : goal.returns-clause-shown
returns-clause-shown c =
    let os = c.args.heap.now.objects in
    parts-found (λ v. v.items) c.in_ok-parts.parts c.where_some.result c.wrong_proof_shown.new.heap.objects (bad_step_shown (meant os (parts_of c.args.theory.now)) (object_at os c.args.proof)) c.where_some.ensures c.in_ok-parts.ensures.shown
