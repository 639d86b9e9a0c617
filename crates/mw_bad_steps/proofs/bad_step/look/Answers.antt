-- What was found, with its place.
use Rattle.std.proofs.Common.{Some, map, sym, ap, ◌∙◌, subst}
use Rattle.mw_heap.specs.Objects.{object_at}
use Rattle.mw_proof.specs.Judging.{basis_over, is_proof_on}
use Rattle.mw_commands.specs.Commands.ExplanationSteps.{placed}
use Rattle.mw_bad_steps.specs.BadStep.{Finds, number_of}
use Rattle.mw_bad_steps.proofs.bad_step.look.Goals as goal

pub returns-in-None-clause-bad : goal.returns-in-None-clause-bad
returns-in-None-clause-bad c = λ A k.
    let os = c.args.heap.now.objects in
    let b = basis_over os A c.args.basis.now in
    subst (Finds (is_proof_on b) os c.args.proof c.find.new.path.items) c.in-None.is (c.in_ok-step.ensures.found A k)

pub returns-clause-bad : goal.returns-clause-bad
returns-clause-bad c = λ A k.
    let os = c.args.heap.now.objects in
    let b = basis_over os A c.args.basis.now in
    let f = subst (Finds (is_proof_on b) os c.args.proof c.find.new.path.items) c.in-Some.is (c.in_ok-step.ensures.found A k) in
    f.1 ∙ ap (λ l. Some (placed l (object_at os c.in-Some.step))) (sym (c.in_ok-place-in-Some.ensures ∙ ap (map number_of) c.deref.ensures.value))

pub returns-clause-within : goal.returns-clause-within
returns-clause-within c =
    let os = c.args.heap.now.objects in
    let A = c.requires.marks.0 in
    let b = basis_over os A c.args.basis.now in
    (subst (Finds (is_proof_on b) os c.args.proof c.find.new.path.items) c.in-Some.is (c.in_ok-step.ensures.found A c.requires.marks.1)).0
