-- One step more.
use Rattle.std.proofs.Common.{◌<◌, ◌+◌, ◌++◌, length, map, get_or, ap, ◌∙◌, subst, arith, append_assoc}
use Rattle.std.proofs.lemmas.List.{get_or_read}
use Rattle.mw_commands.specs.Commands.Flattening.{IsStepLine}
use Rattle.mw_heap.specs.Objects.{object_at}
use Rattle.mw_flat.proofs.Writing.{one_more}
use Rattle.mw_flat.proofs.steps.write_steps.Goals as goal

pub returns-in_err-write_step-clause-longer : goal.returns-in_err-write_step-clause-longer
returns-in_err-write_step-clause-longer c = let h = c.loop-place.invariant in (h.0, h.2)

pub returns-in_err-put_line-clause-longer : goal.returns-in_err-put_line-clause-longer
returns-in_err-put_line-clause-longer c =
    let h = c.loop-place.invariant in
    let more = c.put_line.ensures.longer in
    (h.0 ++ more.0, more.1 ∙ (ap (λ t. t ++ more.0) h.2 ∙ append_assoc c.args.out.now.items h.0 more.0))

pub returns-clause-longer : goal.returns-clause-longer
returns-clause-longer c = let h = c.loop-place.invariant in (h.0, h.2)

pub loop-place-preserved : goal.loop-place-preserved
loop-place-preserved c =
    let os = c.args.heap.now.objects in
    let keys = c.args.complete.now.keys in
    let i = c.loop-place.place in
    let line = c.write_step.new.line.items in
    let h = c.loop-place.invariant in
    let same = c.as_slice-x-items.ensures.keys in
    let l : i < length keys = omega (arith, ap length same) in
    let x_is = get_or_read keys i c.x-item.result l (c.x-item.is ∙ ap (λ xs. get_or xs i c.x-item.result) same) 0 in (
      h.0 ++ line,
      one_more (IsStepLine (map (object_at os) keys)) (object_at os) keys i l h.0 line h.1 (subst (λ r. IsStepLine (map (object_at os) keys) (i + 1, object_at os r) line) x_is c.in_ok-write_step.ensures),
      c.in_ok-put_line.ensures.put ∙ (ap (λ t. c.loop-place.out.items ++ t) c.as_slice.ensures.value ∙ (ap (λ t. t ++ line) h.2 ∙ append_assoc c.args.out.now.items h.0 line)),
    )
