-- A term's own code serves it, and so does a part of its scope.
use Rattle.std.proofs.Common.{rules, ◌≡◌}
use Rattle.mw_heap.specs.Variants.{profile_of}
use Rattle.mw_code.proofs.PieceForms.{if_ok-along}
use Rattle.mw_code.proofs.PartForms.{value-piece, known-piece}
use Rattle.mw_code.proofs.compile.lay_value.Goals as goal

pub returns-in_default-clause-piece : goal.returns-in_default-clause-piece
returns-in_default-clause-piece c from code n parts =
    if_ok-along c.lay_task.result (λ p own. value-piece (profile_of c.args.context.now.profile) c.args.context.now.heap.now.objects c.args.context.now.signature.now from code p c.args.jobs.now.items c.lay_task.new.jobs.items c.args.task own) (c.lay_task.ensures.piece from code n)

pub returns-then-not-is_shared-clause-piece : goal.returns-then-not-is_shared-clause-piece
returns-then-not-is_shared-clause-piece c from code n parts =
    if_ok-along c.lay_task-then-not-is_shared.result (λ p own. value-piece (profile_of c.args.context.now.profile) c.args.context.now.heap.now.objects c.args.context.now.signature.now from code p c.args.jobs.now.items c.lay_task-then-not-is_shared.new.jobs.items c.args.task own)
    (c.lay_task-then-not-is_shared.ensures.piece from code n)

pub returns-in-Some-clause-piece : goal.returns-in-Some-clause-piece
returns-in-Some-clause-piece c from code n parts =
    let fits : c.in-Ok.count ≡ c.args.task.scope.end = search rules in
    known-piece (profile_of c.args.context.now.profile) c.args.context.now.heap.now.objects c.args.context.now.signature.now from code c.args.parts.now.laid.entries c.args.jobs.now.items c.args.task c.in-Ok.count c.in-Some.part c.to_part.result c.to_part.ensures fits c.in-Some.ensures parts
