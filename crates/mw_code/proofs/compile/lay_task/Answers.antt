-- A variable's piece serves any profile, signature and code.
use Rattle.mw_heap.specs.Variants.{profile_of}
use Rattle.mw_code.proofs.PieceForms.{if_ok-along}
use Rattle.mw_code.proofs.compile.lay_task.Goals as goal

pub returns-in-Symbol-clause-piece : goal.returns-in-Symbol-clause-piece
returns-in-Symbol-clause-piece c from code at = if_ok-along c.lay_variable.result (λ p h. h (profile_of c.args.context.now.profile) c.args.context.now.signature.now from code) (c.lay_variable.ensures.piece c.args.jobs.now.items)
