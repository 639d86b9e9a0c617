-- The job of a term is laid out by its own contract.
use Rattle.std.proofs.Common.{sym, subst, IfOk}
use Rattle.mw_code.specs.Contexts.{IsPieceIn}
use Rattle.mw_code.proofs.compile.lay_job.Goals as goal

pub returns-in-Value-clause-piece : goal.returns-in-Value-clause-piece
returns-in-Value-clause-piece c from code n parts =
    subst (λ j. IfOk c.lay_value.result (λ p. IsPieceIn c.args.context.now from code p c.args.jobs.now.items c.lay_value.new.jobs.items j)) (sym c.in-Value.is) (c.lay_value.ensures.piece from code n parts)

pub returns-in-Own-clause-piece : goal.returns-in-Own-clause-piece
returns-in-Own-clause-piece c from code n parts =
    subst (λ j. IfOk c.lay_task.result (λ p. IsPieceIn c.args.context.now from code p c.args.jobs.now.items c.lay_task.new.jobs.items j)) (sym c.in-Own.is) (c.lay_task.ensures.piece from code n)
