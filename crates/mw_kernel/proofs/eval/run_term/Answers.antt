-- The code of the call is gone, and what was there stands.
use Rattle.mw_kernel.proofs.eval.run_term.Goals as goal

pub returns-clause-table : goal.returns-clause-table
returns-clause-table c = λ os D h. c.forget_call-2.ensures os D (c.compile_call.ensures.kept os D h)

pub returns-clause-outcome : goal.returns-clause-outcome
returns-clause-outcome c = λ D t stands closed. c.run_entry-outcome.ensures.answer D t (c.compile_call.ensures.table D stands) (c.in-Ok.ensures.entry D t stands closed)

pub returns-in_default-clause-table : goal.returns-in_default-clause-table
returns-in_default-clause-table c = λ os D h. c.forget_call.ensures os D (c.compile_call.ensures.kept os D h)
