-- The formals, and then the other tests.
use Rattle.std.proofs.Common.{sym, subst}
use Rattle.mw_define.specs.Blocks.{Each2, IsCounted}
use Rattle.mw_model.specs.Events.Refusal.{FORMALS}
use Rattle.mw_define.specs.BlockTests.{fails}
use Rattle.mw_define.proofs.BlockTested.{fails-formals}
use Rattle.mw_define.proofs.admission.admit_named.Goals as goal

pub returns-in_default-clause-admitted : goal.returns-in_default-clause-admitted
returns-in_default-clause-admitted c = fails FORMALS (fails-formals c.args.arity.now c.args.heap.now.objects c.args.drafts.now c.args.names.keys c.requires.within c.requires.names (rw c.in_default.is at c.in_ok-pairs.ensures))

pub admit_counted-requires-clause-counted : goal.admit_counted-requires-clause-counted
admit_counted-requires-clause-counted c = subst (Each2 (IsCounted c.args.heap.now.objects) c.args.drafts.now) (sym c.as_slice.ensures.value) (rw c.in-Some.is at c.in_ok-pairs.ensures)
