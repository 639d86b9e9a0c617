-- The formals, and then the bodies.
use Rattle.std.proofs.Common.{None, sym, subst}
use Rattle.mw_define.specs.Blocks.{Each2, IsCounted}
use Rattle.mw_define.proofs.NestedDrafts.{no-formals}
use Rattle.mw_define.proofs.nested_call.nested_named.Goals as goal

pub returns-in_default-clause-nested : goal.returns-in_default-clause-nested
returns-in_default-clause-nested c = no-formals c.args.arity.now c.args.heap.now.objects c.args.drafts.now c.args.heap.now.objects None (rw c.in_default.is at c.in_ok-pairs.ensures)

pub nested_counted-requires-clause-counted : goal.nested_counted-requires-clause-counted
nested_counted-requires-clause-counted c = subst (Each2 (IsCounted c.args.heap.now.objects) c.args.drafts.now) (sym c.as_slice.ensures.value) (rw c.in-Some.is at c.in_ok-pairs.ensures)
