-- The test of formals in another spelling.
use Rattle.std.proofs.Common.{sym, ◌∙◌}
use Rattle.mw_heap.specs.Objects.{object_at}
use Rattle.mw_define.proofs.Witnessed.{formals-same}
use Rattle.mw_explain.proofs.one_draft.read_formals.Goals as goal

pub returns-clause-formals : goal.returns-clause-formals
returns-clause-formals c = c.in_ok-formals.ensures.formals ∙ sym (formals-same (object_at c.args.heap.now.objects c.args.list))
