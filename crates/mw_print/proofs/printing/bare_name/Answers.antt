use Rattle.std.proofs.Common.{sym, ◌∙◌}
use Rattle.mw_heap.specs.Objects.{object_at}
use Rattle.mw_print.proofs.Bare.{bare-text}
use Rattle.mw_print.proofs.printing.bare_name.Goals as goal

pub returns-then-is_bare_name : goal.returns-then-is_bare_name
returns-then-is_bare_name c = bare-text (object_at c.args.heap.now.objects c.args.x) c.name_of-name.result.now c.in-Symbol.ensures.shows c.name_of-name.ensures (sym c.is_bare_name.ensures ∙ c.if-is_bare_name.true)
