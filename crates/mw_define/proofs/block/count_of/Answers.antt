-- The formals that were read.
use Rattle.std.proofs.Common.{sym, ap, ◌∙◌, option_map}
use Rattle.mw_heap.specs.Objects.{object_at}
use Rattle.mw_term.specs.Parts.{names_at}
use Rattle.mw_term.proofs.FormalList.{length-names_at}
use Rattle.mw_define.proofs.Witnessed.{formals-same}
use Rattle.mw_define.proofs.block.count_of.Goals as goal

pub returns-in-Some : goal.returns-in-Some
returns-in-Some c =
    let os = c.args.heap.now.objects in
    (names_at os c.in-Some.formals, formals-same (object_at os c.args.list) ∙ (sym c.in_ok-formals.ensures.formals ∙ ap (option_map (names_at os)) c.in-Some.is), c.len.ensures ∙ sym (length-names_at os c.in-Some.formals))
