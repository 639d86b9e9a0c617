-- The place of the name is that of the function.
use Rattle.std.proofs.Common.{sym, ap, ◌∙◌, true≢false, is_some}
use Rattle.mw_term.proofs.Symbols.{is_among-symbols}
use Rattle.mw_define.proofs.OwedCalls.{named-place}
use Rattle.mw_define.proofs.owing.function_named.Goals as goal

pub unreachable-requires : goal.unreachable-requires
unreachable-requires c =
    let os = c.args.heap.now.objects in
    true≢false (sym c.requires.among ∙ (sym (is_among-symbols os c.order.ensures.distinct c.args.name c.requires.within c.requires.symbol c.args.names.now.keys c.requires.block.symbols) ∙ (sym c.get_index_of.ensures.found ∙ ap is_some c.in_default.is)))

pub returns : goal.returns
returns c = named-place c.args.heap.now.objects c.args.block.now c.args.names.now.keys c.args.name c.in-Some.index c.index-block-index.result c.requires.block (sym c.get_index_of.ensures.index ∙ c.in-Some.is) c.index-block-index.is
