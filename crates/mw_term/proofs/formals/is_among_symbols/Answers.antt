-- Equal symbols have equal references.
use Rattle.std.proofs.Common.{◌∙◌}
use Rattle.mw_term.proofs.Symbols.{is_among-symbols}
use Rattle.mw_term.proofs.formals.is_among_symbols.Goals as goal

pub returns-clause-among : goal.returns-clause-among
returns-clause-among c = c.contains.ensures ∙ is_among-symbols c.args.heap.now.objects c.order.ensures.distinct c.args.x c.requires.within c.requires.symbol c.args.symbols.now.keys c.requires.symbols
