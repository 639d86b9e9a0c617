-- The names of the symbols are those of the term's variables.
use Rattle.std.proofs.Common.{map, All, ap, sym, ◌∙◌, subst}
use Rattle.std.proofs.lemmas.List.Elements.{All-weaker}
use Rattle.mw_heap.specs.Objects.{object_at, IsIn}
use Rattle.mw_term.proofs.Symbols.{IsSymbolIn, symbols_each}
use Rattle.mw_term.proofs.TermOccurrences.{variables_of_term}
use Rattle.mw_term.proofs.gather.vars.Goals as goal

pub returns-clause-within : goal.returns-clause-within
returns-clause-within c =
    let os = c.args.heap.now.objects in
    let each = symbols_each os c.in_ok-symbols.symbols.keys c.in_ok-symbols.ensures.symbols in
    subst (All (IsIn os)) (sym c.from_set.ensures) (All-weaker (IsSymbolIn os) (IsIn os) (λ r h. h.0) c.in_ok-symbols.symbols.keys each)

pub returns-clause-variables : goal.returns-clause-variables
returns-clause-variables c = λ u h.
    let os = c.args.heap.now.objects in
    ap (map (object_at os)) c.from_set.ensures ∙ variables_of_term os c.in_ok-symbols.symbols.keys (object_at os c.args.t) u c.in_ok-symbols.ensures.symbols c.in_ok-symbols.ensures.names h
