-- A new symbol goes last.
use Rattle.std.proofs.Common.{◌∷◌, [], ◌++◌, sym, ap, ◌∙◌, if◌then◌else◌}
use Rattle.mw_term.proofs.formals.add_formal.Goals as goal

pub returns-in_ok-insert-in-Symbol-clause-added : goal.returns-in_ok-insert-in-Symbol-clause-added
returns-in_ok-insert-in-Symbol-clause-added c =
    c.in_ok-insert-in-Symbol.ensures.keys
    ∙ ap (λ b. if b then c.args.formals.now.keys else c.args.formals.now.keys ++ c.args.x ∷ []) (sym c.is_among_symbols.ensures.held ∙ c.if-is_among_symbols.false)
