-- A new name goes last.
use Rattle.std.proofs.Common.{◌∷◌, [], ◌++◌, sym, ap, ◌∙◌, if◌then◌else◌}
use Rattle.mw_define.proofs.block.add_name.Goals as goal

pub returns-clause-added : goal.returns-clause-added
returns-clause-added c =
    c.in_ok-insert.ensures.keys
    ∙ ap (λ b. if b then c.args.names.now.keys else c.args.names.now.keys ++ c.args.x ∷ []) (sym c.is_among_symbols.ensures.held ∙ c.if-is_among_symbols.false)
