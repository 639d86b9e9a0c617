-- The set answers for the list.
use Rattle.std.proofs.Common.{sym, ◌∙◌, ap, ◌==◌}
use Rattle.std.specs.List.{list_any}
use Rattle.mw_rules.proofs.Counted.{known-any}
use Rattle.mw_rules.proofs.known.Known.holds.Goals as goal

pub returns : goal.returns
returns c = c.contains.ensures ∙ (sym (known-any c.self.inside.entries.items c.self.inside.distinct.keys c.self.invariant c.args.x) ∙ ap (list_any (λ y. c.args.x == y)) c.self.view_is)
