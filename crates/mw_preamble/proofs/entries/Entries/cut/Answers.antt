-- The oldest blocks are those of the oldest lists.
use Rattle.std.proofs.Common.{map, take, sym, ap, ◌∙◌}
use Rattle.std.proofs.lemmas.List.{take-map}
use Rattle.mw_preamble.proofs.entries.Entries.cut.Goals as goal

pub returns : goal.returns
returns c =
    let lists = c.self.inside.blocks.items in
    ap (map (λ v. v.items)) c.truncate.ensures.items ∙ (sym (take-map (λ v. v.items) c.args.count lists) ∙ ap (take c.args.count) c.self.view_is)
