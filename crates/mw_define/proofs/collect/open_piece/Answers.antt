-- Opened where it mentions the block, and else without calls.
use Rattle.std.proofs.Common.{sym, ◌∙◌, subst}
use Rattle.mw_term.specs.Parts.{names_at}
use Rattle.mw_define.specs.Collecting.{IsPartOf, Opens}
use Rattle.mw_define.proofs.Knowing.{on-ok, known-Grows}
use Rattle.mw_define.proofs.Opened.{opens-free}
use Rattle.mw_define.proofs.collect.open_piece.Goals as goal

pub returns-then-branch-clause-known : goal.returns-then-branch-clause-known
returns-then-branch-clause-known c = on-ok c.open.result (known-Grows c.args.heap.now.objects c.open.new.heap.objects c.args.known.now.names.keys c.mentions_some.new.known c.open.ensures.grows c.in_ok-mentions_some.ensures.known)

pub returns-clause-opens : goal.returns-clause-opens
returns-clause-opens c =
    let os = c.args.heap.now.objects in
    let names = names_at os c.args.known.now.names.keys in
    let q = c.args.piece in
    let w = c.args.waiting.now.items in
    subst (λ p. Opens names os os p c.args.item.now.tests w w) (sym c.requires.piece)
    (opens-free names os 0 c.args.item.now.tests w q (subst (IsPartOf os names) c.requires.piece c.requires.part) (λ B n. sym (c.in_ok-mentions_some.ensures.mentions B n) ∙ c.if-branch.false))
