-- The new functions in front.
use Rattle.std.proofs.Common.{◌++◌, ap, ◌∙◌, subst}
use Rattle.std.specs.Prelude.{IfOk, MatchOption}
use Rattle.mw_translate.proofs.Pairs.{pairs-front}
use Rattle.mw_define.specs.Blocks.{Each2, Expands, HasNoTerm}
use Rattle.mw_define.proofs.block.expand_all.Goals as goal

pub returns-in-Ok-clause-expanded : goal.returns-in-Ok-clause-expanded
returns-in-Ok-clause-expanded c =
    let os = c.args.heap.now.objects in
    subst (λ N. IfOk c.expand_each.result (λ o. MatchOption o (HasNoTerm N c.args.arity.now os c.args.drafts.now) (λ v. Each2 (Expands N c.args.arity.now os c.expand_each.new.heap.objects) c.args.drafts.now v.items)))
    (ap (λ t. t ++ c.args.arity.now) c.in-Ok.ensures ∙ pairs-front os c.args.pairs.now c.args.arity.now)
    c.expand_each.ensures.expanded
