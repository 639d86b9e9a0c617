-- The new functions in front.
use Rattle.std.proofs.Common.{◌++◌, ap, ◌∙◌, subst}
use Rattle.mw_heap.specs.Objects.{object_at}
use Rattle.mw_translate.specs.Expands.{IsExpanded}
use Rattle.mw_translate.proofs.Pairs.{pairs-front}
use Rattle.mw_translate.proofs.expansion.expand.Goals as goal

pub returns-in-Ok-clause-expanded : goal.returns-in-Ok-clause-expanded
returns-in-Ok-clause-expanded c =
    let os = c.args.heap.now.objects in
    subst (λ A. IsExpanded A c.expand_under.new.heap.objects (object_at os c.args.raw) c.expand_under.result)
    (ap (λ t. t ++ c.args.arity.now) c.in-Ok.ensures ∙ pairs-front os c.args.new.now c.args.arity.now)
    c.expand_under.ensures.expanded
