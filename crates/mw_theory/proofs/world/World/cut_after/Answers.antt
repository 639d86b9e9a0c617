-- The definitions stand where they stood.
use Rattle.std.proofs.Common.{◌≤◌, sym, ap, ◌∙◌, subst, arith}
use Rattle.mw_theory.specs.Admitting.{AreWithin, drafts_given}
use Rattle.mw_theory.proofs.Worlds.{mark-within}
use Rattle.mw_theory.proofs.Drafting.{within-cut, given-cut}
use Rattle.mw_theory.proofs.world.World.cut_after.Goals as goal

pub returns-clause-drafts : goal.returns-clause-drafts
returns-clause-drafts c =
    let old = c.args.self.now in
    let os = old.heap.objects in
    let d = c.args.drafts.now in
    let m = c.mark_after-end.result in
    let before = c.mark_after-end.ensures.before in
    let whole = mark-within old c.requires.world m c.later.result c.later.ensures c.mark_after-end.ensures.within in
    let later : m ≤ c.later.result = omega (arith, c.later.ensures) in
    let heap_is = c.cut_to.ensures.objects in (
      subst (λ o. AreWithin o d) (sym heap_is) (within-cut os c.later.result m later whole d before),
      ap (λ o. drafts_given o d) heap_is ∙ given-cut os c.later.result m later whole d before,
    )
