-- One name more.
use Rattle.std.proofs.Common.{ap, subst, arith}
use Rattle.std.proofs.lemmas.List.{take_all}
use Rattle.mw_theory.specs.Waking.{WakesNames}
use Rattle.mw_theory.proofs.WokenNames.{woken-none, woken-more}
use Rattle.mw_theory.proofs.waking.wake_names.Goals as goal

pub loop-definition-init : goal.loop-definition-init
loop-definition-init c = woken-none c.args.watch.now

pub loop-definition-preserved : goal.loop-definition-preserved
loop-definition-preserved c =
    let l = c.loop-definition in
    woken-more c.args.watch.now l.watch c.wake.new.self c.args.block.now l.definition-index c.definition-item.result c.spelling-name.result.0 c.loop-definition-test.true c.definition-item.is (ap (λ s. s.0) c.spelling-name.ensures) l.invariant c.in_ok-wake.ensures

pub returns : goal.returns
returns c =
    let l = c.loop-definition in
    subst (WakesNames c.args.watch.now l.watch) (take_all l.definition-index c.args.block.now (omega (arith, c.loop-definition-test.false))) l.invariant
