-- One more pair is listed.
use Rattle.std.proofs.Common.{◌≡◌, ◌-◌, suc, sym, subst, arith}
use Rattle.mw_heap.specs.Objects.{IsIn}
use Rattle.mw_heap.proofs.Objects.{IsIn-Grows}
use Rattle.mw_taut.proofs.Choosing.{IsChoosing, choosing-more}
use Rattle.mw_taut.proofs.choice.choice_list.Goals as goal

pub loop-k-preserved : goal.loop-k-preserved
loop-k-preserved c =
    let start = c.args.heap.now.objects in
    let es = c.args.equations.now in
    let ss = c.args.chosen.now in
    let k = c.loop-k.k - 1 in
    let e = c.index-equations-k.result in
    let made = c.in_ok-list-2.ensures in
    let next : c.loop-k.k ≡ suc k = omega (arith, c.loop-k-test.true) in
    let here = subst (IsChoosing start es ss c.loop-k.heap.objects c.loop-k.list) next c.loop-k.invariant in
    let in_e = subst (IsIn start) (sym c.index-equations-k.is) (c.requires k e (omega (arith, c.loop-k-test.true, c.loop-k.invariant.few))) in
    choosing-more start es ss c.loop-k.heap.objects c.choice_before.new.heap.objects c.loop-k.list c.in_ok-list-2.list k e c.is_true.result here made.grows made.within in_e c.index-equations-k.is c.is_true.ensures made.made

pub choice_before-requires-clause-equation_in : goal.choice_before-requires-clause-equation_in
choice_before-requires-clause-equation_in c =
    let k = c.loop-k.k - 1 in
    let e = c.index-equations-k.result in
    let within = subst (IsIn c.args.heap.now.objects) (sym c.index-equations-k.is) (c.requires k e (omega (arith, c.loop-k-test.true, c.loop-k.invariant.few))) in
    IsIn-Grows _ _ c.loop-k.invariant.grows e within
