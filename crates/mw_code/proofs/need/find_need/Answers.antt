-- Each step finds the need of one place more.
use Rattle.std.proofs.Common.{◌≡◌, ◌<◌, ◌≤◌, [], ◌∷◌, ◌++◌, length, take, sym, ap, ◌∙◌, subst, arith}
use Rattle.mw_code.specs.Needs.{top_need, needs}
use Rattle.mw_code.proofs.NeedSteps.{some-needs, top-few, needs-start, needs-go, needs-end}
use Rattle.mw_code.proofs.need.find_need.Goals as goal

pub loop-index-init : goal.loop-index-init
loop-index-init c = c.in_ok-push.ensures.items ∙ (ap (λ l. l ++ 0 ∷ []) c.new-needs.ensures.items ∙ needs-start c.args.signature.now c.args.code.now c.args.from c.requires.within c.requires.still)

pub need_of-need-requires-clause-some : goal.need_of-need-requires-clause-some
need_of-need-requires-clause-some c =
    let n = c.loop-index.index in
    let within : n ≤ length c.args.code.now = omega (arith, c.loop-index-test.true) in
    subst (λ l. 0 < length l) (sym c.as_slice.ensures.value) (some-needs c.args.signature.now c.args.code.now c.args.from n c.loop-index.auto.index within c.loop-index.needs.items c.loop-index.invariant)

pub need_of-need-requires-clause-small : goal.need_of-need-requires-clause-small
need_of-need-requires-clause-small c =
    let n = c.loop-index.index in
    let within : n ≤ length c.args.code.now = omega (arith, c.loop-index-test.true) in
    let few = top-few c.args.signature.now c.args.code.now c.args.from n c.loop-index.auto.index within c.loop-index.needs.items c.loop-index.invariant in
    let top = ap top_need c.as_slice.ensures.value in
    omega (arith, few, top, c.requires.few, c.loop-index-test.true)

pub loop-index-preserved : goal.loop-index-preserved
loop-index-preserved c =
    let n = c.loop-index.index in
    let S = c.args.signature.now in
    let code = c.args.code.now in
    let within : n ≤ length code = omega (arith, c.loop-index-test.true) in
    let ns = c.loop-index.needs.items in
    let is = c.loop-index.invariant in
    let need = c.need_of-need.ensures (needs S (take n code)) (c.as_slice.ensures.value ∙ is) in
    c.in_ok-push-2.ensures.items ∙ needs-go S code c.args.from n c.loop-index.auto.index within ns is c.instruction_at.result c.instruction_at.ensures c.need_of-need.result need

pub top_need-requires : goal.top_need-requires
top_need-requires c =
    let n = c.loop-index.index in
    let within : n ≤ length c.args.code.now = omega (arith, c.loop-index.auto.index-end) in
    subst (λ l. 0 < length l) (sym c.as_slice-2.ensures.value) (some-needs c.args.signature.now c.args.code.now c.args.from n c.loop-index.auto.index within c.loop-index.needs.items c.loop-index.invariant)

pub returns : goal.returns
returns c =
    let n = c.loop-index.index in
    let within : n ≤ length c.args.code.now = omega (arith, c.loop-index.auto.index-end) in
    let end : n ≡ length c.args.code.now = omega (arith, within, c.loop-index-test.false) in
    c.top_need.ensures ∙ (ap top_need c.as_slice-2.ensures.value ∙ needs-end c.args.signature.now c.args.code.now c.args.from n c.loop-index.auto.index within c.loop-index.needs.items c.loop-index.invariant end)
