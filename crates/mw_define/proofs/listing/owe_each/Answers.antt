-- One function after another.
use Rattle.std.proofs.Common.{◌+◌, sym, subst}
use Rattle.mw_heap.proofs.Objects.{Grows-trans}
use Rattle.mw_define.specs.Owed.{AreBlock, OwesOne}
use Rattle.mw_define.proofs.Knowing.{known-own, known-before}
use Rattle.mw_define.proofs.Expanding.{expanded-at}
use Rattle.mw_define.proofs.OwedCalls.{named-at}
use Rattle.mw_define.proofs.OwedBlock.{block-Grows, named-Grows, one-later, nested-found, owes-start, owes-next, OwesSoFar}
use Rattle.mw_define.proofs.listing.owe_each.Goals as goal

pub loop-function-init : goal.loop-function-init
loop-function-init c = (owes-start c.args.heap.now.objects c.args.block.now c.args.owed.now, c.requires.known)

pub owe_function-requires-clause-block : goal.owe_function-requires-clause-block
owe_function-requires-clause-block c =
    let cur = c.loop-function.heap.objects in
    let es = c.args.block.now in
    subst (λ ks. AreBlock cur ks es) (sym c.loop-function.invariant.1.same) (block-Grows c.args.heap.now.objects cur c.loop-function.invariant.0.grows c.args.known.now.names.keys es c.requires.block)

pub owe_function-requires-clause-named : goal.owe_function-requires-clause-named
owe_function-requires-clause-named c =
    let os = c.args.heap.now.objects in
    let es = c.args.block.now in
    let i = c.loop-function.function-index in
    let e = c.function-item.result in
    named-Grows os c.loop-function.heap.objects c.loop-function.invariant.0.grows es e.name e c.requires.block.expanded (expanded-at os es i e c.requires.block.expanded c.loop-function-test.true c.function-item.is).within.0
    (named-at os es c.args.known.now.names.keys i e c.requires.block c.loop-function-test.true c.function-item.is)

pub returns-in_err-next-clause-grows : goal.returns-in_err-next-clause-grows
returns-in_err-next-clause-grows c = Grows-trans c.args.heap.now.objects c.loop-function.heap.objects c.owe_function.new.heap.objects c.loop-function.invariant.0.grows c.owe_function.ensures.grows

pub returns-in-Nested-clause-grows : goal.returns-in-Nested-clause-grows
returns-in-Nested-clause-grows c = Grows-trans c.args.heap.now.objects c.loop-function.heap.objects c.owe_function.new.heap.objects c.loop-function.invariant.0.grows c.owe_function.ensures.grows

pub returns-in-Nested-clause-owed : goal.returns-in-Nested-clause-owed
returns-in-Nested-clause-owed c =
    let os = c.args.heap.now.objects in
    let es = c.args.block.now in
    let i = c.loop-function.function-index in
    let e = c.function-item.result in
    let w = (expanded-at os es i e c.requires.block.expanded c.loop-function-test.true c.function-item.is).within in
    nested-found os es i e c.loop-function-test.true c.function-item.is
    (subst (OwesOne os c.owe_function.new.heap.objects es e c.loop-function.owed c.owe_function.new.owed) c.in-Nested.is
    (one-later os c.loop-function.heap.objects c.owe_function.new.heap.objects c.loop-function.invariant.0.grows es e c.loop-function.owed c.owe_function.new.owed c.requires.block.expanded w c.in_ok-next.next c.in_ok-next.ensures.owed))

pub loop-function-preserved : goal.loop-function-preserved
loop-function-preserved c =
    let os = c.args.heap.now.objects in
    let cur = c.loop-function.heap.objects in
    let new = c.owe_function.new.heap.objects in
    let es = c.args.block.now in
    let i = c.loop-function.function-index in
    let e = c.function-item.result in
    let rs = c.args.owed.now in
    let last = c.owe_function.new.owed in
    let r = c.loop-function.recursion in
    let w = (expanded-at os es i e c.requires.block.expanded c.loop-function-test.true c.function-item.is).within in (
      record {
        grows = Grows-trans os cur new c.loop-function.invariant.0.grows c.in_ok-next.ensures.grows;
        owes =
            subst (OwesSoFar os new es (i + 1) rs last) (sym c.with_next-recursion.ensures)
            (owes-next os cur new es i e rs c.loop-function.owed last c.requires.block.expanded w c.loop-function-test.true c.function-item.is c.loop-function.invariant.0.grows r c.in_ok-next.next c.in_default.not-Nested c.loop-function.invariant.0.owes c.in_ok-next.ensures.owed);
      },
      known-before cur new c.args.known.now.names.keys c.loop-function.known c.owe_function.new.known c.loop-function.invariant.1 c.in_ok-next.ensures.known,
    )

pub owe_function-requires-clause-known : goal.owe_function-requires-clause-known
owe_function-requires-clause-known c = known-own c.loop-function.heap.objects c.args.known.now.names.keys c.loop-function.known c.loop-function.invariant.1
