-- The bodies, and then their calls.
use Rattle.std.proofs.Common.{sym, subst}
use Rattle.std.proofs.lemmas.Result.{IfOk-weaker}
use Rattle.mw_heap.proofs.Objects.{Grows-trans}
use Rattle.mw_define.specs.Blocks.{functions_at}
use Rattle.mw_define.specs.Owed.{AreBlock}
use Rattle.mw_define.specs.NestedCall.{IsFirstNested}
use Rattle.mw_define.proofs.BlockRead.{new-symbols, new-distinct}
use Rattle.mw_define.proofs.NestedDrafts.{no-terms-nested, nested-block, nested-found}
use Rattle.mw_define.proofs.nested_call.nested_counted.Goals as goal

pub expand_all-requires-clause-symbols : goal.expand_all-requires-clause-symbols
expand_all-requires-clause-symbols c = new-symbols c.args.heap.now.objects c.args.arity.now c.args.drafts.now c.args.names.keys c.args.pairs.now c.requires.names c.requires.counted

pub expand_all-requires-clause-distinct : goal.expand_all-requires-clause-distinct
expand_all-requires-clause-distinct c = new-distinct c.args.heap.now.objects c.args.arity.now c.args.drafts.now c.args.names.keys c.args.pairs.now c.requires.names c.requires.counted

pub find_nested_of-requires : goal.find_nested_of-requires
find_nested_of-requires c =
    let mid = c.expand_all.new.heap.objects in
    subst (AreBlock mid c.args.names.keys) (sym c.as_slice.ensures.value)
    (nested-block c.args.arity.now c.args.heap.now.objects c.args.drafts.now c.args.names.keys c.requires.within c.requires.names c.args.pairs.now c.requires.counted mid c.in-Some.block.items c.in_ok-block.ensures.grows (rw c.in-Some.is at c.in_ok-block.ensures.expanded))

pub returns-in-Some-clause-grows : goal.returns-in-Some-clause-grows
returns-in-Some-clause-grows c = Grows-trans _ _ _ c.in_ok-block.ensures.grows c.find_nested_of.ensures.grows

pub returns-in-Some-clause-nested : goal.returns-in-Some-clause-nested
returns-in-Some-clause-nested c =
    let mid = c.expand_all.new.heap.objects in
    let new = c.find_nested_of.new.heap.objects in
    IfOk-weaker c.find_nested_of.result _ _
    (λ o h. nested-found c.args.arity.now c.args.heap.now.objects c.args.drafts.now c.args.names.keys c.requires.within c.requires.names c.args.pairs.now c.requires.counted mid c.in-Some.block.items c.in_ok-block.ensures.grows (rw c.in-Some.is at c.in_ok-block.ensures.expanded) new o
    (subst (λ l. IsFirstNested (functions_at mid l) new o) c.as_slice.ensures.value h))
    c.find_nested_of.ensures.nested

pub returns-in-None-clause-nested : goal.returns-in-None-clause-nested
returns-in-None-clause-nested c =
    no-terms-nested c.args.arity.now c.args.heap.now.objects c.args.drafts.now c.args.names.keys c.requires.within c.requires.names c.args.pairs.now c.requires.counted c.expand_all.new.heap.objects c.requires.measures (rw c.in-None.is at c.in_ok-block.ensures.expanded)
