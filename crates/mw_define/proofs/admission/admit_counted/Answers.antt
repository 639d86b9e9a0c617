-- The bodies and measures, and then the last tests.
use Rattle.std.proofs.Common.{sym, subst}
use Rattle.std.proofs.lemmas.Result.{IfOk-weaker}
use Rattle.mw_define.specs.Owed.{AreBlock}
use Rattle.mw_model.specs.Events.Refusal.{TERM}
use Rattle.mw_define.specs.BlockTests.{fails, IsExpandedBlock}
use Rattle.mw_define.proofs.BlockRead.{new-symbols, new-distinct}
use Rattle.mw_define.proofs.BlockTested.{fails-terms, is-block, block-tested}
use Rattle.mw_heap.proofs.Objects.{Grows-trans}
use Rattle.mw_define.proofs.admission.admit_counted.Goals as goal

pub expand_all-requires-clause-symbols : goal.expand_all-requires-clause-symbols
expand_all-requires-clause-symbols c = new-symbols c.args.heap.now.objects c.args.arity.now c.args.drafts.now c.args.names.keys c.args.pairs.now c.requires.names c.requires.counted

pub expand_all-requires-clause-distinct : goal.expand_all-requires-clause-distinct
expand_all-requires-clause-distinct c = new-distinct c.args.heap.now.objects c.args.arity.now c.args.drafts.now c.args.names.keys c.args.pairs.now c.requires.names c.requires.counted

pub returns-in-None-clause-admitted : goal.returns-in-None-clause-admitted
returns-in-None-clause-admitted c = fails TERM (fails-terms c.args.arity.now c.args.heap.now.objects c.args.drafts.now c.args.names.keys c.requires.within c.requires.names c.args.pairs.now c.requires.counted (rw c.in-None.is at c.in_ok-block.ensures.expanded))

pub admit_expanded-requires : goal.admit_expanded-requires
admit_expanded-requires c =
    let mid = c.expand_all.new.heap.objects in
    subst (AreBlock mid c.args.names.keys) (sym c.as_slice.ensures.value)
    (is-block c.args.arity.now c.args.heap.now.objects c.args.drafts.now c.args.names.keys c.requires.within c.requires.names c.args.pairs.now c.requires.counted mid c.in-Some.block.items c.in_ok-block.ensures.grows (rw c.in-Some.is at c.in_ok-block.ensures.expanded))

pub returns-in-Some-clause-admitted : goal.returns-in-Some-clause-admitted
returns-in-Some-clause-admitted c =
    let mid = c.expand_all.new.heap.objects in
    let new = c.admit_expanded.new.heap.objects in
    IfOk-weaker c.admit_expanded.result _ _
    (λ o admitted.
    block-tested c.args.arity.now c.args.heap.now.objects c.args.drafts.now c.args.names.keys c.requires.within c.requires.names c.args.pairs.now c.requires.counted mid c.in-Some.block.items c.in_ok-block.ensures.grows (rw c.in-Some.is at c.in_ok-block.ensures.expanded) c.args.most new c.admit_expanded.ensures.grows o
    (subst (λ l. IsExpandedBlock c.args.most mid new l o) c.as_slice.ensures.value admitted))
    c.admit_expanded.ensures.admitted

pub returns-in-Some-clause-grows : goal.returns-in-Some-clause-grows
returns-in-Some-clause-grows c = Grows-trans _ _ _ c.in_ok-block.ensures.grows c.admit_expanded.ensures.grows
