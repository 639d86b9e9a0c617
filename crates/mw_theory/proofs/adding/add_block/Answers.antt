-- The pairs are those of the block, in the heap and as it has grown.
use Rattle.std.proofs.Common.{ap, ◌∙◌}
use Rattle.mw_model.specs.Terms.Term.{table_object}
use Rattle.mw_theory.proofs.BlockPairs.{block_formals}
use Rattle.mw_theory.proofs.BlockAdded.{may_be_added_grows, symbols, symbols_later, new_later, arities, arities_later}
use Rattle.mw_heap.proofs.Objects.{Grows-refl}
use Rattle.mw_theory.proofs.adding.add_block.Goals as goal

pub pairs_of-requires : goal.pairs_of-requires
pairs_of-requires c =
    let (D, B, h, e) = c.requires.block in
    block_formals c.args.heap.now.objects c.args.addition.now.block.now B h.means

pub with_lists-requires-clause-symbols : goal.with_lists-requires-clause-symbols
with_lists-requires-clause-symbols c =
    let os = c.args.heap.now.objects in
    let (D, B, h, e) = c.requires.block in
    symbols os os (Grows-refl os) c.args.table.now D c.args.addition.now.block.now B h c.as_slice.result.now (c.as_slice.ensures.value ∙ c.in_ok-pairs.ensures)

pub add_or_keep-requires-clause-symbols : goal.add_or_keep-requires-clause-symbols
add_or_keep-requires-clause-symbols c =
    let (D, B, h, e) = c.requires.block in
    symbols_later c.args.heap.now.objects c.with_lists.new.heap.objects c.with_lists.ensures.grows c.args.table.now D c.args.addition.now.block.now B h c.as_slice-2.result.now (c.as_slice-2.ensures.value ∙ c.in_ok-pairs.ensures)

pub add_or_keep-requires-clause-new : goal.add_or_keep-requires-clause-new
add_or_keep-requires-clause-new c =
    let (D, B, h, e) = c.requires.block in
    new_later c.args.heap.now.objects c.with_lists.new.heap.objects c.with_lists.ensures.grows c.args.table.now D c.args.addition.now.block.now B h c.as_slice-2.result.now (c.as_slice-2.ensures.value ∙ c.in_ok-pairs.ensures) c.args.arity.now e

pub add_or_keep-requires-clause-block : goal.add_or_keep-requires-clause-block
add_or_keep-requires-clause-block c =
    let (D, B, h, e) = c.requires.block in
    (D, B, may_be_added_grows c.args.heap.now.objects c.with_lists.new.heap.objects c.with_lists.ensures.grows c.args.table.now D c.args.addition.now.block.now B h)

pub returns-clause-table : goal.returns-clause-table
returns-clause-table c D B h =
    c.in_ok-add_or_keep.ensures.table D B (may_be_added_grows c.args.heap.now.objects c.with_lists.new.heap.objects c.with_lists.ensures.grows c.args.table.now D c.args.addition.now.block.now B h)

pub returns-clause-arity : goal.returns-clause-arity
returns-clause-arity c D B h e =
    c.in_ok-add_or_keep.ensures.arity
    ∙ arities_later c.args.heap.now.objects c.with_lists.new.heap.objects c.with_lists.ensures.grows c.args.table.now D c.args.addition.now.block.now B h c.as_slice-2.result.now (c.as_slice-2.ensures.value ∙ c.in_ok-pairs.ensures) c.args.arity.now e

pub returns-clause-arity_list : goal.returns-clause-arity_list
returns-clause-arity_list c D B h e =
    let os = c.args.heap.now.objects in
    let listed = c.in_ok-lists.ensures in (
      listed.arity_list_in,
      listed.arity_list c.args.arity.now c.requires.arities_listed
          ∙ ap table_object (arities os os (Grows-refl os) c.args.table.now D c.args.addition.now.block.now B h c.as_slice.result.now (c.as_slice.ensures.value ∙ c.in_ok-pairs.ensures) c.args.arity.now e),
    )
