-- The definitions are what the table takes for the block.
use Rattle.std.proofs.Common.{◌≡◌, map, sym, ◌∙◌, subst}
use Rattle.mw_code.specs.Blocks.{IsBlockOf}
use Rattle.mw_preamble.specs.Defining.{spelling_of}
use Rattle.mw_preamble.proofs.BlockSpelled.{block-spelled}
use Rattle.mw_theory.proofs.coding.add_code.Goals as goal

pub add-requires : goal.add-requires
add-requires c =
    let os = c.args.heap.now.objects in
    let ds = c.args.block.now in
    let (D, B, h) = c.requires.block in
    let spelled : c.as_slice.result.now ≡ map spelling_of ds = c.as_slice.ensures.value ∙ c.in_ok-list_spellings.ensures in
    record { block = (D, B, h.stands, subst (λ ms. IsBlockOf os D ms B) (sym spelled) (block-spelled os D.profile D.blocks ds B h.means h.made)) }

pub returns-clause-added : goal.returns-clause-added
returns-clause-added c D B h =
    let os = c.args.heap.now.objects in
    let ds = c.args.block.now in
    let spelled : c.as_slice.result.now ≡ map spelling_of ds = c.as_slice.ensures.value ∙ c.in_ok-list_spellings.ensures in
    c.add.ensures.added D B h.stands (subst (λ ms. IsBlockOf os D ms B) (sym spelled) (block-spelled os D.profile D.blocks ds B h.means h.made))
