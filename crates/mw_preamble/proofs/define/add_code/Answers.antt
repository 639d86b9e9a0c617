-- The definition is a block of one.
use Rattle.std.proofs.Common.{[], ◌∷◌, sym, subst}
use Rattle.mw_model.specs.Values.Definition.{definitions}
use Rattle.mw_code.specs.Blocks.{IsBlockOf}
use Rattle.mw_preamble.proofs.BlockSpelled.{block-spelled}
use Rattle.mw_preamble.proofs.define.add_code.Goals as goal

pub add-requires : goal.add-requires
add-requires c =
    let os = c.args.heap.now.objects in
    let P = c.requires.0 in
    let D = c.requires.1 in
    let B = c.requires.2 in
    record {
      block = (
        definitions P D,
        B,
        c.requires.4,
        subst (λ m. IsBlockOf os (definitions P D) (m ∷ []) B) (sym c.spelling.ensures) (block-spelled os P D (c.args.definition.now ∷ []) B c.requires.3.means c.requires.3.made),
      );
    }

pub returns : goal.returns
returns c P D B next stands =
    let os = c.args.heap.now.objects in
    c.add.ensures.added (definitions P D) B stands
    (subst (λ m. IsBlockOf os (definitions P D) (m ∷ []) B) (sym c.spelling.ensures) (block-spelled os P D (c.args.definition.now ∷ []) B next.means next.made))
