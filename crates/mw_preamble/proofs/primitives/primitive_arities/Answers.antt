-- The product is new, and comes last.
use Rattle.std.proofs.Common.{sym, ap, ◌∙◌}
use Rattle.mw_model.specs.Values.Primitive as model
use Rattle.mw_heap.specs.Variants.{profile_of}
use Rattle.mw_preamble.proofs.PrimitiveTable.{product_new, product_added}
use Rattle.mw_preamble.proofs.primitives.primitive_arities.Goals as goal

pub add-requires-clause-absent : goal.add-requires-clause-absent
add-requires-clause-absent c = product_new _ _ c.in_ok-arity.ensures c.name.ensures

pub returns-in_ok-add-in-Two : goal.returns-in_ok-add-in-Two
returns-in_ok-add-in-Two c =
    c.in_ok-add-in-Two.ensures.added
    ∙ (product_added _ _ c.in_ok-arity.ensures c.name.ensures ∙ ap (λ P. model.primitive_arities (profile_of P)) (sym c.in-Two.is))
