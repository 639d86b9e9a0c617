-- The words of a profile are found as the logic's primitives are.
use Rattle.std.proofs.Common.{sym, ap, ◌∙◌}
use Rattle.mw_heap.specs.Variants.{profile_of}
use Rattle.mw_heap.specs.PrimitiveNames.{word_named}
use Rattle.mw_heap.proofs.PrimitivesNamed.{first_named-one, first_named-two}
use Rattle.mw_heap.proofs.vocabulary.primitive.Primitive.named.Goals as goal

pub returns-in-One : goal.returns-in-One
returns-in-One c f e = c.first_named.ensures ∙ (first_named-one _ f e ∙ ap (λ p. word_named (profile_of p) f) (sym c.in-One.is))

pub returns-in-Two : goal.returns-in-Two
returns-in-Two c f e = c.first_named-in-Two.ensures ∙ (first_named-two _ f e ∙ ap (λ p. word_named (profile_of p) f) (sym c.in-Two.is))
