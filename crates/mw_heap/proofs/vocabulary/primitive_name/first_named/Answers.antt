-- A name that is not this one is sought further on.
use Rattle.std.proofs.Common.{sym, ap, ◌∙◌}
use Rattle.mw_model.specs.Terms.Object.{same_bytes}
use Rattle.mw_heap.proofs.NameSet.{pointwise-same_bytes}
use Rattle.mw_heap.proofs.PrimitivesNamed.{first_named-later}
use Rattle.mw_heap.proofs.vocabulary.primitive_name.first_named.Goals as goal

pub loop-primitive-preserved : goal.loop-primitive-preserved
loop-primitive-preserved c =
    let differ = sym (pointwise-same_bytes c.name.result.now c.args.name.now) ∙ (sym c.eq.ensures ∙ c.if-eq.false) in
    let here = ap (λ b. same_bytes b c.args.name.now) (sym c.name.ensures) ∙ differ in
    sym (first_named-later c.args.among.now c.loop-primitive.primitive-index _ c.args.name.now c.loop-primitive-test.true here) ∙ c.loop-primitive.invariant
