-- One entry more.
use Rattle.std.proofs.Common.{◌≡◌, ◌+◌, true, drop, sym, subst, ◌∙◌}
use Rattle.mw_model.specs.Values.Primitive.{One, primitive_arities}
use Rattle.mw_preamble.proofs.PrimitiveTable.{are_new, with_entries, table_new, table_made, turn}
use Rattle.mw_preamble.proofs.primitives.shared_arities.Goals as goal
use Rattle.mw_preamble.specs.declared.primitives.TheConstants.{PRIMITIVES}

pub loop-primitive-init : goal.loop-primitive-init
loop-primitive-init c = record {
  new = subst (λ A. are_new A PRIMITIVES ≡ true) (sym c.new-arity.ensures) table_new;
  made = subst (λ A. with_entries A PRIMITIVES ≡ primitive_arities One) (sym c.new-arity.ensures) table_made;
}

pub add-requires-clause-absent : goal.add-requires-clause-absent
add-requires-clause-absent c =
    (turn c.loop-primitive.arity PRIMITIVES c.loop-primitive.primitive-index _ _ c.loop-primitive-test.true c.loop-primitive.invariant.new c.name.ensures).absent

pub loop-primitive-preserved : goal.loop-primitive-preserved
loop-primitive-preserved c =
    let t = turn c.loop-primitive.arity PRIMITIVES c.loop-primitive.primitive-index _ _ c.loop-primitive-test.true c.loop-primitive.invariant.new c.name.ensures in
    record {
      new = subst (λ A. are_new A (drop (c.loop-primitive.primitive-index + 1) PRIMITIVES) ≡ true) (sym c.in_ok-add.ensures.added) t.new;
      made = subst (λ A. with_entries A (drop (c.loop-primitive.primitive-index + 1) PRIMITIVES) ≡ primitive_arities One) (sym c.in_ok-add.ensures.added) (t.made ∙ c.loop-primitive.invariant.made);
    }
