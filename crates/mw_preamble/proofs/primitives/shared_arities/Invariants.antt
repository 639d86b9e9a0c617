-- The entries that are left are new, and make the table whole.
use Rattle.std.proofs.Common.{◌≡◌, true, drop}
use Rattle.mw_model.specs.Values.Primitive.{One, primitive_arities}
use Rattle.mw_preamble.proofs.PrimitiveTable.{are_new, with_entries}
use Rattle.mw_preamble.proofs.primitives.shared_arities.Given as goal

abbrev pub invariant-loop-primitive : goal.invariant-loop-primitive
invariant-loop-primitive l = record {
  new : are_new l.arity (drop l.primitive-index l.primitive-items) ≡ true;
  made : with_entries l.arity (drop l.primitive-index l.primitive-items) ≡ primitive_arities One;
}
