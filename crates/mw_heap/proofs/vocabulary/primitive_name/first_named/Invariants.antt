-- No name before this place is the one that is sought.
use Rattle.std.proofs.Common.{◌≡◌, drop}
use Rattle.mw_heap.specs.PrimitiveNames.{first_named}
use Rattle.mw_heap.proofs.vocabulary.primitive_name.first_named.Given as goal

abbrev pub invariant-loop-primitive : goal.invariant-loop-primitive
invariant-loop-primitive l = first_named (drop l.primitive-index l.among) l.name ≡ first_named l.among l.name
