-- The table of the formula is under way.
use Rattle.std.proofs.Common.{◌≡◌, true}
use Rattle.mw_model.specs.Terms.Term.{Formula, formula_object, ArityTable, is_formula}
use Rattle.mw_heap.specs.Objects.{object_at}
use Rattle.mw_taut.specs.Building.{IsBuilt, left_over}
use Rattle.mw_taut.proofs.compile.table_of.Given as goal

abbrev pub invariant-loop-x : goal.invariant-loop-x
invariant-loop-x l = (A : ArityTable) → (F : Formula) → object_at l.heap.objects l.fn.f ≡ formula_object F → is_formula A F ≡ true → IsBuilt A l.heap.objects F l.parts.keys l.nodes.items l.equations.items l.path.items

abbrev pub decreases-loop-x : goal.decreases-loop-x
decreases-loop-x l = left_over l.heap.objects l.fn.f l.parts.keys l.path.items
