-- The pairs of the functions so far are listed.
use Rattle.std.proofs.Common.{◌≡◌, ◌-◌, length, drop}
use Rattle.mw_model.specs.Terms.Term.{table_object}
use Rattle.mw_heap.specs.Objects.{object_at, IsIn, Grows}
use Rattle.mw_theory.proofs.beginning.list_arities.Given as goal

abbrev pub invariant-loop-index : goal.invariant-loop-index
invariant-loop-index l =
    Grows l.initial.heap.objects l.heap.objects
    × IsIn l.heap.objects l.list
    × (object_at l.heap.objects l.list ≡ table_object (drop (length l.arity - l.index) l.arity))
