-- The pairs so far are listed.
use Rattle.std.proofs.Common.{◌≡◌, take}
use Rattle.mw_model.specs.Terms.Term.{ArityTable, table_object}
use Rattle.mw_heap.specs.Objects.{object_at, IsIn, Grows}
use Rattle.mw_translate.specs.Expands.{with_pairs}
use Rattle.mw_theory.proofs.pairs.list_pairs.Given as goal

abbrev pub invariant-loop-pair : goal.invariant-loop-pair
invariant-loop-pair l =
    Grows l.initial.heap.objects l.heap.objects
    × IsIn l.heap.objects l.list
    × ((A : ArityTable) → object_at l.initial.heap.objects l.initial.list ≡ table_object A → object_at l.heap.objects l.list ≡ table_object (with_pairs l.initial.heap.objects (take l.pair-index l.pairs) A))
