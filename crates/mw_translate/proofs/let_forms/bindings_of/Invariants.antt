-- The bindings so far, and those that are left.
use Rattle.std.proofs.Common.{◌≡◌, List}
use Rattle.mw_model.specs.Terms.Object.{Name}
use Rattle.mw_model.specs.Terms.Term.{Term, names_object, terms_object}
use Rattle.mw_model.specs.Events.Expansion.{bound_names}
use Rattle.mw_heap.specs.Objects.{object_at, IsIn}
use Rattle.mw_translate.specs.Lets.{ArePairsIn}
use Rattle.mw_translate.specs.Meaning.{values_of}
use Rattle.mw_translate.proofs.Bindings.{AreSplit}
use Rattle.mw_translate.proofs.let_forms.bindings_of.Given as goal

abbrev pub invariant-loop-first : goal.invariant-loop-first
invariant-loop-first l = record {
  names_in : IsIn l.heap.objects l.names;
  values_in : IsIn l.heap.objects l.values;
  within : ArePairsIn l.heap.objects l.bindings.items;
  split : (ps : List (Name × Term)) → object_at l.heap.objects l.fn.names ≡ names_object (bound_names ps) → object_at l.heap.objects l.fn.values ≡ terms_object (values_of ps) → AreSplit l.heap.objects l.bindings.items (object_at l.heap.objects l.names) (object_at l.heap.objects l.values) ps;
}

abbrev pub decreases-loop-first : goal.decreases-loop-first
decreases-loop-first l = l.names
