-- The object has the form exactly where what waits has its forms.
use Rattle.std.proofs.Common.{◌≡◌}
use Rattle.mw_bad_steps.specs.Forms.{has_form, have_forms, AreFormsIn, forms_weight}
use Rattle.mw_bad_steps.proofs.form.has_form.Given as goal

abbrev pub invariant-loop-next : goal.invariant-loop-next
invariant-loop-next l = record {
  objects : l.heap.objects ≡ l.fn.heap.objects;
  within : AreFormsIn l.fn.heap.objects l.waiting.items;
  same : have_forms l.fn.heap.objects l.waiting.items ≡ has_form l.fn.heap.objects l.fn.form;
}

abbrev pub decreases-loop-next : goal.decreases-loop-next
decreases-loop-next l = forms_weight l.fn.heap.objects l.waiting.items
