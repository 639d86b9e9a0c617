-- What was noted and what waits, while the heap stays.
use Rattle.std.proofs.Common.{◌≡◌}
use Rattle.mw_subst.specs.Sigma.{sigma_object}
use Rattle.mw_subst.specs.declared.part.Part.TheVariants.{Term}
use Rattle.mw_subst.proofs.Comparing.{IsCompared, left}
use Rattle.mw_subst.proofs.instance.compare.Given as goal

abbrev pub invariant-loop-part : goal.invariant-loop-part
invariant-loop-part l = (l.heap.objects ≡ l.fn.heap.objects) × IsCompared l.fn.heap.objects (sigma_object l.fn.heap.objects l.sigma) (Term l.fn.x, l.fn.y) l.noted.terms l.noted.lists l.waiting.items

abbrev pub decreases-loop-part : goal.decreases-loop-part
decreases-loop-part l = left l.fn.heap.objects l.noted.terms l.noted.lists l.waiting.items
