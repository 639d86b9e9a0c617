-- Nothing was read.
use Rattle.std.proofs.Common.{◌≡◌, [], Result, Ok, Err, IfOk, refl}
use Rattle.mw_model.specs.Reports.Request.{Slice}
use Rattle.mw_model.specs.Events.Theory.{initial}
use Rattle.mw_model.specs.Values.Primitive.{One}
use Rattle.mw_heap.specs.declared.budget.memory.Memory.{Memory}
use Rattle.mw_kernel.specs.declared.kernel.Kernel.{Kernel}
use Rattle.mw_kernel.specs.Knowledge.{theory_of}
use Rattle.mw_slice.specs.Slices.{events_of}
use Rattle.mw_book.specs.declared.slice.Slicing.{Slicing}
use Rattle.mw_book.specs.Sliced.{SlicedFor, name_asked}
use Rattle.mw_book.proofs.slice.slice.Goals as goal

none-sliced : (s : Slicing) (r : Result Kernel Memory) → s.events ≡ 0 → events_of s.slicer ≡ [] → IfOk r (λ k. theory_of k ≡ initial One) → IfOk r (λ k. SlicedFor s k (Slice (name_asked s) k.steps) [])
none-sliced s (Ok k) events accepted theory = ((name_asked s, k.steps), refl, record { named = refl; theory = theory; steps = refl; counted = events; accepted = accepted })
none-sliced s (Err e) events accepted theory = tt

pub answer_by-requires-clause-answered : goal.answer_by-requires-clause-answered
answer_by-requires-clause-answered g c = none-sliced c.new-slicing.result c.new.result c.new-slicing.ensures.events c.new-slicing.ensures.accepted c.new.ensures.theory
