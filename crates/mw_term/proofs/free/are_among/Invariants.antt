-- Those before are among the names.
use Rattle.std.proofs.Common.{◌≡◌, true, take}
use Rattle.std.specs.List.{list_all}
use Rattle.mw_model.specs.Values.Primitive.{name_of}
use Rattle.mw_model.specs.Terms.Term.{is_among}
use Rattle.mw_heap.specs.Objects.{object_at}
use Rattle.mw_term.specs.Parts.{names_at}
use Rattle.mw_term.proofs.free.are_among.Given as goal

abbrev pub invariant-loop-x : goal.invariant-loop-x
invariant-loop-x l = list_all (λ r. is_among (name_of (object_at l.heap.objects r)) (names_at l.heap.objects l.names.keys)) (take l.x-index l.x-items) ≡ true
