-- The event of a candidate, as an object.
use Rattle.mw_model.specs.Terms.Object.{Object}
use Rattle.mw_heap.specs.Objects.{object_at, IsIn}
use Rattle.mw_slice.specs.declared.candidate.Candidate.{Candidate}

-- it stands in its heap
abbrev pub IsCandidate : Candidate → Type 0
IsCandidate c = IsIn c.heap.now.objects c.event

abbrev pub event_of : Candidate → Object
event_of c = object_at c.heap.now.objects c.event
