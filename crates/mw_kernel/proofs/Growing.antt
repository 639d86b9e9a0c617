-- What a heap that grew has kept, for the tactics.
use Rattle.mw_heap.proofs.Objects.{IsIn-Grows, object_at-Grows, Grows-refl, Grows-trans}
use Rattle.mw_term.proofs.CallerLemmas.{AreMarks-grows}

pub ruleset growing = (IsIn-Grows, object_at-Grows, Grows-refl, Grows-trans, AreMarks-grows)
