-- What a heap that grew has kept, for the tactics.
use Rattle.mw_heap.proofs.Objects.{IsIn-Grows, object_at-Grows, Grows-refl, Grows-trans}

pub ruleset growing = (IsIn-Grows, object_at-Grows, Grows-refl, Grows-trans)
