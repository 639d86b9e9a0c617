-- The tail, and then its first member.
use Rattle.mw_heap.proofs.Objects.{Grows-trans}
use Rattle.mw_translate.proofs.places.checked_place.Goals as goal

pub returns-in_err-call_of_one-clause-grows : goal.returns-in_err-call_of_one-clause-grows
returns-in_err-call_of_one-clause-grows c = Grows-trans _ _ _ c.in_ok-tail.ensures.grows c.in_err-call_of_one.ensures.grows

pub returns-clause-grows : goal.returns-clause-grows
returns-clause-grows c = Grows-trans _ _ _ c.in_ok-tail.ensures.grows c.in_ok-call_of_one.ensures.grows
