-- The members up to the next one stand in front.
use Rattle.std.proofs.Common.{◌≡◌, take, map}
use Rattle.mw_heap.specs.Objects.{object_at, IsIn, Grows}
use Rattle.mw_theory.specs.Knowledge.{put_all}
use Rattle.mw_theory.proofs.front.with_all.Given as goal

abbrev pub invariant-loop-member : goal.invariant-loop-member
invariant-loop-member l =
    Grows l.initial.heap.objects l.heap.objects
    × IsIn l.heap.objects l.list
    × (object_at l.heap.objects l.list ≡ put_all (map (object_at l.initial.heap.objects) (take l.member-index l.members)) (object_at l.initial.heap.objects l.initial.list))
