-- What the proofs so far are made of is complete.
use Rattle.std.proofs.Common.{◌≡◌, [], map, take}
use Rattle.mw_commands.specs.Commands.Subproofs.{each_within}
use Rattle.mw_heap.specs.Objects.{object_at}
use Rattle.mw_heap.specs.Lists.{list_object}
use Rattle.mw_term.specs.Occurrences.{gather}
use Rattle.mw_flat.specs.Walk.{is_listed, AreComplete}
use Rattle.mw_flat.proofs.walk.complete_each.Given as goal

abbrev pub invariant-loop-p : goal.invariant-loop-p
invariant-loop-p l = record {
  complete : AreComplete l.heap.objects l.complete.keys l.lists.keys;
  gathers : map (object_at l.heap.objects) l.complete.keys ≡ gather is_listed [] (each_within (list_object l.heap.objects (take l.p-index l.proofs)));
}
