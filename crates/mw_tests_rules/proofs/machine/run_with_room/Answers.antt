-- The code that is found is that of the call of the name on these values, and the width is that of the table.
use Rattle.std.proofs.Common.{◌+◌, ◌*◌, ◌≤◌, ◌^◌, map, sym, ◌∙◌, subst, arith}
use Rattle.std.proofs.lemmas.List.{length-map}
use Rattle.mw_model.specs.Terms.Object.{name_of_bytes}
use Rattle.mw_model.specs.Terms.Term.{Call}
use Rattle.mw_model.specs.Proofs.Proof.{constants}
use Rattle.mw_heap.specs.Objects.{object_at}
use Rattle.mw_preamble.specs.Admitted.{first_definitions}
use Rattle.mw_tests_rules.proofs.machine.run_with_room.Goals as goal

pub run_with_room-requires-clause-entry : goal.run_with_room-requires-clause-entry
run_with_room-requires-clause-entry c =
    let os = c.args.heap.now.objects in
    let vs = map (object_at os) c.args.values.now in
    let found = c.in_ok-entry.ensures.code os first_definitions c.requires.table in
    (first_definitions, Call (name_of_bytes c.args.name.now) (constants vs), c.requires.table, found.3 vs (length-map c.args.values.now (object_at os) ∙ sym c.if-entry-values.false))

pub run_with_room-requires-clause-places : goal.run_with_room-requires-clause-places
run_with_room-requires-clause-places c =
    subst (λ w. (c.args.units + 1) * w ≤ 2 ^ 48) (c.width-width.ensures c.args.heap.now.objects first_definitions c.requires.table) (omega (arith, c.has_room.ensures.places c.if-not-has_room.false))
