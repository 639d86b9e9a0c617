-- The code that is found is that of the call of the name on these values.
use Rattle.std.proofs.Common.{map, sym, ◌∙◌}
use Rattle.std.proofs.lemmas.List.{length-map}
use Rattle.mw_model.specs.Terms.Object.{name_of_bytes}
use Rattle.mw_model.specs.Terms.Term.{Call}
use Rattle.mw_model.specs.Proofs.Proof.{constants}
use Rattle.mw_heap.specs.Objects.{object_at}
use Rattle.mw_preamble.specs.Admitted.{first_definitions}
use Rattle.mw_tests_rules.proofs.machine.run_named.Goals as goal

pub run-outcome-requires-clause-entry : goal.run-outcome-requires-clause-entry
run-outcome-requires-clause-entry c =
    let os = c.args.heap.now.objects in
    let vs = map (object_at os) c.args.values.now in
    let found = c.in_ok-entry.ensures.code os first_definitions c.requires.table in
    (first_definitions, Call (name_of_bytes c.args.name.now) (constants vs), c.requires.table, found.3 vs (length-map c.args.values.now (object_at os) ∙ sym c.if-entry-values.false))
