-- The names, and then the formals.
use Rattle.std.proofs.Common.{None, ap, ◌∙◌}
use Rattle.mw_model.specs.Terms.Term.{are_distinct}
use Rattle.mw_model.specs.Terms.Reading.{that}
use Rattle.mw_model.specs.Events.Admission.{new_name}
use Rattle.mw_define.proofs.BlockRead.{of-drafts}
use Rattle.mw_define.proofs.NestedDrafts.{no-names}
use Rattle.mw_define.proofs.nested_call.nested_among.Goals as goal

pub nested_named-requires-clause-names : goal.nested_named-requires-clause-names
nested_named-requires-clause-names c = rw c.in-Some.is at c.in_ok-names.ensures

pub returns-in-None-clause-nested : goal.returns-in-None-clause-nested
returns-in-None-clause-nested c =
    let os = c.args.heap.now.objects in
    no-names c.args.arity.now os c.args.drafts.now os None (ap (that are_distinct) (of-drafts (new_name c.args.arity.now) (λ d. d.name) os c.args.drafts.now) ∙ (rw c.in-None.is at c.in_ok-names.ensures))
