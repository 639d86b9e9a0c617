-- The names fail.
use Rattle.std.proofs.Common.{ap, ◌∙◌}
use Rattle.mw_model.specs.Terms.Term.{are_distinct}
use Rattle.mw_model.specs.Terms.Reading.{that}
use Rattle.mw_model.specs.Events.Admission.{new_name}
use Rattle.mw_model.specs.Events.Refusal.{NAME}
use Rattle.mw_define.specs.BlockTests.{no_names, fails}
use Rattle.mw_define.proofs.BlockRead.{of-drafts}
use Rattle.mw_define.proofs.admission.admit_drafts.Goals as goal

pub returns-in-None-clause-admitted : goal.returns-in-None-clause-admitted
returns-in-None-clause-admitted c =
    fails NAME (no_names (ap (that are_distinct) (of-drafts (new_name c.args.arity.now) (λ d. d.name) c.args.heap.now.objects c.args.drafts.now) ∙ (rw c.in-None.is at c.in_ok-names.ensures)))
