-- They are those of the block.
use Rattle.mw_explain_events.proofs.Owing.{owed-in, owed-are, never-refused}
use Rattle.mw_theory.specs.Admitting.{drafts_given}
use Rattle.mw_explain_events.proofs.definitions.obligations.Goals as goal

pub returns-in-Obligations-clause-within : goal.returns-in-Obligations-clause-within
returns-in-Obligations-clause-within c =
    owed-in c.args.arity.now c.admit.new.heap.objects (drafts_given c.args.heap.now.objects c.args.drafts) c.in-Obligations.owed c.in-Obligations.ensures.admitted

pub returns-in-Obligations-clause-owed : goal.returns-in-Obligations-clause-owed
returns-in-Obligations-clause-owed c =
    owed-are c.args.arity.now c.admit.new.heap.objects (drafts_given c.args.heap.now.objects c.args.drafts) c.in-Obligations.owed c.in-Obligations.ensures.admitted

pub unreachable-requires : goal.unreachable-requires
unreachable-requires c =
    never-refused c.args.arity.now c.admit.new.heap.objects (drafts_given c.args.heap.now.objects c.args.drafts) c.in-Refused.field-0 c.in-Refused.ensures.admitted c.requires.owe.0 c.requires.owe.1
