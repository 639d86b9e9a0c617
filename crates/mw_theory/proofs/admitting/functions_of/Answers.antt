-- The function of one entry more.
use Rattle.mw_theory.specs.Admitting.{function_of_entry}
use Rattle.mw_theory.proofs.Mapped.{mapped_next}
use Rattle.mw_theory.proofs.admitting.functions_of.Goals as goal

pub loop-entry-preserved : goal.loop-entry-preserved
loop-entry-preserved c =
    mapped_next function_of_entry c.args.entries.now c.loop-entry.entry-index c.entry-item.result c.function_of.result c.loop-entry.functions.items c.push.new.self.items
    c.loop-entry-test.true c.entry-item.is c.loop-entry.invariant c.in_ok-push.ensures.items c.function_of.ensures
