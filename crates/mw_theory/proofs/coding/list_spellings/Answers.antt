-- The spelling of one definition more.
use Rattle.mw_preamble.specs.Defining.{spelling_of}
use Rattle.mw_theory.proofs.Mapped.{mapped_next}
use Rattle.mw_theory.proofs.coding.list_spellings.Goals as goal

pub loop-definition-preserved : goal.loop-definition-preserved
loop-definition-preserved c =
    mapped_next spelling_of c.args.block.now c.loop-definition.definition-index c.definition-item.result c.spelling.result c.loop-definition.spellings.items c.push.new.self.items
    c.loop-definition-test.true c.definition-item.is c.loop-definition.invariant c.in_ok-push.ensures.items c.spelling.ensures
