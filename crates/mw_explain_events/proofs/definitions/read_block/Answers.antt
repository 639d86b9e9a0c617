-- It has some.
use Rattle.mw_explain_events.proofs.Owing.{none-not-some}
use Rattle.mw_explain_events.proofs.RefusedProofs.{shown-none}
use Rattle.mw_explain_events.proofs.definitions.read_block.Goals as goal

pub unreachable-requires : goal.unreachable-requires
unreachable-requires c = none-not-some _ c.requires.some.0 (shown-none _ _ _ c.in-None.is c.in_ok-drafts.ensures) c.requires.some.1
