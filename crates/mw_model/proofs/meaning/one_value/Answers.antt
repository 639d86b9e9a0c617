-- Blocks keep that there is at most one value.
use Rattle.mw_model.proofs.Depth as lemma
use Rattle.mw_model.proofs.meaning.one_value.Goals as goal

pub returns : goal.returns
returns c = lemma.one_value
