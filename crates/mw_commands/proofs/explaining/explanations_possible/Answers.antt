-- With labels where a datum is long.
use Rattle.mw_commands.proofs.ExplainData.{explained_text, why_owed}
use Rattle.mw_commands.proofs.explaining.explanations_possible.Goals as goal

pub returns : goal.returns
returns c N s = (explained_text N s, why_owed N s s.fate)
