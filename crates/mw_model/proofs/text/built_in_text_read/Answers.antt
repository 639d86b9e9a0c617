-- By computation, at each profile.
use Rattle.mw_model.proofs.BuiltInRead as definitions
use Rattle.mw_model.proofs.AxiomsRead as axioms
use Rattle.mw_model.proofs.text.built_in_text_read.Goals as goal

pub returns-clause-definitions : goal.returns-clause-definitions
returns-clause-definitions c = definitions.reads

pub returns-clause-axioms : goal.returns-clause-axioms
returns-clause-axioms c = axioms.reads
