-- By what the table makes.
use Rattle.mw_lower.specs.Rules.{rule_made}
use Rattle.mw_lower.proofs.rules.apply.Goals as goal

pub returns-clause-made : goal.returns-clause-made
unfolding rule_made
returns-clause-made c = c.make.ensures.made
