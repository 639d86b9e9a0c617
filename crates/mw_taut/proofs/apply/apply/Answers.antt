-- By what the table makes.
use Rattle.std.proofs.lemmas.Result.{IfOk-weaker}
use Rattle.mw_taut.specs.Rules.{rule_made}
use Rattle.mw_taut.proofs.Given.{all_given}
use Rattle.mw_taut.proofs.apply.apply.Goals as goal

pub make-requires : goal.make-requires
make-requires c = all_given _ _ c.requires

pub returns : goal.returns
unfolding rule_made
returns c = record {
  grows = c.make.ensures.grows;
  within = IfOk-weaker c.make.result _ _ (λ r m. m.0) c.make.ensures.made;
  made = IfOk-weaker c.make.result _ _ (λ r m. m.1) c.make.ensures.made;
}
