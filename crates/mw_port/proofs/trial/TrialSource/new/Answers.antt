use Rattle.std.proofs.Common.{◌-◌, ◌++◌, ap, ◌∙◌}
use Rattle.mw_port.specs.Trials.{lines_after}
use Rattle.mw_port.proofs.Trials.{trial_book-lines}
use Rattle.mw_port.proofs.trial.TrialSource.new.Goals as goal

pub returns : goal.returns
returns c = ap (λ t. t ++ lines_after 0 (c.args.events - 0)) c.new.ensures ∙ trial_book-lines c.args.events
