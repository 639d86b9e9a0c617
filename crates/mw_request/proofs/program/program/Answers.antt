-- The subcommand is put to the command with the others.
use Rattle.std.proofs.Common.{◌≡◌, ◌∙◌, ap₂, codes}
use Rattle.std.proofs.lemmas.Result.{IfOk-weaker}
use Rattle.clap.specs.Words.{app_of}
use Rattle.mw_request.specs.Commands.{program}
use Rattle.mw_request.specs.Words.{with_steps}
use Rattle.mw_request.proofs.Subcommands.{bare_shape}
use Rattle.mw_request.proofs.program.program.Goals as goal

pub returns : goal.returns
returns c = IfOk-weaker c.with_steps.result _ (λ r. app_of r ≡ program) (λ r e. e ∙ ap₂ with_steps c.in_ok-logging.ensures (bare_shape _ (codes "explain") c.new.ensures.app)) c.with_steps.ensures
