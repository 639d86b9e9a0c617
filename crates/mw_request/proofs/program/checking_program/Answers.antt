-- The subcommand is put to the bare command.
use Rattle.std.proofs.Common.{◌≡◌, ◌∙◌, ap₂, codes}
use Rattle.std.proofs.lemmas.Result.{IfOk-weaker}
use Rattle.clap.specs.Words.{app_of}
use Rattle.mw_request.specs.Words.{checking_program, with_steps}
use Rattle.mw_request.proofs.Subcommands.{bare_shape}
use Rattle.mw_request.proofs.program.checking_program.Goals as goal

pub returns : goal.returns
returns c = IfOk-weaker c.with_steps.result _ (λ r. app_of r ≡ checking_program) (λ r e. e ∙ ap₂ with_steps c.bare_program.ensures (bare_shape _ (codes "check") c.new.ensures.app)) c.with_steps.ensures
