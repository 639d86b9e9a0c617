-- The subcommands one after another.
use Rattle.std.proofs.Common.{◌≡◌, ◌∙◌, ap₂, codes}
use Rattle.std.proofs.lemmas.Result.{IfOk-weaker}
use Rattle.clap.specs.Words.{app_of, with_subcommand}
use Rattle.mw_request.specs.Words.{proving_program, with_steps}
use Rattle.mw_request.proofs.Subcommands.{bare_shape}
use Rattle.mw_request.proofs.program.proving_program.Goals as goal

pub returns : goal.returns
returns c =
    let proving = c.in_ok-proving.ensures.shape c.new.ensures.local ∙ ap₂ with_subcommand c.in_ok-judging.ensures (bare_shape _ (codes "taut") c.new.ensures.app) in
    IfOk-weaker c.with_steps.result _ (λ r. app_of r ≡ proving_program) (λ r e. e ∙ ap₂ with_steps proving (bare_shape _ (codes "lower") c.new-2.ensures.app)) c.with_steps.ensures
