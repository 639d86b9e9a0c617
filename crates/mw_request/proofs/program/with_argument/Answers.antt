-- The command that gets the option has the argument alone.
use Rattle.std.proofs.Common.{◌≡◌, ◌∙◌, ap}
use Rattle.std.proofs.lemmas.Result.{IfOk-weaker}
use Rattle.clap.specs.Words.{app_of}
use Rattle.mw_request.specs.Words.{with_steps, argument_shape}
use Rattle.mw_request.proofs.program.with_argument.Goals as goal

pub returns : goal.returns
returns c =
    let old = app_of c.args.program in
    IfOk-weaker c.with_steps.result _ (λ r. app_of r ≡ with_steps old (argument_shape c.args.word.now c.args.name.now)) (λ r e. e ∙ ap (with_steps old) c.in_ok-command.ensures.shape) c.with_steps.ensures
