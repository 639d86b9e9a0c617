-- The subcommand is put to the command with the first.
use Rattle.std.proofs.Common.{◌≡◌, ◌∙◌, ap, codes}
use Rattle.std.proofs.lemmas.Result.{IfOk-weaker}
use Rattle.clap.specs.Words.{app_of}
use Rattle.mw_request.specs.Words.{argument_shape, judging_program, with_steps}
use Rattle.mw_request.proofs.program.judging_program.Goals as goal

pub returns : goal.returns
returns c =
    IfOk-weaker c.with_argument.result _ (λ r. app_of r ≡ judging_program) (λ r e. e ∙ ap (λ a. with_steps a (argument_shape (codes "trial") (codes "events"))) c.in_ok-checking.ensures) c.with_argument.ensures
