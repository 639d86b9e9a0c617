-- The subcommand is the last.
use Rattle.std.proofs.Common.{◌≡◌, ◌∙◌, ap}
use Rattle.std.proofs.lemmas.Result.{IfOk-weaker}
use Rattle.clap.specs.Words.{app_of, shape_of, with_subcommand}
use Rattle.mw_request.specs.Words.{with_steps}
use Rattle.mw_request.proofs.program.with_steps.Goals as goal

pub returns : goal.returns
returns c =
    let old = app_of c.args.program in
    IfOk-weaker c.subcommand.result _ (λ r. app_of r ≡ with_steps old (shape_of c.args.command)) (λ r last. last.shape c.in_ok-whole.ensures.local ∙ ap (with_subcommand old) c.in_ok-whole.ensures.shape) c.subcommand.ensures
