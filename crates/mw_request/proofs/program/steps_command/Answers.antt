-- The option is the last rule.
use Rattle.std.proofs.Common.{◌≡◌, false}
use Rattle.std.proofs.lemmas.Result.{IfOk-weaker}
use Rattle.clap.specs.Words.{shape_of}
use Rattle.clap.specs.declared.builder.command.Command.TheViews.{out-Command}
use Rattle.mw_request.specs.Words.{steps_shape}
use Rattle.mw_request.proofs.Subcommands.{steps_shape_is, stays_local}
use Rattle.mw_request.proofs.program.steps_command.Goals as goal

pub returns-clause-shape : goal.returns-clause-shape
returns-clause-shape c = IfOk-weaker c.arg.result _ (λ r. shape_of r ≡ steps_shape (shape_of c.args.command)) (λ r a. steps_shape_is _ r _ a c.steps_option.ensures.local c.steps_option.ensures.rule) c.arg.ensures

pub returns-clause-local : goal.returns-clause-local
returns-clause-local c = IfOk-weaker c.arg.result _ (λ r. (out-Command r).has_globals ≡ false) (λ r a. stays_local _ r _ a c.requires.local c.steps_option.ensures.local) c.arg.ensures
