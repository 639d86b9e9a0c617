-- The argument is the only rule.
use Rattle.std.proofs.Common.{◌≡◌, false}
use Rattle.std.proofs.lemmas.Result.{IfOk-weaker}
use Rattle.clap.specs.Words.{shape_of}
use Rattle.clap.specs.declared.builder.command.Command.TheViews.{out-Command}
use Rattle.mw_request.specs.Words.{argument_shape}
use Rattle.mw_request.proofs.Subcommands.{argument_shape_is, stays_local}
use Rattle.mw_request.proofs.program.argument_command.Goals as goal

pub returns-clause-shape : goal.returns-clause-shape
returns-clause-shape c =
    IfOk-weaker c.arg.result _ (λ r. shape_of r ≡ argument_shape c.args.word.now c.args.name.now) (λ r a. argument_shape_is _ r _ c.args.word.now c.args.name.now a c.new.ensures.app c.argument.ensures.local c.argument.ensures.rule) c.arg.ensures

pub returns-clause-local : goal.returns-clause-local
returns-clause-local c = IfOk-weaker c.arg.result _ (λ r. (out-Command r).has_globals ≡ false) (λ r a. stays_local _ r _ a c.new.ensures.local c.argument.ensures.local) c.arg.ensures
