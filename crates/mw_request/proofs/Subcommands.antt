-- What a command is with one subcommand more, or with an argument.
use Rattle.std.proofs.Common.{◌≡◌, ◌∙◌, ◌||◌, Bool, false, ap}
use Rattle.clap.specs.Words.{app_of, shape_of, rule_of}
use Rattle.clap.specs.Simple.{App, new_app, new_shape, with_rule}
use Rattle.clap.specs.Walk.{Text}
use Rattle.clap.specs.Built.{AddsArg}
use Rattle.clap.specs.declared.builder.arg.Arg.{Arg}
use Rattle.clap.specs.declared.builder.command.Command.{Command}
use Rattle.clap.specs.declared.builder.command.Command.TheViews.{out-Command}
use Rattle.mw_request.specs.Words.{argument, argument_shape, steps_shape}
use Rattle.mw_request.specs.Arguments.{steps_option}

-- the shape of a command with no subcommands
pub bare_shape : (c : Command) (word : Text) → app_of c ≡ new_app word → shape_of c ≡ new_shape word
bare_shape c word is = ap (λ (a : App). a.top) is

neither : (a b : Bool) → a ≡ false → b ≡ false → (a || b) ≡ false
neither a b e h = ap (λ x. x || b) e ∙ h

-- the argument is not global, and neither is one of the command
pub stays_local : (old new : Command) (a : Arg) → AddsArg old a new → (out-Command old).has_globals ≡ false → a.global ≡ false → (out-Command new).has_globals ≡ false
stays_local old new a adds local alone = adds.globals ∙ neither _ _ local alone

pub argument_shape_is : (old new : Command) (a : Arg) (word name : Text) → AddsArg old a new → app_of old ≡ new_app word → a.global ≡ false → rule_of a ≡ argument name → shape_of new ≡ argument_shape word name
argument_shape_is old new a word name adds is alone rule = ap (λ (a : App). a.top) (adds.shape alone) ∙ (ap (λ r. (with_rule (app_of old) r).top) rule ∙ ap (λ x. (with_rule x (argument name)).top) is)

-- the option is the last rule
pub steps_shape_is : (old new : Command) (a : Arg) → AddsArg old a new → a.global ≡ false → rule_of a ≡ steps_option → shape_of new ≡ steps_shape (shape_of old)
steps_shape_is old new a adds alone rule = ap (λ (a : App). a.top) (adds.shape alone) ∙ ap (λ r. (with_rule (app_of old) r).top) rule
