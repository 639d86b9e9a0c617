-- What the program makes of the words of the command line.
use Rattle.std.specs.Prelude.{true, [], ◌∷◌, ◌++◌, Some, codes}
use Rattle.clap.specs.Walk.{Text, Rule}
use Rattle.clap.specs.Simple.{App, Shape, new_app, new_rule, new_shape, on_top, with_subcommand}
use Rattle.clap.specs.declared.builder.action.ArgAction.TheVariants.{Set}
use Rattle.mw_request.specs.Arguments.{steps_command, steps_option, trial_command, slice_command}
use Rattle.mw_model.specs.Terms.Object.{name_of_bytes}
use Rattle.mw_model.specs.Reports.Request.{Request, Check, Trial, Taut, Lower, Slice, Flat, Recheck, Explain, Help, Usage}
use Rattle.mw_request.specs.Commands.{plain_command, with_subcommands}
use Rattle.mw_request.specs.declared.words.Request.{Request as Asked}
use Rattle.mw_request.specs.declared.words.Request.TheVariants as words

abbrev pub meaning_of : Asked → Request
meaning_of (words.Check steps) = Check steps
meaning_of (words.Trial events steps) = Trial events steps
meaning_of words.Taut = Taut
meaning_of (words.Lower steps) = Lower steps
meaning_of (words.Slice name steps) = Slice (name_of_bytes name) steps
meaning_of (words.Flat steps) = Flat steps
meaning_of words.Recheck = Recheck
meaning_of (words.Explain steps) = Explain steps
meaning_of words.Help = Help
meaning_of words.Usage = Usage

-- the program's command without its subcommands
abbrev pub bare_program : App
bare_program = on_top (λ s. record s { no_binary_name = true }) (new_app (codes "milawa"))

-- and with the first that writes reports
abbrev pub checking_program : App
checking_program = with_subcommands bare_program (steps_command "check" ∷ [])

-- and with both
abbrev pub judging_program : App
judging_program = with_subcommands checking_program (trial_command ∷ [])

-- and with the two that write theorems with proofs
abbrev pub proving_program : App
proving_program = with_subcommands judging_program (plain_command "taut" ∷ steps_command "lower" ∷ [])

-- and with the one that slices, and the two that write and judge logs
abbrev pub logging_program : App
logging_program = with_subcommands proving_program (slice_command ∷ steps_command "flat" ∷ plain_command "recheck" ∷ [])

-- an argument that has to be there, and a command with it alone
abbrev pub argument : Text → Rule
argument name = record (new_rule name) { action = Some Set; required = true }

abbrev pub argument_shape : (word name : Text) → Shape
argument_shape word name = record (new_shape word) { rules = argument name ∷ [] }

-- a command with the option --steps N besides, and a command with it as one subcommand more
abbrev pub steps_shape : Shape → Shape
steps_shape s = record s { rules = s.rules ++ steps_option ∷ [] }

abbrev pub with_steps : App → Shape → App
with_steps a s = with_subcommand a (steps_shape s)
