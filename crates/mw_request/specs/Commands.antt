-- What the words of the command line ask for. How `clap` reads their options, and the numbers and the name among them, is in Arguments.
use Rattle.std.specs.Prelude.{ℕ, true, cond, List, [], ◌∷◌, ◌++◌, Option, Some, None, codes}
use Rattle.std.specs.Option.{option_map_or}
use Prim.Native.String.{String}
use Rattle.mw_model.specs.Terms.Object.{Name, same_bytes}
use Rattle.mw_model.specs.Reports.Request.{Request, Check, Trial, Taut, Lower, Slice, Flat, Recheck, Explain, Help, Usage}
use Rattle.mw_request.specs.Arguments.{steps_command, trial_command, slice_command, steps_of, events_of, name_of, is_help}
use Rattle.clap.specs.Walk.{Text, Row, first_of}
use Rattle.clap.specs.Simple.{App, Shape, new_shape, new_app, on_top, with_subcommand, subcommand_of}
use Rattle.clap.specs.Takes.{takes}

abbrev pub plain_command : String → Shape
plain_command word = new_shape (codes word)

abbrev pub with_subcommands : App → List Shape → App
with_subcommands app [] = app
with_subcommands app (s ∷ ss) = with_subcommands (with_subcommand app s) ss

-- the program's command: the words are those after the program's name
abbrev pub program : App
program =
    with_subcommands (on_top (λ s. record s { no_binary_name = true }) (new_app (codes "milawa")))
    (steps_command "check" ∷ trial_command ∷ plain_command "taut" ∷ steps_command "lower" ∷ slice_command ∷ steps_command "flat" ∷
    plain_command "recheck" ∷ steps_command "explain" ∷ [])

abbrev pub with_number : (ℕ → Request) → Option ℕ → Request
with_number request n = option_map_or request n Usage

abbrev pub trial_with : Option ℕ → Option ℕ → Request
trial_with m steps = option_map_or (λ m. with_number (Trial m) steps) m Usage

abbrev pub slice_with : Option Name → Option ℕ → Request
slice_with name steps = option_map_or (λ name. with_number (Slice name) steps) name Usage

abbrev pub request_named : List (List ℕ × Request) → Text → Request
request_named [] word = Usage
request_named (p ∷ ps) word = cond (same_bytes p.0 word) p.1 (request_named ps word)

-- what a command asks for that has these matches
abbrev pub request_with : Text → (steps : Option ℕ) → (events : Option ℕ) → (name : Option Name) → Request
request_with word steps events name =
    request_named ((codes "check", with_number Check steps) ∷ (codes "trial", trial_with events steps) ∷ (codes "taut", Taut) ∷
    (codes "lower", with_number Lower steps) ∷ (codes "slice", slice_with name steps) ∷ (codes "flat", with_number Flat steps) ∷
    (codes "recheck", Recheck) ∷ (codes "explain", with_number Explain steps) ∷ []) word

abbrev pub request_of : Option (Text × List Row) → Request
request_of None = Usage
request_of (Some found) =
    request_with found.0 (steps_of (first_of (codes "steps") found.1)) (events_of (first_of (codes "events") found.1))
    (name_of (first_of (codes "name") found.1))

abbrev pub asked : List Text → Request
asked words = cond (is_help words) Help (cond (takes program words) (request_of (subcommand_of program words)) Usage)

-- one line for each command
abbrev pub help_lines : List String → List ℕ
help_lines [] = []
help_lines (l ∷ ls) = codes l ++ 10 ∷ help_lines ls

abbrev pub help_text : List ℕ
help_text =
    help_lines ("milawa check [--steps N]" ∷ "milawa trial M [--steps N]" ∷ "milawa taut" ∷ "milawa lower [--steps N]" ∷
    "milawa slice NAME [--steps N]" ∷ "milawa flat [--steps N]" ∷ "milawa recheck" ∷ "milawa explain [--steps N]" ∷ [])
