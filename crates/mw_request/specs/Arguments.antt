-- The options and the arguments of the commands, and the numbers and the name that they give.
use Rattle.std.specs.Prelude.{ℕ, Bool, true, false, ◌&&◌, cond, leb, List, [], ◌∷◌, ◌++◌, length, Option, Some, None, codes, option_and_then}
use Rattle.std.specs.Option.{option_map_or}
use Prim.Native.String.{String}
use Rattle.mw_model.specs.Terms.Object.{Name, Object, Symbol, same_bytes}
use Rattle.mw_model.specs.Texts.Lexemes.{Fault, is_digit, decimal_value}
use Rattle.std.specs.List.{list_all}
use Rattle.mw_model.specs.Texts.Grammar.{trees}
use Rattle.clap.specs.Walk.{Text, Rule}
use Rattle.clap.specs.Simple.{Shape, new_rule, new_shape}
use Rattle.clap.specs.declared.builder.action.ArgAction.TheVariants.{Set}

-- the option --steps N
abbrev pub steps_option : Rule
steps_option = record (new_rule (codes "steps")) { long = Some (codes "steps"); action = Some Set }

-- the arguments M of `trial` and NAME of `slice`
abbrev pub events_argument : Rule
events_argument = record (new_rule (codes "events")) { action = Some Set; required = true }

abbrev pub name_argument : Rule
name_argument = record (new_rule (codes "name")) { action = Some Set; required = true }

-- a command with that option alone, and the two that have an argument besides
abbrev pub steps_command : String → Shape
steps_command word = record (new_shape (codes word)) { rules = steps_option ∷ [] }

abbrev pub trial_command : Shape
trial_command = record (new_shape (codes "trial")) { rules = events_argument ∷ steps_option ∷ [] }

abbrev pub slice_command : Shape
slice_command = record (new_shape (codes "slice")) { rules = name_argument ∷ steps_option ∷ [] }

abbrev pub default_steps : ℕ
default_steps = 10000000

-- the number that the text is: its decimal digits are no more than `digits`, and its value is from the least to the most
abbrev pub number_within : (digits least most : ℕ) → Text → Option ℕ
number_within digits least most text =
    cond (list_all is_digit text && (leb 1 (length text) && (leb (length text) digits && (leb least (decimal_value text) && leb (decimal_value text) most))))
    (Some (decimal_value text)) None

-- the step limit: from 1 to 10^12
abbrev pub steps_of : Option Text → Option ℕ
steps_of text = option_map_or (number_within 13 1 1000000000000) text (Some default_steps)

-- how many events the trial book has: up to 10^6
abbrev pub events_of : Option Text → Option ℕ
events_of text = option_and_then (number_within 7 0 1000000) text

-- the symbol that a book is, where it is one datum without a fault
abbrev pub symbol_among : List Object → Option Fault → Option Name
symbol_among (Symbol s ∷ []) None = Some s
symbol_among _ _ = None

-- the name of a theorem, as a book would spell it on a line of its own
abbrev pub name_of : Option Text → Option Name
name_of None = None
name_of (Some text) = let b = trees (text ++ 10 ∷ []) in symbol_among b.events b.fault

-- `--help` alone
abbrev pub is_help : List Text → Bool
is_help (word ∷ []) = same_bytes word (codes "--help")
is_help _ = false
