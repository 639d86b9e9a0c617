-- What the words of a command line ask for.
use Rattle.std.proofs.Common.{◌≡◌, List, [], ◌∷◌, map, refl, codes}
use Prim.Native.String.{String}
use Rattle.clap.proofs.OnLiterals.{clap_on_literals}
use Rattle.mw_model.specs.Laws.BuiltInText.{joined}
use Rattle.mw_model.specs.Terms.Object.{named}
use Rattle.mw_model.specs.Reports.Request.{Request, Check, Trial, Taut, Lower, Slice, Flat, Recheck, Explain, Help, Usage}
use Rattle.mw_request.specs.Commands.{asked, help_text}

-- each of these command lines asks for what stands beside it
abbrev Ask : List (List String × Request) → Type 0
Ask rows = map (λ row. asked (map codes row.0)) rows ≡ map (λ row. row.1) rows

the_words_of_check : Ask (
    -- check alone
    ("check" ∷ [], Check 10000000) ∷
    -- steps after the option
    ("check" ∷ "--steps" ∷ "5" ∷ [], Check 5) ∷
    -- steps in the same word
    ("check" ∷ "--steps=5" ∷ [], Check 5) ∷
    -- two dashes alone
    ("check" ∷ "--" ∷ [], Check 10000000) ∷
    -- leading zeros
    ("check" ∷ "--steps" ∷ "0000000000001" ∷ [], Check 1) ∷
    -- fourteen digits
    ("check" ∷ "--steps" ∷ "00000000000001" ∷ [], Usage) ∷
    -- no steps
    ("check" ∷ "--steps" ∷ "0" ∷ [], Usage) ∷
    -- most steps
    ("check" ∷ "--steps" ∷ "1000000000000" ∷ [], Check 1000000000000) ∷
    -- too many steps
    ("check" ∷ "--steps" ∷ "1000000000001" ∷ [], Usage) ∷
    -- negative steps
    ("check" ∷ "--steps" ∷ "-1" ∷ [], Usage) ∷
    -- no number
    ("check" ∷ "--steps" ∷ "x" ∷ [], Usage) ∷
    -- empty number
    ("check" ∷ "--steps=" ∷ [], Usage) ∷
    -- no value
    ("check" ∷ "--steps" ∷ [], Usage) ∷
    -- steps twice
    ("check" ∷ "--steps" ∷ "5" ∷ "--steps" ∷ "5" ∷ [], Usage) ∷
    -- option before the command
    ("--steps" ∷ "5" ∷ "check" ∷ [], Usage) ∷
    -- word after check
    ("check" ∷ "book" ∷ [], Usage) ∷
    [])
unfolding clap_on_literals
the_words_of_check = refl

the_words_of_trial : Ask (
    -- trial of two
    ("trial" ∷ "2" ∷ [], Trial 2 10000000) ∷
    -- trial of none
    ("trial" ∷ "0" ∷ [], Trial 0 10000000) ∷
    -- steps after the argument
    ("trial" ∷ "2" ∷ "--steps" ∷ "5" ∷ [], Trial 2 5) ∷
    -- steps before the argument
    ("trial" ∷ "--steps" ∷ "5" ∷ "0002" ∷ [], Trial 2 5) ∷
    -- argument after two dashes
    ("trial" ∷ "--" ∷ "5" ∷ [], Trial 5 10000000) ∷
    -- trial alone
    ("trial" ∷ [], Usage) ∷
    -- trial of too many
    ("trial" ∷ "1000001" ∷ [], Usage) ∷
    -- two arguments
    ("trial" ∷ "2" ∷ "3" ∷ [], Usage) ∷
    [])
unfolding clap_on_literals
the_words_of_trial = refl

help_and_unknown_words : Ask (
    -- no words
    ([], Usage) ∷
    -- help alone
    ("--help" ∷ [], Help) ∷
    -- help after a command
    ("check" ∷ "--help" ∷ [], Usage) ∷
    -- short help
    ("-h" ∷ [], Usage) ∷
    -- help as a command
    ("help" ∷ [], Usage) ∷
    -- version
    ("--version" ∷ [], Usage) ∷
    -- unknown command
    ("judge" ∷ [], Usage) ∷
    [])
unfolding clap_on_literals
help_and_unknown_words = refl

the_words_of_taut_and_lower : Ask (
    -- taut alone
    ("taut" ∷ [], Taut) ∷
    -- taut with steps
    ("taut" ∷ "--steps" ∷ "5" ∷ [], Usage) ∷
    -- lower alone
    ("lower" ∷ [], Lower 10000000) ∷
    -- lower with steps
    ("lower" ∷ "--steps" ∷ "5" ∷ [], Lower 5) ∷
    -- word after lower
    ("lower" ∷ "book" ∷ [], Usage) ∷
    [])
unfolding clap_on_literals
the_words_of_taut_and_lower = refl

the_words_of_slice : Ask (
    -- slice of a theorem
    ("slice" ∷ "use" ∷ [], Slice (named "USE") 10000000) ∷
    -- name between bars
    ("slice" ∷ "|a b|" ∷ [], Slice (named "a b") 10000000) ∷
    -- name with a comment
    ("slice" ∷ " use ; its last line" ∷ [], Slice (named "USE") 10000000) ∷
    -- slice with steps
    ("slice" ∷ "use" ∷ "--steps" ∷ "5" ∷ [], Slice (named "USE") 5) ∷
    -- slice alone
    ("slice" ∷ [], Usage) ∷
    -- slice of a number
    ("slice" ∷ "12" ∷ [], Usage) ∷
    -- slice of a list
    ("slice" ∷ "(use)" ∷ [], Usage) ∷
    -- slice of two names in a word
    ("slice" ∷ "a b" ∷ [], Usage) ∷
    -- slice of two words
    ("slice" ∷ "a" ∷ "b" ∷ [], Usage) ∷
    -- slice of a fault
    ("slice" ∷ "|use" ∷ [], Usage) ∷
    [])
unfolding clap_on_literals
the_words_of_slice = refl

the_words_of_logs_and_reasons : Ask (
    -- flat alone
    ("flat" ∷ [], Flat 10000000) ∷
    -- flat with steps
    ("flat" ∷ "--steps" ∷ "5" ∷ [], Flat 5) ∷
    -- word after flat
    ("flat" ∷ "book" ∷ [], Usage) ∷
    -- recheck alone
    ("recheck" ∷ [], Recheck) ∷
    -- recheck with steps
    ("recheck" ∷ "--steps" ∷ "5" ∷ [], Usage) ∷
    -- word after recheck
    ("recheck" ∷ "log" ∷ [], Usage) ∷
    -- explain alone
    ("explain" ∷ [], Explain 10000000) ∷
    -- explain with steps
    ("explain" ∷ "--steps" ∷ "5" ∷ [], Explain 5) ∷
    -- word after explain
    ("explain" ∷ "book" ∷ [], Usage) ∷
    [])
unfolding clap_on_literals
the_words_of_logs_and_reasons = refl

help_text_of_all_commands :
    help_text ≡ joined ("milawa check [--steps N]" ∷ "milawa trial M [--steps N]" ∷ "milawa taut" ∷ "milawa lower [--steps N]" ∷ "milawa slice NAME [--steps N]" ∷ "milawa flat [--steps N]" ∷ "milawa recheck" ∷
    "milawa explain [--steps N]" ∷ [])
help_text_of_all_commands = refl
