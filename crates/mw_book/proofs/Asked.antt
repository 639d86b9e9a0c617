-- Whatever the words ask for, nothing is a part of what is expected.
use Rattle.std.proofs.Common.{List, ℕ, Option, refl}
use Rattle.mw_model.specs.Reports.Request.{Request, Check, Trial, Taut, Lower, Slice, Flat, Recheck, Explain, Help, Usage}
use Rattle.mw_request.specs.Commands.{asked, help_text}
use Rattle.mw_model.specs.Reports.Trial.{trial_book}
use Rattle.mw_model.specs.Texts.Grammar.{trees}
use Rattle.mw_model.specs.Reports.Report.{last_line}
use Rattle.mw_answers.specs.Statuses.{IsPartOf, WritesFirst}
use Rattle.mw_answers.proofs.CallerLemmas.{nothing_taken, takes_none, Begins, part_none, first_none}

none_of : Begins → (q : Request) (input sink : Option (List ℕ)) → IsPartOf q input sink sink
none_of begins (Check N) input sink = part_none begins (Check N) refl input sink
none_of begins (Trial m N) input sink = nothing_taken (last_line (trees (trial_book m)) N) sink
none_of begins Taut input sink = part_none begins Taut refl input sink
none_of begins (Lower N) input sink = part_none begins (Lower N) refl input sink
none_of begins (Slice name N) input sink = part_none begins (Slice name N) refl input sink
none_of begins (Flat N) input sink = part_none begins (Flat N) refl input sink
none_of begins Recheck input sink = part_none begins Recheck refl input sink
none_of begins (Explain N) input sink = part_none begins (Explain N) refl input sink
none_of begins Help input sink = nothing_taken help_text sink
none_of begins Usage input sink = nothing_taken help_text sink

pub nothing_written : Begins → (words : List (List ℕ)) (input sink : Option (List ℕ)) → IsPartOf (asked words) input sink sink
nothing_written begins words input sink = none_of begins (asked words) input sink

no_answers : (q : Request) (input sink : Option (List ℕ)) → WritesFirst q input sink sink
no_answers (Check N) input sink = first_none (Check N) refl input sink
no_answers (Trial m N) input sink = takes_none sink
no_answers Taut input sink = first_none Taut refl input sink
no_answers (Lower N) input sink = first_none (Lower N) refl input sink
no_answers (Slice name N) input sink = first_none (Slice name N) refl input sink
no_answers (Flat N) input sink = first_none (Flat N) refl input sink
no_answers Recheck input sink = first_none Recheck refl input sink
no_answers (Explain N) input sink = first_none (Explain N) refl input sink
no_answers Help input sink = takes_none sink
no_answers Usage input sink = takes_none sink

pub nothing_answered : (words : List (List ℕ)) (input sink : Option (List ℕ)) → WritesFirst (asked words) input sink sink
nothing_answered words input sink = no_answers (asked words) input sink
