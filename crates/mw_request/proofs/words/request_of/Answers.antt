use Rattle.std.proofs.Common.{◌≡◌, ◌∙◌, sym}
use Rattle.std.proofs.lemmas.List.{map-id}
use Rattle.std.proofs.lemmas.Result.{IfOk-weaker}
use Rattle.clap.specs.Words.{app_of, subcommand_rows_of}
use Rattle.mw_request.specs.Commands.{asked}
use Rattle.mw_request.specs.Words.{meaning_of}
use Rattle.mw_request.proofs.Requests.{free, simple, taken_words, refused_words}
use Rattle.mw_request.proofs.words.request_of.Goals as goal

pub returns-in-Ok : goal.returns-in-Ok
returns-in-Ok c =
    let words = c.args.words.now in
    let app = app_of c.in_ok-program.program in
    let is = c.in_ok-program.ensures in
    let no_help = sym c.is_help.ensures ∙ c.if-is_help.false in
    let found = (c.in-Ok.ensures.matches (simple app words _ is (map-id words) no_help)).1 in
    let none = c.in-Ok.ensures.kinds (free app words _ is (map-id words) no_help) in
    IfOk-weaker c.request_by.result _ (λ r. meaning_of r ≡ asked words) (λ r e. e ∙ taken_words app words _ is (map-id words) no_help (subcommand_rows_of c.in-Ok.matches) found none) c.request_by.ensures

pub returns : goal.returns
returns c =
    let words = c.args.words.now in
    let no_help = sym c.is_help.ensures ∙ c.if-is_help.false in
    refused_words (app_of c.in_ok-program.program) words _ c.in_ok-program.ensures (map-id words) no_help (λ t. c.in_default.not-OutOfMemory (c.kind.ensures ∙ c.in-Err.ensures.passes t))
