use Rattle.std.proofs.Common.{◌∙◌, ap}
use Rattle.clap.specs.Words.{found_of}
use Rattle.mw_request.specs.Arguments as numbers
use Rattle.mw_request.proofs.Requests.{found_asks}
use Rattle.mw_request.proofs.words.request_by.Goals as goal

pub returns-in_ok-name-in-Some : goal.returns-in_ok-name-in-Some
returns-in_ok-name-in-Some c =
    let steps = c.steps_of-steps.ensures ∙ ap numbers.steps_of c.get_str.ensures in
    let events = c.events_of-events.ensures ∙ ap numbers.events_of c.get_str-in-Some.ensures in
    let name = c.in_ok-name-in-Some.ensures ∙ ap numbers.name_of c.get_str-in-Some-2.ensures in
    c.request_with.ensures ∙ found_asks c.args.matches.now c.in-Some.word.now (found_of c.in-Some.found.now) c.in-Some.ensures.name c.in-Some.ensures.rows _ _ _ steps events name
