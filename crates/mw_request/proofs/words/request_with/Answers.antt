-- The subcommand that takes the name.
use Rattle.std.proofs.Common.{◌∙◌, option_map, sym}
use Rattle.mw_model.specs.Terms.Object.{name_of_bytes}
use Rattle.mw_request.proofs.Requests.{slice_asks}
use Rattle.mw_request.proofs.words.request_with.Goals as goal

pub returns-then-eq : goal.returns-then-eq
returns-then-eq c = c.slice_with.ensures ∙ slice_asks c.args.word.now c.args.steps c.args.events (option_map name_of_bytes c.args.name) (sym c.eq.ensures ∙ c.if-eq.true)

pub returns : goal.returns
returns c = c.request_by_numbers.ensures (option_map name_of_bytes c.args.name) (sym c.eq.ensures ∙ c.if-eq.false)
