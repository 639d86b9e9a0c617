-- One field is another one.
use Rattle.std.proofs.Common.{true, ap, ◌∙◌}
use Rattle.clap.specs.Simple.{app_of_fields, on_top}
use Rattle.mw_request.proofs.program.bare_program.Goals as goal

pub returns : goal.returns
returns c = ap app_of_fields c.no_binary_name.ensures ∙ ap (on_top (λ s. record s { no_binary_name = true })) c.new.ensures.app
