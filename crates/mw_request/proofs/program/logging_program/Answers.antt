-- The subcommands one after another.
use Rattle.std.proofs.Common.{◌≡◌, ◌∙◌, ap, ap₂, codes}
use Rattle.std.proofs.lemmas.Result.{IfOk-weaker}
use Rattle.clap.specs.Words.{app_of, with_subcommand}
use Rattle.mw_request.specs.Words.{argument_shape, logging_program, with_steps}
use Rattle.mw_request.proofs.Subcommands.{bare_shape}
use Rattle.mw_request.proofs.program.logging_program.Goals as goal

pub returns : goal.returns
returns c =
    let slicing = c.in_ok-slicing.ensures ∙ ap (λ a. with_steps a (argument_shape (codes "slice") (codes "name"))) c.in_ok-proving.ensures in
    let flattening = c.in_ok-flattening.ensures ∙ ap₂ with_steps slicing (bare_shape _ (codes "flat") c.new.ensures.app) in
    IfOk-weaker c.subcommand.result _ (λ r. app_of r ≡ logging_program) (λ r a. a.shape c.new-2.ensures.local ∙ ap₂ with_subcommand flattening (bare_shape _ (codes "recheck") c.new-2.ensures.app)) c.subcommand.ensures
