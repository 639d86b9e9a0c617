-- The definitions of the first profile are those of the initial theory.
use Rattle.std.proofs.Common.{◌≡◌, refl, ◌∙◌}
use Rattle.mw_model.specs.Values.Primitive.{One}
use Rattle.mw_model.specs.Values.Definition.{arity_table}
use Rattle.mw_commands.specs.Commands.TautologyBook.{initial_arities}
use Rattle.mw_preamble.specs.Admitted.{definitions_of}
use Rattle.mw_book.proofs.taut.initial_arity.Goals as goal

first_arities : arity_table (definitions_of One) ≡ initial_arities
unfolding definitions_of
first_arities = refl

pub returns : goal.returns
returns c = c.in_ok-preamble.ensures.arity ∙ first_arities
