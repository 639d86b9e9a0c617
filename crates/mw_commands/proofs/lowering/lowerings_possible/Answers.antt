-- No event takes an axiom away, and a second profile begins with both.
use Rattle.mw_model.specs.Values.Primitive.{One}
use Rattle.mw_model.specs.Events.Theory.{initial}
use Rattle.mw_commands.specs.Commands.DerivationTest.{derived_as}
use Rattle.mw_commands.proofs.FirstAxioms.{initial_first, each_has_first, last_has_first}
use Rattle.mw_commands.proofs.LoweredAccepted.{each_lowering}
use Rattle.mw_commands.proofs.lowering.lowerings_possible.Goals as goal

pub returns-clause-axioms : goal.returns-clause-axioms
returns-clause-axioms c = λ es N. each_has_first derived_as N 1 (initial One) es (initial_first One)

pub returns-clause-last : goal.returns-clause-last
returns-clause-last c = λ es N. last_has_first derived_as N 1 (initial One) es (initial_first One)

pub returns-clause-lowered : goal.returns-clause-lowered
returns-clause-lowered c = λ es N. each_lowering N 1 (initial One) es (initial_first One)
