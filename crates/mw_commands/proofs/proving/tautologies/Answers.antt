-- Each valuation makes one of the choices.
use Rattle.mw_commands.specs.Commands.Tautology.{choices, equations}
use Rattle.mw_commands.proofs.Tautologies.{tautology_exact, first_is}
use Rattle.mw_commands.proofs.proving.tautologies.Goals as goal

pub returns-clause-decided : goal.returns-clause-decided
returns-clause-decided c = tautology_exact

pub returns-clause-first : goal.returns-clause-first
returns-clause-first c = λ F d h. let r = first_is F (choices (equations F)) d h in (r.earlier, r.later, r.place, r.false_under, r.true_before)
