-- The parts of a function's axiom.
use Rattle.std.proofs.Common.{ap, ◌∙◌}
use Rattle.mw_preamble.specs.Rows.{second_part}
use Rattle.mw_preamble.proofs.AxiomParts.{function-formals, function-body}
use Rattle.mw_preamble.proofs.read.function_of.Goals as goal

pub returns : goal.returns
returns c h name_is formula_is = (
  record {
    name_in = c.requires.name;
    formals_in = c.second-formals.ensures.within;
    body_in = c.third_member-body.ensures.within;
    name_is = name_is;
    formals_are = c.second-formals.ensures.part ∙ (ap second_part c.second_member.ensures.part ∙ function-formals _ h formula_is);
    body_is = c.third_member-body.ensures.part ∙ function-body _ h formula_is;
  },
  tt,
)
