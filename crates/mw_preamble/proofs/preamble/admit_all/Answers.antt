-- The rows that were read are those of the built-in definitions.
use Rattle.std.proofs.Common.{ap, ap₂, ◌∙◌}
use Rattle.mw_heap.specs.Variants.{profile_of}
use Rattle.mw_preamble.specs.Rows.{are_rows, with_rows, axioms_of}
use Rattle.mw_preamble.proofs.BuiltInRows.{axioms_of-built_in, with_rows-built_in, built_in-new}
use Rattle.mw_preamble.proofs.preamble.admit_all.Goals as goal

pub admit_rows-requires-clause-rows : goal.admit_rows-requires-clause-rows
admit_rows-requires-clause-rows c = ap₂ are_rows c.in_ok-arity.ensures c.in_ok-rows.ensures.rows ∙ built_in-new (profile_of c.args.profile)

pub returns-clause-axioms : goal.returns-clause-axioms
returns-clause-axioms c = c.in_ok-axioms.ensures.axioms ∙ (ap axioms_of c.in_ok-rows.ensures.rows ∙ axioms_of-built_in (profile_of c.args.profile))

pub returns-clause-arity : goal.returns-clause-arity
returns-clause-arity c = c.in_ok-axioms.ensures.arity ∙ (ap₂ with_rows c.in_ok-arity.ensures c.in_ok-rows.ensures.rows ∙ with_rows-built_in (profile_of c.args.profile))
