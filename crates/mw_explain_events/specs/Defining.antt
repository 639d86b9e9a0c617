-- What is owed for definitions that pass their tests, and what is shown of definitions that are refused.
use Rattle.std.specs.Prelude.{◌≡◌, ℕ, true, List, [], map, Option, Some, unwrap_or}
use Rattle.mw_model.specs.Terms.Object.{Object}
use Rattle.mw_model.specs.Terms.Term.{Formula, ArityTable, formula_object}
use Rattle.mw_model.specs.Values.Definition.{arity_table}
use Rattle.mw_model.specs.Events.Theory.{Theory}
use Rattle.mw_model.specs.Events.Refusal.{Refusal, EVENT, NAME, FORMALS, TERM, VARIABLES, NESTED, COUNT}
use Rattle.mw_model.specs.Events.Admission.{Draft}
use Rattle.mw_model.specs.Events.Demand.{Wants, wants_some, define_demand}
use Rattle.mw_commands.specs.Commands.Explanation.{drafts_shown, formulas_wanted, proof_shown}
use Rattle.mw_explain.specs.Drafts.{bodies_under}

-- at a theory of these arities the definitions want proofs of these formulas
abbrev pub Owe : ArityTable → Option (List Draft) → List Formula → Type 0
Owe A given Fs = (t : Theory) × (ds : List Draft) × (next : Theory) × (arity_table t.definitions ≡ A) × (given ≡ Some ds) × (define_demand t ds ≡ Wants Fs next)

-- of functions that may call each other
abbrev pub block_shown : Refusal → ArityTable → Option (List Draft) → List Object
block_shown r A given = let ds = unwrap_or given [] in drafts_shown r A (bodies_under true A ds) ds

-- of a DEFINE or a DEFINE-ALL that gives these, with these proofs
abbrev pub definitions_shown : Refusal → Theory → ℕ → Option (List Draft) → Object → List Object
definitions_shown EVENT t N given ps = []
definitions_shown NAME t N given ps = block_shown NAME (arity_table t.definitions) given
definitions_shown FORMALS t N given ps = block_shown FORMALS (arity_table t.definitions) given
definitions_shown TERM t N given ps = block_shown TERM (arity_table t.definitions) given
definitions_shown VARIABLES t N given ps = block_shown VARIABLES (arity_table t.definitions) given
definitions_shown NESTED t N given ps = block_shown NESTED (arity_table t.definitions) given
definitions_shown COUNT t N given ps = map formula_object (formulas_wanted (wants_some EVENT given (define_demand t)))
definitions_shown r t N given ps = proof_shown t N 1 (formulas_wanted (wants_some EVENT given (define_demand t))) ps
