-- What events come to by a judge of proofs.
use Rattle.std.specs.Prelude.{◌≡◌, ℕ, Bool, true, false, List, [], Option, Some, None}
use Rattle.mw_model.specs.Terms.Object.{Object}
use Rattle.mw_model.specs.Values.Primitive.{is_symbol}
use Rattle.mw_model.specs.Values.Definition.{Block, arity_table}
use Rattle.mw_model.specs.Laws.Rules.{is_formula_object}
use Rattle.mw_model.specs.Events.Theory.{Theory, IsSound}
use Rattle.mw_model.specs.Events.Refusal.{Refusal, EVENT, NAME, FORMULA, Fate, Accepted, Refused, refuse, accept, need}
use Rattle.mw_model.specs.Events.Admission.{Draft, skolem, add_to_theory}
use Rattle.mw_model.specs.Events.Demand.{define_demand, settled}
use Rattle.mw_heap.specs.Objects.{object_at}
use Rattle.mw_theory.specs.Knowledge.{with_theorem}
use Rattle.mw_theory.specs.Words.{skolem_event}
use Rattle.mw_theory.specs.Proofs.{Judge, by_formula}

-- Why a VERIFY is refused, where it is: whether its name is a symbol and its formula a formula, and why its proof is refused.
abbrev pub refusal_by : (is_named is_formula : Bool) → Option Refusal → Option Refusal
refusal_by false f r = Some NAME
refusal_by true false r = Some FORMULA
refusal_by true true r = r

abbrev pub verify_refusal : Judge → Theory → Object → Object → Object → Option Refusal
verify_refusal J t name formula proof =
    refusal_by (is_symbol name) (is_formula_object (arity_table t.definitions) formula) (J t formula proof)

-- the fate of a VERIFY of these members and the theory after it
abbrev pub by_refusal : Theory → Object → Option Refusal → Fate × Theory
by_refusal t formula (Some r) = refuse t r
by_refusal t formula None = accept (with_theorem t formula)

abbrev pub verified : Judge → Theory → Object → Object → Object → Fate × Theory
verified J t name formula proof = by_refusal t formula (verify_refusal J t name formula proof)

-- the fate of an event that is refused for this reason, or accepted without a text
abbrev pub fate_by : Option Refusal → Fate
fate_by None = Accepted []
fate_by (Some r) = Refused r

-- the fate of an event that gives these, with these proofs, and the theory after it
abbrev pub defined : Judge → Theory → Option (List Draft) → Object → Fate × Theory
defined J t given proofs = need t EVENT given (λ drafts. settled (by_formula J) t 0 proofs (define_demand t drafts))

-- it is refused for that, or accepted with some block
abbrev pub IsDefined : Judge → Theory → Option (List Draft) → Object → Option Refusal → Type 0
IsDefined J t given proofs (Some r) = defined J t given proofs ≡ refuse t r
IsDefined J t given proofs None = (B : Block) × (defined J t given proofs ≡ accept (add_to_theory t B))

-- it is accepted, and the theory after it is sound
abbrev pub IsAccepted : Judge → Theory → Option (List Draft) → Object → Type 0
IsAccepted J t given proofs = (B : Block) × (defined J t given proofs ≡ accept (add_to_theory t B)) × IsSound (add_to_theory t B)

-- the fate of a SKOLEM with these members, and the theory after it
abbrev pub skolem_at : List Object → Theory → (name bound free body : ℕ) → Fate × Theory
skolem_at os t name bound free body = skolem t (skolem_event (object_at os name) (object_at os bound) (object_at os free) (object_at os body))
