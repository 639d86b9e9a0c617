-- What the tests of an EVAL tell of a raw term.
use Rattle.std.specs.Prelude.{◌≡◌, ℕ, true, List, [], Some}
use Rattle.mw_model.specs.Terms.Object.{Object}
use Rattle.mw_model.specs.Terms.Term.{Term, ArityTable, term_object, is_closed}
use Rattle.mw_model.specs.Values.Definition.{arity_table}
use Rattle.mw_model.specs.Events.Expansion.{expand}
use Rattle.mw_model.specs.Events.Theory.{Theory}
use Rattle.mw_model.specs.Events.Refusal.{refuse}
use Rattle.mw_model.specs.Events.Fate.{eval}
use Rattle.mw_heap.specs.Objects.{object_at, IsIn}
use Rattle.mw_heap.specs.Variants.{refusal_of}
use Rattle.mw_theory.specs.Words.{eval_event}
use Rattle.mw_kernel.specs.declared.eval.Tried.{Tried}
use Rattle.mw_kernel.specs.declared.eval.Tried.TheVariants.{Closed, Refused}

-- under an arity table the raw term expands to that term, which has no variables, or an EVAL of it is refused for that reason
abbrev pub IsTried : ArityTable → List Object → Object → Tried → Type 0
IsTried A os x (Closed r) = (t : Term) × (expand A x ≡ Some t) × (is_closed [] t ≡ true) × IsIn os r × (object_at os r ≡ term_object t)
IsTried A os x (Refused r) = (t : Theory) (N : ℕ) → A ≡ arity_table t.definitions → eval t N (eval_event x) ≡ refuse t (refusal_of r)
