-- What holds of each event of a book.
use Rattle.std.specs.Prelude.{◌≡◌, ℕ, List, [], ◌∷◌, Option, Some, option_to_list}
use Rattle.mw_model.specs.Terms.Object.{Object, third_of}
use Rattle.mw_model.specs.Terms.Term.{Formula}
use Rattle.mw_model.specs.Terms.Reading.{formula_of}
use Rattle.mw_model.specs.Values.Definition.{Block, block_axioms}
use Rattle.mw_model.specs.Values.Truth.{AreTrueIn}
use Rattle.mw_model.specs.Events.Theory.{Theory, IsSound}
use Rattle.mw_model.specs.Events.Refusal.{Refusal, Fate, Accepted, Refused}
use Rattle.mw_model.specs.Events.Fate.{EventWord, Verify, Define, Skolem, DefineAll, event_word, fate, next}

-- the axioms of the newest block
abbrev pub newest_axioms : List Block → List Formula
newest_axioms [] = []
newest_axioms (B ∷ D) = block_axioms B

abbrev pub formulas_of_word : Option EventWord → Theory → Object → List Formula
formulas_of_word (Some Verify) after e = option_to_list (formula_of (third_of e))
formulas_of_word (Some Define) after e = newest_axioms after.definitions.blocks
formulas_of_word (Some DefineAll) after e = newest_axioms after.definitions.blocks
formulas_of_word (Some Skolem) after e = newest_axioms after.definitions.blocks
formulas_of_word _ after e = []

-- The formulas that an accepted event brings: that of a VERIFY, and each axiom that a DEFINE, DEFINE-ALL or SKOLEM adds.
abbrev pub formulas_by : Fate → Theory → Object → List Formula
formulas_by (Accepted value) after e = formulas_of_word (event_word e) after e
formulas_by (Refused r) after e = []

-- what holds of an event at a theory, whatever its checker
pub record EventKeeps (t : Theory) (N : ℕ) (e : Object) : Type 0 where
  -- each formula that is accepted is true in the standard model of the definitions then admitted
  pub true_formulas : AreTrueIn (next t e N).definitions (formulas_by (fate t e N) (next t e N) e)
  -- a refused event leaves the theory as it was
  pub unchanged : (r : Refusal) → fate t e N ≡ Refused r → next t e N ≡ t
  -- the theory stays sound
  pub sound : IsSound (next t e N)

-- of each event of a list, from a theory on
abbrev pub EachKeeps : Theory → ℕ → List Object → Type 0
EachKeeps t N [] = Unit {0}
EachKeeps t N (e ∷ es) = EventKeeps t N e × EachKeeps (next t e N) N es
