-- What going through a log holds, and what comes of a datum.
use Rattle.std.specs.Prelude.{◌≡◌, ℕ, Bool, true, false, List, [], ◌∷◌, ◌++◌, length, Option, Some, None}
use Rattle.mw_model.specs.Terms.Object.{Object, symbol, same_object}
use Rattle.mw_model.specs.Values.Definition.{arity_table}
use Rattle.mw_model.specs.Events.Theory.{Theory}
use Rattle.mw_commands.specs.Commands.Log.{Answer, conclusions, is_step, logged}
use Rattle.mw_heap.specs.Objects.{object_at}
use Rattle.mw_theory.specs.declared.world.World.{World}
use Rattle.mw_theory.specs.Knowledge.{Parts, parts_of, meant}
use Rattle.mw_theory.specs.Worlds.{IsWorld}
use Rattle.mw_flat.specs.declared.collected.Collected.{Collected}
use Rattle.mw_flat.specs.declared.verdict.Verdict.{Verdict}
use Rattle.mw_flat.specs.Verdicts.{answer_of}
use Rattle.mw_flat.specs.Collecting.{AreConclusions, AreFormulasIn}

-- The objects of the heap, of which the first ones are needed by the theory, what that is read from, and what was collected for the next event.
pub record Going : Type 0 where
  pub objects : List Object
  pub needed : ℕ
  pub parts : Parts
  pub conclusions : List ℕ
  pub good : Bool
  pub count : ℕ

abbrev pub theory_of : Going → Theory
theory_of g = meant g.objects g.parts

-- these steps were collected
pub record HasCollected (g : Going) (steps : List Object) : Type 0 where
  pub count : g.count ≡ length steps
  pub conclusions :
      let t = theory_of g in AreConclusions g.objects g.good g.conclusions (conclusions t.axioms t.theorems (arity_table t.definitions) t.definitions.profile steps)

abbrev pub going_of : World → Collected → Going
going_of w c = record { objects = w.heap.objects; needed = w.needed; parts = parts_of w.theory; conclusions = c.conclusions.items; good = c.good; count = c.count }

-- The world is right, its checker the built-in one, and the conclusions are formulas. While each step was good, they are those of some steps.
pub record IsGoing (w : World) (c : Collected) : Type 0 where
  pub world : IsWorld w
  pub built_in : w.theory.checker ≡ None
  pub formulas : AreFormulasIn w.heap.objects w.theory.arity c.conclusions.items
  pub known : c.good ≡ true → (steps : List Object) × HasCollected (going_of w c) steps

-- after these steps the datum is a step, and collected
pub record IsNoted (old new : Going) (steps : List Object) (x : Object) (said : Option Answer) : Type 0 where
  pub answer : said ≡ None
  pub theory : theory_of new ≡ theory_of old
  pub collected : HasCollected new (steps ++ x ∷ [])

-- or it is an event, and answered
pub record IsAnswered (old new : Going) (steps : List Object) (x : Object) (said : Option Answer) : Type 0 where
  pub answer : said ≡ Some (logged (theory_of old) steps x).0
  pub theory : theory_of new ≡ (logged (theory_of old) steps x).1
  pub collected : HasCollected new []

abbrev pub ComesBy : Bool → Going → Going → List Object → Object → Option Answer → Type 0
ComesBy true = IsNoted
ComesBy false = IsAnswered

abbrev pub Comes : Verdict → Going → Going → List Object → Object → Type 0
Comes v old new steps x = ComesBy (is_step x) old new steps x (answer_of v)

-- the word of a datum is STEP
abbrev pub is_step_word : List Object → Option ℕ → Bool
is_step_word os None = false
is_step_word os (Some r) = same_object (object_at os r) (symbol "STEP")
