-- What a kernel holds, and its theory.
use Rattle.std.specs.Prelude.{ℕ, List}
use Rattle.mw_model.specs.Terms.Object.{Object}
use Rattle.mw_model.specs.Events.Theory.{Theory}
use Rattle.mw_theory.specs.Knowledge.{Parts, meant}

-- The objects of the heap, of which the first ones are needed by the theory, what that is read from, and the step limit.
pub record Knowledge : Type 0 where
  pub objects : List Object
  pub needed : ℕ
  pub parts : Parts
  pub steps : ℕ

abbrev pub theory_of : Knowledge → Theory
theory_of k = meant k.objects k.parts
