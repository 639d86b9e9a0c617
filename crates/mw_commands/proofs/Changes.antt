-- What an accepted event does to a theory before any switch.
use Rattle.std.proofs.Common.{◌≡◌, true, false, List, ◌∷◌, None, refl}
use Rattle.mw_model.specs.Terms.Object.{Object, Pair, NIL, third_of}
use Rattle.mw_model.specs.Terms.Term.{Formula, formula_object}
use Rattle.mw_model.specs.Values.Primitive.{Profile, Two}
use Rattle.mw_model.specs.Values.Definition.{Block, definitions, arity_table}
use Rattle.mw_model.specs.BuiltIns.BuiltIn.{built_in}
use Rattle.mw_model.specs.Events.Theory.{Theory, axioms_of, initial}
use Rattle.mw_model.specs.Events.Admission.{add_to_theory}
use Rattle.mw_model.specs.Events.Fate.{is_initial}
use Rattle.mw_commands.specs.Commands.Slice.{begins_with, names_added, sets_profile}
use Rattle.mw_commands.proofs.BlockNames.{NewBlock}

-- BeginsSecond: the second profile, which begins at its initial theory
pub data Change : Type 0 where
  Stays : Change
  AddsTheorem : Formula → Change
  AddsBlock : Block → Change
  BeginsSecond : Change

abbrev pub changed : Change → Theory → Theory
changed Stays t = t
changed (AddsTheorem F) t = record t { theorems = Pair (formula_object F) t.theorems }
changed (AddsBlock B) t = add_to_theory t B
changed BeginsSecond t = initial Two

-- the event makes this change at the theory
abbrev pub IsChange : Theory → Object → Change → Type 0
IsChange t e Stays = begins_with "VERIFY" e ≡ false
IsChange t e (AddsTheorem F) = (begins_with "VERIFY" e ≡ true) × (formula_object F ≡ third_of e)
IsChange t e (AddsBlock B) = (begins_with "VERIFY" e ≡ false) × NewBlock (arity_table t.definitions) (names_added e) B
IsChange t e BeginsSecond = (begins_with "VERIFY" e ≡ false) × (sets_profile 2 e ≡ true) × (is_initial t ≡ true)

-- ---- a theory that its blocks and its theorems determine

abbrev pub plain : Profile → List Block → Object → Theory
plain P D th = record { axioms = axioms_of P D; theorems = th; definitions = definitions P D; checker = None; level = 1 }

-- what a change makes of its parts
abbrev pub profile_after : Change → Profile → Profile
profile_after BeginsSecond P = Two
profile_after _ P = P

abbrev pub blocks_after : Change → List Block → List Block
blocks_after (AddsBlock B) D = B ∷ D
blocks_after BeginsSecond D = built_in Two
blocks_after _ D = D

abbrev pub theorems_after : Change → Object → Object
theorems_after (AddsTheorem F) th = Pair (formula_object F) th
theorems_after BeginsSecond th = NIL
theorems_after _ th = th

pub changed_plain : (c : Change) (P : Profile) (D : List Block) (th : Object) → changed c (plain P D th) ≡ plain (profile_after c P) (blocks_after c D) (theorems_after c th)
changed_plain Stays P D th = refl
changed_plain (AddsTheorem F) P D th = refl
changed_plain (AddsBlock B) P D th = refl
changed_plain BeginsSecond P D th = refl
