-- What a path of open proofs says of the proof that it begins with.
use Rattle.std.proofs.Common.{◌≡◌, ℕ, suc, nat_eq, Bool, true, List, [], ◌∷◌}
use Rattle.std.specs.Option.{option_or}
use Rattle.std.specs.List.{list_any}
use Rattle.mw_model.specs.Terms.Object.{Object, third_of}
use Rattle.mw_heap.specs.Objects.{object_at}
use Rattle.mw_heap.specs.Parts.{part_at}
use Rattle.mw_proof.specs.Judging.{Basis, is_proof_on}
use Rattle.mw_commands.specs.Commands.ExplanationSteps.{in_subproof, first_bad, first_bad_among}
use Rattle.mw_bad_steps.specs.declared.bad_step.Open.{Open}
use Rattle.mw_bad_steps.specs.BadStep.{IsOpen}

-- what is left to look at in w, where its subproofs before those that are left were good, but for the one that is open after it
abbrev pub Reaches : (Object → Bool) → List Object → Open → List Open → Type 0
Reaches good os w [] = first_bad_among good 1 (third_of (object_at os w.proof)) ≡ first_bad_among good (suc w.number) (part_at os w.left)
Reaches good os w (v ∷ vs) =
    first_bad_among good 1 (third_of (object_at os w.proof)) ≡ option_or (in_subproof w.number (first_bad good (object_at os v.proof))) (first_bad_among good (suc w.number) (part_at os w.left))

abbrev pub Walks : (Object → Bool) → List Object → List Open → Type 0
Walks good os [] = Unit {0}
Walks good os (w ∷ ws) = Reaches good os w ws × Walks good os ws

-- the first that is open is the proof; where none is, it was good
abbrev pub Begins : (Object → Bool) → List Object → ℕ → List Open → Type 0
Begins good os root [] = good (object_at os root) ≡ true
Begins good os root (w ∷ ws) = w.proof ≡ root

pub record IsLooking (b : Basis) (os : List Object) (root : ℕ) (good : List ℕ) (path : List Open) : Type 0 where
  pub known : (q : ℕ) → list_any (nat_eq q) good ≡ true → is_proof_on b (object_at os q) ≡ true
  pub walks : Walks (is_proof_on b) os path
  pub begins : Begins (is_proof_on b) os root path

abbrev pub EachOpen : List Object → List Open → Type 0
EachOpen os [] = Unit {0}
EachOpen os (w ∷ ws) = IsOpen os w × EachOpen os ws
