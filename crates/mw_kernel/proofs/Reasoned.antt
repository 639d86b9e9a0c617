-- The datum that says why an event is refused.
use Rattle.std.proofs.Common.{◌≡◌, ℕ, List, [], ◌∷◌, map, Option, Some, None, refl, ap}
use Rattle.mw_model.specs.Terms.Object.{Object, Natural, Symbol, Pair, symbol, name_of_bytes}
use Rattle.mw_model.specs.Events.Theory.{Theory}
use Rattle.mw_model.specs.Events.Refusal.{Refusal, RANGE, reason_of}
use Rattle.mw_model.specs.Events.Fate.{EventWord}
use Rattle.mw_heap.specs.Objects.{object_at}
use Rattle.mw_heap.specs.Lists.{list_object}
use Rattle.mw_commands.specs.Commands.Explanation.{shown, word_of, why}
use Rattle.mw_commands.specs.Commands.ExplanationSteps.{listed}

-- the list of what is shown
pub listed-is : (os : List Object) (xs : List ℕ) → list_object os xs ≡ listed (map (object_at os) xs)
listed-is os [] = refl
listed-is os (x ∷ xs) = ap (Pair (object_at os x)) (listed-is os xs)

-- the datum that says why, with what is shown
abbrev pub datum_with : ℕ → Refusal → List Object → Object
datum_with k r xs = Pair (symbol "WHY") (Pair (Natural k) (Pair (Symbol (name_of_bytes (reason_of r))) (listed xs)))

pub datum-why : (k : ℕ) (r : Refusal) (t : Theory) (N : ℕ) (e : Object) (xs : List Object) → xs ≡ shown r (word_of e) t N e → datum_with k r xs ≡ why k r t N e
datum-why k r t N e xs is = ap (datum_with k r) is

-- nothing is shown for a natural past the range
pub range-shown : (t : Theory) (N : ℕ) (e : Object) → [] ≡ shown RANGE (word_of e) t N e
range-shown t N e = go (word_of e)
  where
    go : (o : Option EventWord) → [] ≡ shown RANGE o t N e
    go None = refl
    go (Some w) = refl
