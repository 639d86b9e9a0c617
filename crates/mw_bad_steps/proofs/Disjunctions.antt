-- A disjunction with one member more in front.
use Rattle.std.proofs.Common.{◌≡◌, ℕ, ◌<◌, List, [], ◌∷◌, length, refl, arith}
use Rattle.mw_model.specs.Terms.Object.{Object}
use Rattle.mw_model.specs.Laws.Rules.{or_object}
use Rattle.mw_model.specs.Laws.RulesInduction.{disjunction_object}
use Rattle.mw_heap.specs.Objects.{object_at}
use Rattle.mw_heap.specs.Lists.{list_object}

pub disjunction-more : (os : List Object) (x : ℕ) (xs : List ℕ) → 0 < length xs → disjunction_object (list_object os (x ∷ xs)) ≡ or_object (object_at os x) (disjunction_object (list_object os xs))
disjunction-more os x [] l = absurd (omega (arith, l))
disjunction-more os x (y ∷ ys) l = refl
