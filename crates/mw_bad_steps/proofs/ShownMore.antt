-- What is shown in a heap that grows, and as one more is shown.
use Rattle.std.proofs.Common.{◌≡◌, ℕ, List, [], ◌∷◌, ◌++◌, map, All, refl, ap, ap₂, ◌∙◌}
use Rattle.std.proofs.lemmas.List.{map-append}
use Rattle.std.proofs.lemmas.List.Elements.{All-weaker, All-push, All-nil, All-head, All-tail}
use Rattle.mw_model.specs.Terms.Object.{Object, Pair}
use Rattle.mw_heap.specs.Objects.{object_at, IsIn, Grows}
use Rattle.mw_heap.specs.Lists.{list_object}
use Rattle.mw_heap.proofs.Objects.{IsIn-Grows, object_at-Grows}
use Rattle.mw_bad_steps.specs.Shown.{Shows}
use Rattle.mw_commands.specs.Commands.ExplanationSteps.{listed}

pub Shows-grows : (old new : List Object) (refs : List ℕ) (xs : List Object) → Grows old new → Shows old refs xs → Shows new refs xs
Shows-grows old new refs xs g h = (All-weaker (IsIn old) (IsIn new) (IsIn-Grows old new g) refs h.0, go refs h.0 ∙ h.1)
  where
    go : (rs : List ℕ) → All (IsIn old) rs → map (object_at new) rs ≡ map (object_at old) rs
    go [] k = refl
    go (r ∷ rs) k = ap₂ ◌∷◌ (object_at-Grows old new g r (All-head (IsIn old) r rs k)) (go rs (All-tail (IsIn old) r rs k))

pub Shows-none : (os : List Object) → Shows os [] []
Shows-none os = (All-nil (IsIn os), refl)

pub Shows-push : (os : List Object) (refs : List ℕ) (xs : List Object) (r : ℕ) (x : Object) → Shows os refs xs → IsIn os r → object_at os r ≡ x → Shows os (refs ++ r ∷ []) (xs ++ x ∷ [])
Shows-push os refs xs r x h i e = (All-push (IsIn os) refs r h.0 i, map-append (object_at os) refs (r ∷ []) ∙ ap₂ (λ ys y. ys ++ y ∷ []) h.1 e)

pub list_object-listed : (os : List Object) (refs : List ℕ) (xs : List Object) → map (object_at os) refs ≡ xs → list_object os refs ≡ listed xs
list_object-listed os refs xs e = go refs ∙ ap (λ ys. listed ys) e
  where
    go : (rs : List ℕ) → list_object os rs ≡ listed (map (object_at os) rs)
    go [] = refl
    go (r ∷ rs) = ap (Pair (object_at os r)) (go rs)
