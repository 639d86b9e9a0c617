-- The objects of a stack as its heap grows, and as a reference is put on it or taken from it.
use Rattle.std.proofs.Common.{◌≡◌, ℕ, suc, ◌<◌, suc-le-suc, arith, List, [], ◌∷◌, ◌++◌, length, refl, sym, ap, ap₂, ◌∙◌, subst, zero, length-append}
use Rattle.std.specs.Prelude.{slice_index_or}
use Rattle.std.proofs.Math.Seq.{get_or-append_seam}
use Rattle.std.specs.Prelude.{map, reverse}
use Rattle.std.proofs.lemmas.List.{get_or_append_left, reverse-append, reverse-reverse, map-append}
use Rattle.std.proofs.lemmas.List.Elements.{All-append}
use Rattle.mw_model.specs.Terms.Object.{Object}
use Rattle.mw_heap.specs.Objects.{object_at, IsIn, Grows}
use Rattle.mw_heap.proofs.Objects.{IsIn-Grows, object_at-Grows}
use Rattle.mw_build.specs.Stacks.{stack_of, AreIn}

pub AreIn-grows : (old new : List Object) (refs : List ℕ) → Grows old new → AreIn old refs → AreIn new refs
AreIn-grows old new refs g h = λ k d l. IsIn-Grows old new g _ (h k d l)

pub map-grows : (old new : List Object) (refs : List ℕ) → Grows old new → AreIn old refs → map (object_at new) refs ≡ map (object_at old) refs
map-grows old new [] g h = refl
map-grows old new (r ∷ refs) g h =
    let tail : AreIn old refs = λ k d l. h (suc k) d (suc-le-suc l) in
    let here : IsIn old r = h 0 0 (omega arith) in
    ap₂ ◌∷◌ (object_at-Grows old new g r here) (map-grows old new refs g tail)

pub stack_of-grows : (old new : List Object) (refs : List ℕ) → Grows old new → AreIn old refs → stack_of new refs ≡ stack_of old refs
stack_of-grows old new refs g h = ap reverse (map-grows old new refs g h)

pub stack_of-push : (os : List Object) (refs : List ℕ) (r : ℕ) → stack_of os (refs ++ r ∷ []) ≡ object_at os r ∷ stack_of os refs
stack_of-push os refs r = ap reverse (map-append (object_at os) refs (r ∷ [])) ∙ reverse-append (map (object_at os) refs) (object_at os r ∷ [])

-- the oldest first
pub map-stack_of : (os : List Object) (refs : List ℕ) → map (object_at os) refs ≡ reverse (stack_of os refs)
map-stack_of os refs = sym (reverse-reverse (map (object_at os) refs))

pub AreIn-push : (os : List Object) (refs : List ℕ) (r : ℕ) → AreIn os refs → IsIn os r → AreIn os (refs ++ r ∷ [])
AreIn-push os refs r h i = All-append (IsIn os) refs (r ∷ []) h (λ k d l. one k d l)
  where
    one : (k d : ℕ) → k < length (r ∷ []) → IsIn os (slice_index_or (r ∷ []) k d)
    one zero d l = i
    one (suc k) d l = absurd (omega (arith, l))

-- what stands before the newest one
pub AreIn-front : (os : List Object) (refs : List ℕ) (r : ℕ) → AreIn os (refs ++ r ∷ []) → AreIn os refs
AreIn-front os refs r h = λ k d l. subst (IsIn os) (get_or_append_left refs (r ∷ []) d k l) (h k d (omega (arith, l, length-append refs (r ∷ []))))

pub IsIn-newest : (os : List Object) (refs : List ℕ) (r : ℕ) → AreIn os (refs ++ r ∷ []) → IsIn os r
IsIn-newest os refs r h = subst (IsIn os) (get_or-append_seam refs r [] 0) (h (length refs) 0 (omega (arith, length-append refs (r ∷ []))))

-- what is put on it in a heap that grew
pub stack_of-put : (old new : List Object) (refs : List ℕ) (r : ℕ) (x : Object) → AreIn old refs → Grows old new → object_at new r ≡ x → stack_of new (refs ++ r ∷ []) ≡ x ∷ stack_of old refs
stack_of-put old new refs r x h g e = stack_of-push new refs r ∙ ap₂ ◌∷◌ e (stack_of-grows old new refs g h)
