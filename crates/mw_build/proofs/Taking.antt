-- The newest of a stack are the last of its references, and the others stay.
use Rattle.std.proofs.Common.{◌≡◌, ℕ, ◌-◌, List, [], ◌∷◌, ◌++◌, map, length, take, drop, refl, sym, ap, ap₂, ◌∙◌}
use Rattle.std.specs.Prelude.{reverse}
use Rattle.std.proofs.lemmas.List.{length-drop, length-map, length-reverse, take-append-drop, take-map, drop-map, reverse-append, reverse-reverse}
use Rattle.std.proofs.lemmas.List.Elements.{All-take}
use Rattle.std.proofs.Math.Seq.{take-append_seam, drop-append_seam}
use Rattle.mw_model.specs.Terms.Object.{Object, Pair}
use Rattle.mw_heap.specs.Objects.{object_at, IsIn, Grows}
use Rattle.mw_heap.specs.Lists.{list_object}
use Rattle.mw_build.specs.declared.piece.Piece.{Piece}
use Rattle.mw_build.specs.Pieces.{Made, list_of, taken_by, object_of, step}
use Rattle.mw_build.specs.Stacks.{stack_of, AreIn}
use Rattle.mw_build.proofs.OnStack.{stack_of-put}

pub list_object-is : (os : List Object) (refs : List ℕ) → list_object os refs ≡ list_of (map (object_at os) refs)
list_object-is os [] = refl
list_object-is os (r ∷ refs) = ap (Pair (object_at os r)) (list_object-is os refs)

module _ (ys : List Object) (n : ℕ) where
  older_length : length ys - n ≡ length (reverse (drop n ys))
  older_length = sym (length-reverse (drop n ys) ∙ length-drop n ys)

  in_two : reverse ys ≡ reverse (drop n ys) ++ reverse (take n ys)
  in_two = ap reverse (sym (take-append-drop n ys)) ∙ reverse-append (take n ys) (drop n ys)

  drop-reverse : drop (length ys - n) (reverse ys) ≡ reverse (take n ys)
  drop-reverse = ap₂ drop older_length in_two ∙ drop-append_seam (reverse (drop n ys)) (reverse (take n ys))

  take-reverse : take (length ys - n) (reverse ys) ≡ reverse (drop n ys)
  take-reverse = ap₂ take older_length in_two ∙ take-append_seam (reverse (drop n ys)) (reverse (take n ys))

module _ (os : List Object) (refs : List ℕ) (n : ℕ) where
  as_many : length refs - n ≡ length (stack_of os refs) - n
  as_many = ap (λ m. m - n) (sym (length-reverse (map (object_at os) refs) ∙ length-map refs (object_at os)))

  back : map (object_at os) refs ≡ reverse (stack_of os refs)
  back = sym (reverse-reverse (map (object_at os) refs))

  pub newest_of : map (object_at os) (drop (length refs - n) refs) ≡ reverse (take n (stack_of os refs))
  newest_of = sym (drop-map (object_at os) (length refs - n) refs) ∙ (ap₂ drop as_many back ∙ drop-reverse (stack_of os refs) n)

  pub older_than : stack_of os (take (length refs - n) refs) ≡ drop n (stack_of os refs)
  older_than =
      ap reverse (sym (take-map (object_at os) (length refs - n) refs) ∙ (ap₂ take as_many back ∙ take-reverse (stack_of os refs) n))
      ∙ reverse-reverse (drop n (stack_of os refs))

-- what a piece makes stands on the stack in the place of what it takes
pub one_step : (made : Made) (given : List Object) (p : Piece) (os new : List Object) (refs parts after : List ℕ) (k r : ℕ) → k ≡ length refs - taken_by p → parts ≡ drop k refs → AreIn os refs → Grows os new → object_at new r ≡ object_of made given (map (object_at os) parts) p → after ≡ take k refs ++ r ∷ [] → stack_of new after ≡ step made given (stack_of os refs) p
one_step made given p os new refs parts after k r left are all grows is items =
    let n = taken_by p in
    let older = take (length refs - n) refs in
    let taken = ap (map (object_at os)) (are ∙ ap (λ m. drop m refs) left) ∙ newest_of os refs n in
    ap (stack_of new) (items ∙ ap (λ m. take m refs ++ r ∷ []) left)
    ∙ (stack_of-put os new older r _ (All-take (IsIn os) (length refs - n) refs all) grows (is ∙ ap (λ xs. object_of made given xs p) taken)
    ∙ ap (λ rest. object_of made given (reverse (take n (stack_of os refs))) p ∷ rest) (older_than os refs n))
