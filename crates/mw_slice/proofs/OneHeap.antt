-- One of several heaps changes.
use Rattle.std.proofs.Common.{◌≡◌, ℕ, zero, suc, ◌<◌, ◌≤◌, Bool, true, false, cond, eqb, List, [], ◌∷◌, ◌++◌, length, set, take, get_or, refl, sym, ap, ◌∙◌, subst, arith, eqb-true, ltb, ltb-true, ltb-false}
use Rattle.std.specs.Prelude.{Result, Ok, Err, OnErr}
use Rattle.std.proofs.lemmas.Bool.{eqb-false}
use Rattle.std.proofs.lemmas.List.{length-map, get_or-map, map-set, get_or-set_same, get_or-set_other, append-nil, length-append}
use Rattle.mw_model.specs.Terms.Object.{Object}
use Rattle.mw_heap.specs.Contents.{Contents}
use Rattle.mw_heap.specs.Objects.{object_at, IsIn, Grows}
use Rattle.mw_heap.proofs.Objects.{length-Grows}
use Rattle.mw_slice.proofs.Noted.{past_end}
use Rattle.mw_slice.specs.declared.added.Added.{Added}
use Rattle.mw_slice.specs.Heaps.{objects_each, heap_of, AllGrow, AllStay, IsNew, IsCut, object_in}

length-set : {X : Type 0} (xs : List X) (i : ℕ) (x : X) → length (set xs i x) ≡ length xs
length-set [] i x = refl
length-set (y ∷ xs) zero x = refl
length-set (y ∷ xs) (suc i) x = ap suc (length-set xs i x)

heap_at-place : (items : List Contents) (i : ℕ) (h : Contents) → i < length items → h ≡ get_or items i h → h.objects ≡ heap_of (objects_each items) i
heap_at-place items i h l is = ap (λ g. g.objects) is ∙ sym (get_or-map (λ (g : Contents). g.objects) items i h [] l)

module _ (items : List Contents) (i : ℕ) (h : Contents) (within : i < length items) where
  abbrev before : List (List Object)
  before = objects_each items

  abbrev after : List (List Object)
  after = objects_each (set items i h)

  is_set : after ≡ set before i h.objects
  is_set = map-set (λ (g : Contents). g.objects) items i h

  same_length : length after ≡ length before
  same_length = ap length is_set ∙ length-set before i h.objects

  within_before : i < length before
  within_before = let same = length-map items (λ (g : Contents). g.objects) in omega (arith, within, same)

  heap_at_it : heap_of after i ≡ h.objects
  heap_at_it = ap (λ l. heap_of l i) is_set ∙ get_or-set_same before i h.objects [] within_before

  each : (k : ℕ) (b : Bool) → eqb k i ≡ b → heap_of after k ≡ cond b h.objects (heap_of before k)
  each k true e = ap (heap_of after) (eqb-true k i e) ∙ heap_at_it
  each k false e = ap (λ l. heap_of l k) is_set ∙ get_or-set_other before i k h.objects [] (eqb-false k i e)

  grows_alone : Grows (heap_of before i) h.objects → AllGrow before after
  grows_alone g k l = (omega (arith, l, same_length), go (eqb k i) refl)
    where
      go : (b : Bool) → eqb k i ≡ b → Grows (heap_of before k) (heap_of after k)
      go true e = (g.0, each k true e ∙ (g.1 ∙ ap (λ j. heap_of before j ++ g.0) (sym (eqb-true k i e))))
      go false e = ([], each k false e ∙ sym (append-nil (heap_of before k)))

  stays_alone : h.objects ≡ heap_of before i → AllStay before after
  stays_alone same k l = (omega (arith, l, same_length), go (eqb k i) refl)
    where
      go : (b : Bool) → eqb k i ≡ b → heap_of after k ≡ heap_of before k
      go true e = each k true e ∙ (same ∙ ap (heap_of before) (sym (eqb-true k i e)))
      go false e = each k false e

  cut_alone : (to : ℕ) → h.objects ≡ take to (heap_of before i) → IsCut before after i to
  cut_alone to is = record { as_many = same_length; cut = λ k. go k (eqb k i) refl }
    where
      go : (k : ℕ) (b : Bool) → eqb k i ≡ b → heap_of after k ≡ cond b (take to (heap_of before k)) (heap_of before k)
      go k true e = each k true e ∙ (is ∙ ap (λ j. take to (heap_of before j)) (sym (eqb-true k i e)))
      go k false e = each k false e

  new_alone : (start event : ℕ) (os : List Object) → os ≡ heap_of before i → start ≡ length os → Grows os h.objects → IsIn h.objects event → IsNew before after (record { heap = i; start = start; event = event })
  new_alone start event os is e g inside =
      let longer = length-Grows os h.objects g in
      let here = ap length heap_at_it in
      let had = ap length is in
      record {
        placed = record {
          heap = omega (arith, within_before, same_length);
          within = omega (arith, inside, here);
          start = omega (arith, e, longer, here);
        };
        after = omega (arith, e, had);
      }

  object_alone : (start event : ℕ) (x : Object) → object_at h.objects event ≡ x → object_in after (record { heap = i; start = start; event = event }) ≡ x
  object_alone start event x is = ap (λ os. object_at os event) heap_at_it ∙ is

-- ---- the same as a clause sees it: hs are the heaps before, and h0 is what the one at i was

module _ (items : List Contents) (i : ℕ) (h0 h : Contents) (hs : List (List Object)) (view : objects_each items ≡ hs) (place : i < length hs) (value : h0 ≡ get_or items i h0) where
  within_items : i < length items
  within_items =
      let same = length-map items (λ (g : Contents). g.objects) in
      let seen = ap length view in
      omega (arith, place, same, seen)

  pub was_there : h0.objects ≡ heap_of hs i
  was_there = heap_at-place items i h0 within_items value ∙ ap (λ l. heap_of l i) view

  pub grows_at : Grows h0.objects h.objects → AllGrow hs (objects_each (set items i h))
  grows_at g = subst (λ l. AllGrow l (objects_each (set items i h))) view (grows_alone items i h within_items (subst (λ os. Grows os h.objects) (heap_at-place items i h0 within_items value) g))

  pub stays_at : h.objects ≡ h0.objects → AllStay hs (objects_each (set items i h))
  stays_at same = subst (λ l. AllStay l (objects_each (set items i h))) view (stays_alone items i h within_items (same ∙ heap_at-place items i h0 within_items value))

  pub cut_at : (to : ℕ) → h.objects ≡ take to h0.objects → IsCut hs (objects_each (set items i h)) i to
  cut_at to is = subst (λ l. IsCut l (objects_each (set items i h)) i to) view (cut_alone items i h within_items to (is ∙ ap (take to) (heap_at-place items i h0 within_items value)))

  pub new_at : (start event : ℕ) → start ≡ length h0.objects → Grows h0.objects h.objects → IsIn h.objects event → IsNew hs (objects_each (set items i h)) (record { heap = i; start = start; event = event })
  new_at start event e g inside =
      subst (λ l. IsNew l (objects_each (set items i h)) (record { heap = i; start = start; event = event })) view
      (new_alone items i h within_items start event h0.objects (heap_at-place items i h0 within_items value) e g inside)

  pub object_at-it : (start event : ℕ) (x : Object) → object_at h.objects event ≡ x → object_in (objects_each (set items i h)) (record { heap = i; start = start; event = event }) ≡ x
  object_at-it = object_alone items i h within_items

pub on_err : {T E P : Type 0} (r : Result T E) → P → OnErr r P
on_err (Ok x) p = tt
on_err (Err e) p = p

-- ---- one change after another

pub stay_grow : (old mid new : List (List Object)) → AllStay old mid → AllGrow mid new → AllGrow old new
stay_grow old mid new s g k l =
    let m = s k l in
    let n = g k m.0 in
    (n.0, (n.1.0, n.1.1 ∙ ap (λ os. os ++ n.1.0) m.1))

pub stay_stay : (old mid new : List (List Object)) → AllStay old mid → AllStay mid new → AllStay old new
stay_stay old mid new s t k l =
    let m = s k l in
    let n = t k m.0 in
    (n.0, n.1 ∙ m.1)

pub stays_grown : (old new : List (List Object)) → AllStay old new → AllGrow old new
stays_grown old new s k l = let m = s k l in (m.0, ([], m.1 ∙ sym (append-nil (heap_of old k))))

pub stay_new : (old mid new : List (List Object)) (a : Added) → AllStay old mid → IsNew mid new a → IsNew old new a
stay_new old mid new a s n = record { placed = n.placed; after = go (ltb a.heap (length old)) refl }
  where
    go : (b : Bool) → ltb a.heap (length old) ≡ b → length (heap_of old a.heap) ≤ a.start
    go true e =
        let same = ap length (s a.heap (ltb-true a.heap (length old) e)).1 in
        omega (arith, same, n.after)
    go false e =
        let none = ap length (past_end old a.heap [] (ltb-false a.heap (length old) e)) in
        omega (arith, none)

pub one_more : (hs : List Contents) (h : Contents) → AllStay (objects_each hs) (objects_each (hs ++ h ∷ []))
one_more hs h k l =
    let objects = λ (g : Contents). g.objects in
    (omega (arith, l, length-map hs objects, length-map (hs ++ h ∷ []) objects, length-append hs (h ∷ [])), same hs k (omega (arith, l, length-map hs objects)))
  where
    same : (hs : List Contents) (k : ℕ) → k < length hs → heap_of (objects_each (hs ++ h ∷ [])) k ≡ heap_of (objects_each hs) k
    same [] k m = absurd (omega arith)
    same (g ∷ hs) zero m = refl
    same (g ∷ hs) (suc k) m = same hs k (omega arith)

pub one_pushed : (items more : List Contents) (h : Contents) (hs : List (List Object)) → objects_each items ≡ hs → more ≡ items ++ h ∷ [] → AllStay hs (objects_each more)
one_pushed items more h hs view e = subst (λ l. AllStay l (objects_each more)) view (subst (λ l. AllStay (objects_each items) (objects_each l)) (sym e) (one_more items h))

pub none_pushed : (items more : List Contents) (hs : List (List Object)) → objects_each items ≡ hs → more ≡ items → AllStay hs (objects_each more)
none_pushed items more hs view e = subst (λ l. AllStay hs l) (sym view ∙ ap objects_each (sym e)) (λ k l. (l, refl))

pub some_pushed : (items more : List Contents) (h : Contents) → more ≡ items ++ h ∷ [] → 0 < length (objects_each more)
some_pushed items more h e = omega (arith, length-map more (λ (g : Contents). g.objects), ap length e, length-append items (h ∷ []))
