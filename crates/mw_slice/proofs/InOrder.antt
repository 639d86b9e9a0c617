-- Events in heaps, each before the start of those that came later to the same heap: so a cut to the start of the last one keeps all others.
use Rattle.std.proofs.Common.{◌≡◌, ℕ, zero, suc, ◌<◌, ◌≤◌, Bool, true, false, cond, eqb, List, [], ◌∷◌, ◌++◌, length, take, get_or, refl, sym, ap, ap₂, ◌∙◌, subst, arith, eqb-true}
use Rattle.std.proofs.lemmas.List.{length-take-le}
use Rattle.mw_model.specs.Terms.Object.{Object}
use Rattle.mw_commands.specs.Commands.Slice.{event_at}
use Rattle.mw_heap.specs.Objects.{object_at, IsIn}
use Rattle.mw_heap.proofs.Objects.{length-Grows, IsIn-Grows, object_at-Grows, IsIn-take, object_at-take}
use Rattle.mw_slice.specs.declared.added.Added.{Added}
use Rattle.mw_slice.specs.Heaps.{heap_of, AllGrow, AllStay, IsPlaced, IsNew, IsCut, object_in, Precedes, PrecedesEach, AreInOrder}
use Rattle.mw_slice.specs.Events.{AreIn, objects_of}
use Rattle.mw_slice.specs.Slices.{heap_at, events_of, places_of}

-- ---- the heaps grow

module _ (old new : List (List Object)) (grow : AllGrow old new) where
  placed_grows : (a : Added) → IsPlaced old a → IsPlaced new a
  placed_grows a p =
      let g = grow a.heap p.heap in
      record {
        heap = g.0;
        within = IsIn-Grows (heap_of old a.heap) (heap_of new a.heap) g.1 a.event p.within;
        start = (let l = length-Grows (heap_of old a.heap) (heap_of new a.heap) g.1 in omega (arith, p.start, l));
      }

  pub order_grows : (added : List Added) → AreInOrder old added → AreInOrder new added
  order_grows [] h = tt
  order_grows (a ∷ added) h = (placed_grows a h.0, h.1, order_grows added h.2)

  pub events_grow : (added : List Added) → AreInOrder old added → objects_of new added ≡ objects_of old added
  events_grow [] h = refl
  events_grow (a ∷ added) h =
      let g = grow a.heap h.0.heap in
      ap₂ (λ x l. x ∷ l) (object_at-Grows (heap_of old a.heap) (heap_of new a.heap) g.1 a.event h.0.within) (events_grow added h.2)

  -- ---- one event more

  module _ (b : Added) (is_new : IsNew old new b) where
    precedes_new : (a : Added) → IsPlaced old a → Precedes a b
    precedes_new a p same =
        let after : length (heap_of old a.heap) ≤ b.start = subst (λ k. length (heap_of old k) ≤ b.start) (sym same) is_new.after in
        (omega (arith, p.within, after), omega (arith, p.start, after))

    precedes_push : (a : Added) (later : List Added) → IsPlaced old a → PrecedesEach a later → PrecedesEach a (later ++ b ∷ [])
    precedes_push a [] p h = (precedes_new a p, tt)
    precedes_push a (c ∷ later) p h = (h.0, precedes_push a later p h.1)

    pub order_push : (added : List Added) → AreInOrder old added → AreInOrder new (added ++ b ∷ [])
    order_push [] h = (is_new.placed, tt, tt)
    order_push (a ∷ added) h = (placed_grows a h.0, precedes_push a added h.0 h.1, order_push added h.2)

pub objects_of-push : (hs : List (List Object)) (added : List Added) (a : Added) → objects_of hs (added ++ a ∷ []) ≡ objects_of hs added ++ object_in hs a ∷ []
objects_of-push hs [] a = refl
objects_of-push hs (b ∷ added) a = ap (λ l. object_in hs b ∷ l) (objects_of-push hs added a)

-- ---- the last event goes

fronts_same : {X : Type 0} (xs ys : List X) (x y : X) → xs ++ x ∷ [] ≡ ys ++ y ∷ [] → xs ≡ ys
fronts_same [] [] x y e = refl
fronts_same [] (b ∷ []) x y e = cc
fronts_same [] (b ∷ (c ∷ ys)) x y e = cc
fronts_same (a ∷ []) [] x y e = cc
fronts_same (a ∷ (c ∷ xs)) [] x y e = cc
fronts_same (a ∷ xs) (b ∷ ys) x y e =
    let heads : a ≡ b = cc in
    let tails : xs ++ x ∷ [] ≡ ys ++ y ∷ [] = cc in
    ap₂ (λ h t. h ∷ t) heads (fronts_same xs ys x y tails)

pub last_placed : (hs : List (List Object)) (rest : List Added) (a : Added) → AreInOrder hs (rest ++ a ∷ []) → IsPlaced hs a
last_placed hs [] a h = h.0
last_placed hs (b ∷ rest) a h = last_placed hs rest a h.2

last_preceded : (b : Added) (rest : List Added) (a : Added) → PrecedesEach b (rest ++ a ∷ []) → PrecedesEach b rest × Precedes b a
last_preceded b [] a h = (tt, h.0)
last_preceded b (c ∷ rest) a h = let k = last_preceded b rest a h.1 in ((h.0, k.0), k.1)

module _ (hs new : List (List Object)) (a : Added) (cut : IsCut hs new a.heap a.start) (a_placed : IsPlaced hs a) where
  -- an event before the last one stays where it is
  module _ (b : Added) (placed : IsPlaced hs b) (before : Precedes b a) where
    stays : (t : Bool) → eqb b.heap a.heap ≡ t → IsPlaced new b × (object_in new b ≡ object_in hs b)
    stays true e =
        let same = eqb-true b.heap a.heap e in
        let os = heap_of hs b.heap in
        let is : heap_of new b.heap ≡ take a.start os = cut.cut b.heap ∙ ap (λ t. cond t (take a.start os) os) e in
        let early = before same in
        let some : a.start ≤ length os = subst (λ k. a.start ≤ length (heap_of hs k)) (sym same) a_placed.start in (
          record {
            heap = subst (λ n. b.heap < n) (sym cut.as_many) placed.heap;
            within = subst (λ l. IsIn l b.event) (sym is) (IsIn-take a.start os b.event early.0 some);
            start = subst (λ l. b.start ≤ length l) (sym is) (let l = length-take-le a.start os some in omega (arith, l, early.1));
          },
          ap (λ l. object_at l b.event) is ∙ object_at-take a.start os b.event early.0,
        )
    stays false e =
        let os = heap_of hs b.heap in
        let is : heap_of new b.heap ≡ os = cut.cut b.heap ∙ ap (λ t. cond t (take a.start os) os) e in (
          record {
            heap = subst (λ n. b.heap < n) (sym cut.as_many) placed.heap;
            within = subst (λ l. IsIn l b.event) (sym is) placed.within;
            start = subst (λ l. b.start ≤ length l) (sym is) placed.start;
          },
          ap (λ l. object_at l b.event) is,
        )

  pub order_cut : (rest : List Added) → AreInOrder hs (rest ++ a ∷ []) → AreInOrder new rest
  order_cut [] h = tt
  order_cut (b ∷ rest) h = let k = last_preceded b rest a h.1 in ((stays b h.0 k.1 (eqb b.heap a.heap) refl).0, k.0, order_cut rest h.2)

  events_same : (rest : List Added) → AreInOrder hs (rest ++ a ∷ []) → objects_of new rest ≡ objects_of hs rest
  events_same [] h = refl
  events_same (b ∷ rest) h = ap₂ (λ x l. x ∷ l) (stays b h.0 (last_preceded b rest a h.1).1 (eqb b.heap a.heap) refl).1 (events_same rest h.2)

  pub events_cut : (rest : List Added) → AreInOrder hs (rest ++ a ∷ []) → (es : List Object) (e : Object) → objects_of hs (rest ++ a ∷ []) ≡ es ++ e ∷ [] → objects_of new rest ≡ es
  events_cut rest h es e same = events_same rest h ∙ fronts_same (objects_of hs rest) es (object_in hs a) e (sym (objects_of-push hs rest a) ∙ same)

-- ---- no heap changes

pub heaps_stay : (old new : List (List Object)) → AllStay old new → (added : List Added) → AreInOrder old added → (j : ℕ) → j < length (places_of added) → heap_at (record { heaps = new; events = places_of added }) j ≡ heap_at (record { heaps = old; events = places_of added }) j
heaps_stay old new stay [] h j l = absurd (omega arith)
heaps_stay old new stay (a ∷ added) h zero l = (stay a.heap h.0.heap).1
heaps_stay old new stay (a ∷ added) h (suc j) l = heaps_stay old new stay added h.2 j (omega arith)

-- ---- each event by its place

pub each_placed : (hs : List (List Object)) (added : List Added) → AreInOrder hs added → (i : ℕ) (d : Added) → i < length added → IsPlaced hs (get_or added i d)
each_placed hs [] h i d l = absurd (omega arith)
each_placed hs (a ∷ added) h zero d l = h.0
each_placed hs (a ∷ added) h (suc i) d l = each_placed hs added h.2 i d (omega arith)

pub are_in : (hs : List (List Object)) (added : List Added) → AreInOrder hs added → AreIn hs added
are_in hs added h i d l = each_placed hs added h i d l

-- the events as clauses see them
pub events_of-added : (hs : List (List Object)) (added : List Added) → events_of (record { heaps = hs; events = places_of added }) ≡ objects_of hs added
events_of-added hs [] = refl
events_of-added hs (a ∷ added) = ap (λ l. object_in hs a ∷ l) (events_of-added hs added)

pub event_at-added : (hs : List (List Object)) (added : List Added) (i : ℕ) (d : Added) → i < length added → object_in hs (get_or added i d) ≡ event_at (objects_of hs added) i
event_at-added hs [] i d h = absurd (omega arith)
event_at-added hs (a ∷ added) zero d h = refl
event_at-added hs (a ∷ added) (suc i) d h = event_at-added hs added i d (omega arith)

pub heap_at-added : (hs : List (List Object)) (added : List Added) (i : ℕ) (d : Added) → i < length added → heap_at (record { heaps = hs; events = places_of added }) i ≡ heap_of hs (get_or added i d).heap
heap_at-added hs [] i d h = absurd (omega arith)
heap_at-added hs (a ∷ added) zero d h = refl
heap_at-added hs (a ∷ added) (suc i) d h = heap_at-added hs added i d (omega arith)

pub length-events : (hs : List (List Object)) (added : List Added) → length (events_of (record { heaps = hs; events = places_of added })) ≡ length added
length-events hs [] = refl
length-events hs (a ∷ added) = ap suc (length-events hs added)
