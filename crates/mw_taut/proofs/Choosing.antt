-- A choice is listed from its end.
use Rattle.std.proofs.Common.{◌≡◌, ℕ, zero, suc, ◌≤◌, arith, Bool, List, [], ◌∷◌, map, drop, length, get_or, slice_get, refl, sym, ap, ap₂, ◌∙◌}
use Rattle.mw_model.specs.Terms.Object.{Object, Pair, NIL, truth_of}
use Rattle.mw_heap.specs.Objects.{object_at, IsIn, Grows}
use Rattle.mw_heap.proofs.Objects.{object_at-Grows, Grows-trans}
use Rattle.mw_taut.specs.Cases.{choice_list, is_true}
use Rattle.mw_taut.proofs.Elements.{dropped, all_dropped}

-- the pair of the first equation, of those from k on
first_listed : (e : Object) (es : List Object) (bs : List Bool) (k : ℕ) →
    choice_list (e ∷ es) (drop k bs) ≡ Pair (Pair e (truth_of (is_true (slice_get bs k)))) (choice_list es (drop (suc k) bs))
first_listed e es [] zero = refl
first_listed e es [] (suc k) = refl
first_listed e es (b ∷ bs) zero = refl
first_listed e es (b ∷ bs) (suc k) = first_listed e es bs k

module _ (start : List Object) (equations : List ℕ) (chosen : List Bool) where
  abbrev listed_from : ℕ → Object
  listed_from k = choice_list (map (object_at start) (drop k equations)) (drop k chosen)

  pub record IsChoosing (os : List Object) (list k : ℕ) : Type 0 where
    pub grows : Grows start os
    pub within : IsIn os list
    pub few : k ≤ length equations
    pub made : object_at os list ≡ listed_from k

  pub choosing-starts : (os : List Object) (list k : ℕ) → Grows start os → IsIn os list → object_at os list ≡ NIL → k ≡ length equations → IsChoosing os list k
  choosing-starts os list k grows within made m = record {
    grows = grows;
    within = within;
    few = omega (arith, m);
    made = made ∙ sym (ap (λ rest. choice_list (map (object_at start) rest) (drop k chosen)) (all_dropped equations k (omega (arith, m))));
  }

  pub choosing-more : (os new : List Object) (list next k e : ℕ) (value : Bool) → IsChoosing os list (suc k) → Grows os new → IsIn new next → IsIn start e → e ≡ get_or equations k e → value ≡ is_true (slice_get chosen k) →
      object_at new next ≡ Pair (Pair (object_at os e) (truth_of value)) (object_at os list) → IsChoosing new next k
  choosing-more os new list next k e value h grows within in_e is_e is_value made =
      let E = object_at start e in
      let split : listed_from k ≡ Pair (Pair E (truth_of (is_true (slice_get chosen k)))) (listed_from (suc k)) =
      ap (λ x. choice_list (map (object_at start) x) (drop k chosen)) (dropped equations k e (omega (arith, h.few)) is_e)
      ∙ first_listed E (map (object_at start) (drop (suc k) equations)) chosen k in
      record {
        grows = Grows-trans start os new h.grows grows;
        within = within;
        few = omega (arith, h.few);
        made =
            made
            ∙ (ap (λ v. Pair (Pair (object_at os e) (truth_of v)) (object_at os list)) is_value
            ∙ (ap₂ (λ x y. Pair (Pair x (truth_of (is_true (slice_get chosen k)))) y) (object_at-Grows start os h.grows e in_e) h.made ∙ sym split));
      }
