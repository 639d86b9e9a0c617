-- A walk over proofs and lists of proofs: what is complete, and the items that are still to be done, the next one last.
use Rattle.std.specs.Prelude.{◌≡◌, ℕ, ◌<◌, nat_eq, true, false, List, [], ◌∷◌, ◌++◌, map, All, Option, Some, None, IfSome, ◌⊎◌, Bool}
use Rattle.std.specs.List.{list_any}
use Rattle.indexmap.specs.IndexSet.{insert_key}
use Rattle.mw_model.specs.Terms.Object.{Object, Pair, same_object, third_of}
use Rattle.mw_model.specs.Values.Primitive.{is_pair}
use Rattle.mw_commands.specs.Commands.Subproofs.{proofs_within, each_within}
use Rattle.mw_heap.specs.Objects.{object_at, IsIn}
use Rattle.mw_heap.specs.Parts.{part_at, IsPart}
use Rattle.mw_flat.specs.declared.item.Item.{Item}
use Rattle.mw_flat.specs.declared.item.Item.TheVariants.{Proof, Proofs, Complete, AllComplete}

abbrev pub is_listed : Object → List Object → Bool
is_listed x xs = list_any (same_object x) xs

-- each of ys is one of xs
abbrev pub AreListed : List Object → List Object → Type 0
AreListed xs ys = (z : Object) → is_listed z ys ≡ true → is_listed z xs ≡ true

-- among the complete proofs is each that one of them is made of, and each that the proofs of these lists are made of
pub record AreComplete (os : List Object) (complete lists : List ℕ) : Type 0 where
  pub within : All (IsIn os) complete
  pub lists_within : All (IsIn os) lists
  pub made : (x : Object) → is_listed x (map (object_at os) complete) ≡ true → AreListed (map (object_at os) complete) (proofs_within x)
  pub each : (x : Object) → is_listed x (map (object_at os) lists) ≡ true → AreListed (map (object_at os) complete) (each_within x)

abbrev pub IsItem : List Object → Item → Type 0
IsItem os (Proof x) = IsIn os x
IsItem os (Proofs x) = IsIn os x
IsItem os (Complete x) = IsIn os x
IsItem os (AllComplete x) = IsIn os x

abbrev pub subproofs_met : Option ℕ → List Item
subproofs_met None = []
subproofs_met (Some list) = Proofs list ∷ []

-- the proof x is complete, or will be once its subproofs are
abbrev pub MeetsProof : List Object → ℕ → List ℕ → List Item → List Item → Type 0
MeetsProof os x complete old new =
    ((list_any (nat_eq x) complete ≡ true) × (new ≡ old))
    ⊎ ((list_any (nat_eq x) complete ≡ false) × (list : Option ℕ) × IsPart os list × (part_at os list ≡ third_of (object_at os x)) × IfSome list (λ r. r < x) × (new ≡ old ++ Complete x ∷ subproofs_met list))

-- the list x has no proofs, or all of them are complete, or will be once the first and then the others are
abbrev pub MeetsProofs : List Object → ℕ → List ℕ → List Item → List Item → Type 0
MeetsProofs os x lists old new =
    ((is_pair (object_at os x) ≡ false) × (new ≡ old))
    ⊎ ((list_any (nat_eq x) lists ≡ true) × (new ≡ old))
    ⊎ ((list_any (nat_eq x) lists ≡ false) × (a d : ℕ) × IsIn os a × IsIn os d × (a < x) × (d < x) × (object_at os x ≡ Pair (object_at os a) (object_at os d)) × (new ≡ old ++ AllComplete x ∷ Proofs d ∷ Proof a ∷ []))

abbrev pub Advances : List Object → Item → List ℕ → List ℕ → List ℕ → List ℕ → List Item → List Item → Type 0
Advances os (Proof x) complete new_complete lists new_lists old new = MeetsProof os x complete old new × (new_complete ≡ complete) × (new_lists ≡ lists)
Advances os (Proofs x) complete new_complete lists new_lists old new = MeetsProofs os x lists old new × (new_complete ≡ complete) × (new_lists ≡ lists)
Advances os (Complete x) complete new_complete lists new_lists old new = (new ≡ old) × (new_complete ≡ insert_key nat_eq complete x) × (new_lists ≡ lists)
Advances os (AllComplete x) complete new_complete lists new_lists old new = (new ≡ old) × (new_complete ≡ complete) × (new_lists ≡ insert_key nat_eq lists x)
