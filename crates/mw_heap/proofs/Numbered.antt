-- A large natural and a name stand in a set of their own beside their cell, and both are new or both are there.
use Rattle.std.proofs.Common.{◌≡◌, ℕ, ◌<◌, ◌≤◌, ◌^◌, Bool, true, Some, List, [], ◌∷◌, ◌++◌, length, take, slice_get, refl, sym, ap, ◌∙◌, subst, arith, ◌⊎◌, inl, inr, length-append}
use Rattle.std.proofs.lemmas.List.{append-nil}
use Rattle.std.proofs.lemmas.Option.{slice_get_within, get_or_from_slice_get}
use Rattle.mw_model.specs.Terms.Object.{Natural, Symbol, is_name, name_of_bytes}
use Rattle.mw_heap.specs.declared.store.cell.Cell.{Cell}
use Rattle.mw_heap.specs.declared.store.cell.Cell.TheVariants.{Small, Large, Symbol as Named, Pair as Parts}
use Rattle.mw_heap.specs.Objects.{Grows}
use Rattle.mw_heap.specs.Cells.{count_of, is_large, is_named, natural_count, name_count, MayFollow, object, objects, IsInjective, AreCells, AreNaturals, AreNames, IsSound}
use Rattle.mw_heap.specs.Inserted.{Inserts}
use Rattle.mw_heap.proofs.Lists.{slice_get-append, slice_get-seam, slice_get-push}
use Rattle.mw_heap.proofs.Counts.{count_of-append, count_of-take-lt, nth_of_kind}
use Rattle.mw_heap.proofs.Growth.{objects_after-push, objects-more}
use Rattle.mw_heap.proofs.Sound.{AreCells-push, BecomesWith, Adds-cell, stays}

-- a kind of cell whose cells are numbered in order
module _ (test : Cell → Bool) (make : ℕ → Cell) (of_kind : (i : ℕ) → test (make i) ≡ true)
    (numbered : (older : List Cell) (c : Cell) → test c ≡ true → MayFollow older c → c ≡ make (count_of test older))
    (number : (older : List Cell) (i : ℕ) → MayFollow older (make i) → i ≡ count_of test older) where
  -- the cell of a number that is given out is there
  pub stays_where : (old new : List Cell) (i r : ℕ) → AreCells old → IsInjective new → Inserts old new (make i) r → i < count_of test old → new ≡ old
  stays_where old new i r are distinct inserts less = go inserts.change
    where
      at : (p : ℕ) × (slice_get old p ≡ Some (make i))
      at =
          let s = nth_of_kind test old i less in
          (s.0, s.2 ∙ ap Some (numbered (take s.0 old) s.1 s.3 (are.in_order s.0 s.1 s.2) ∙ ap make s.4))

      go : (new ≡ old) ⊎ (new ≡ old ++ make i ∷ []) → new ≡ old
      go (inl e) = e
      go (inr e) =
          let same = subst IsInjective e distinct in
          let within : at.0 < length old = slice_get_within old at.0 (make i) at.1 in
          let twice : at.0 ≡ length old = same at.0 (length old) (omega (arith, length-append old (make i ∷ []), within)) (slice_get-append old (make i ∷ []) at.0 within ∙ (at.1 ∙ sym (slice_get-seam old [] (make i)))) in
          absurd (omega (arith, within, twice))

  -- that of the next number is not
  pub goes_last : (old new : List Cell) (i r : ℕ) → AreCells old → Inserts old new (make i) r → i ≡ count_of test old → new ≡ old ++ make i ∷ []
  goes_last old new i r are inserts next = go inserts.change
    where
      go : (new ≡ old) ⊎ (new ≡ old ++ make i ∷ []) → new ≡ old ++ make i ∷ []
      go (inl e) =
          let at : slice_get old r ≡ Some (make i) = ap (λ l. slice_get l r) (sym e) ∙ inserts.stands in
          let less = count_of-take-lt test old r (make i) at (of_kind i) in
          absurd (omega (arith, less, number (take r old) i (are.in_order r (make i) at), next))
      go (inr e) = e

large_numbered : (older : List Cell) (c : Cell) → is_large c ≡ true → MayFollow older c → c ≡ Large (natural_count older)
large_numbered older (Small n) k f = cc
large_numbered older (Large i) k f = ap Large f
large_numbered older (Named i) k f = cc
large_numbered older (Parts a b) k f = cc

named_numbered : (older : List Cell) (c : Cell) → is_named c ≡ true → MayFollow older c → c ≡ Named (name_count older)
named_numbered older (Small n) k f = cc
named_numbered older (Large i) k f = cc
named_numbered older (Named i) k f = ap Named f
named_numbered older (Parts a b) k f = cc

-- a large natural that was inserted, and then its cell
module _ (ns ms : List ℕ) (ss : List (List ℕ)) (old new : List Cell) (n i r : ℕ) (sound : IsSound ns ss old) (listed : Inserts ns ms n i) (apart : IsInjective ms) (in_range : (2 ^ 32 ≤ n) × (n < 2 ^ 128))
    (inserts : Inserts old new (Large i) r) (distinct : IsInjective new) (few : length new < 2 ^ 32) where
  naturals_push : AreNaturals ns → IsInjective (ns ++ n ∷ []) → AreNaturals (ns ++ n ∷ [])
  naturals_push are d = record { large = λ j m at. go j m (slice_get-push ns n m j at); distinct = d }
    where
      go : (j m : ℕ) → ((j < length ns) × (slice_get ns j ≡ Some m)) ⊎ ((j ≡ length ns) × (n ≡ m)) → (2 ^ 32 ≤ m) × (m < 2 ^ 128)
      go j m (inl p) = are.large j m p.1
      go j m (inr p) = subst (λ k. (2 ^ 32 ≤ k) × (k < 2 ^ 128)) p.1 in_range

  natural_finish : IsSound ms ss new → Grows (objects ns ss old) (objects ms ss new) → BecomesWith ns ms ss ss old new r (Natural n)
  natural_finish s g = (s, Adds-cell ns ms ss ss old new (Large i) r (Natural n) s inserts.stands (ap Natural (get_or_from_slice_get ms i n 0 listed.stands)) g)

  natural_there : ms ≡ ns → BecomesWith ns ms ss ss old new r (Natural n)
  natural_there e =
      let within : i < length ms = slice_get_within ms i n listed.stands in
      let less : i < natural_count old = omega (arith, within, ap length e, sound.all_naturals) in
      let stay : new ≡ old = stays_where is_large Large (λ _. refl) large_numbered (λ _ _ f. f) old new i r sound.are_cells distinct inserts less in
      natural_finish (subst (λ l. IsSound l ss new) (sym e) (subst (IsSound ns ss) (sym stay) sound))
      (subst (λ l. Grows (objects ns ss old) (objects l ss new)) (sym e) (subst (λ l. Grows (objects ns ss old) (objects ns ss l)) (sym stay) (stays _)))

  natural_new : ms ≡ ns ++ n ∷ [] → BecomesWith ns ms ss ss old new r (Natural n)
  natural_new e =
      let within : i < length ms = slice_get_within ms i n listed.stands in
      let last : i ≡ length ns = apart i (length ns) within (listed.stands ∙ sym (ap (λ l. slice_get l (length ns)) e ∙ slice_get-seam ns [] n)) in
      let next : i ≡ natural_count old = last ∙ sym sound.all_naturals in
      let put : new ≡ old ++ Large i ∷ [] = goes_last is_large Large (λ _. refl) large_numbered (λ _ _ f. f) old new i r sound.are_cells inserts next in
      let more : objects ms ss old ≡ objects ns ss old =
      ap (λ l. objects l ss old) e ∙ (ap (λ l. objects (ns ++ n ∷ []) l old) (sym (append-nil ss)) ∙ objects-more ns (n ∷ []) ss [] old sound.are_cells.in_order sound.all_naturals sound.all_names) in
      natural_finish (record {
        are_cells = subst AreCells (sym put) (AreCells-push old (Large i) sound.are_cells next (subst IsInjective put distinct) (omega (arith, few, ap length put)));
        are_naturals = subst AreNaturals (sym e) (naturals_push sound.are_naturals (subst IsInjective e apart));
        are_names = sound.are_names;
        all_naturals = omega (arith, ap natural_count put, count_of-append is_large old (Large i ∷ []), sound.all_naturals, ap length e, length-append ns (n ∷ []));
        all_names = omega (arith, ap name_count put, count_of-append is_named old (Large i ∷ []), sound.all_names);
      }) (object ms ss (objects ms ss old) (Large i) ∷ [], ap (objects ms ss) put ∙ (objects_after-push ms ss [] old (Large i) ∙ ap (λ os. os ++ object ms ss (objects ms ss old) (Large i) ∷ []) more))

  pub natural_adds : BecomesWith ns ms ss ss old new r (Natural n)
  natural_adds = go listed.change
    where
      go : (ms ≡ ns) ⊎ (ms ≡ ns ++ n ∷ []) → BecomesWith ns ms ss ss old new r (Natural n)
      go (inl e) = natural_there e
      go (inr e) = natural_new e

-- a name that was inserted, and then its cell
module _ (ns : List ℕ) (ss ts : List (List ℕ)) (old new : List Cell) (s : List ℕ) (i r : ℕ) (sound : IsSound ns ss old) (listed : Inserts ss ts s i) (apart : IsInjective ts) (valid : is_name s ≡ true)
    (inserts : Inserts old new (Named i) r) (distinct : IsInjective new) (few : length new < 2 ^ 32) where
  names_push : AreNames ss → IsInjective (ss ++ s ∷ []) → AreNames (ss ++ s ∷ [])
  names_push are d = record { valid = λ j t at. go j t (slice_get-push ss s t j at); distinct = d }
    where
      go : (j : ℕ) (t : List ℕ) → ((j < length ss) × (slice_get ss j ≡ Some t)) ⊎ ((j ≡ length ss) × (s ≡ t)) → is_name t ≡ true
      go j t (inl p) = are.valid j t p.1
      go j t (inr p) = subst (λ k. is_name k ≡ true) p.1 valid

  name_finish : IsSound ns ts new → Grows (objects ns ss old) (objects ns ts new) → BecomesWith ns ns ss ts old new r (Symbol (name_of_bytes s))
  name_finish h g = (h, Adds-cell ns ns ss ts old new (Named i) r (Symbol (name_of_bytes s)) h inserts.stands (ap (λ t. Symbol (name_of_bytes t)) (get_or_from_slice_get ts i s [] listed.stands)) g)

  name_there : ts ≡ ss → BecomesWith ns ns ss ts old new r (Symbol (name_of_bytes s))
  name_there e =
      let within : i < length ts = slice_get_within ts i s listed.stands in
      let less : i < name_count old = omega (arith, within, ap length e, sound.all_names) in
      let stay : new ≡ old = stays_where is_named Named (λ _. refl) named_numbered (λ _ _ f. f) old new i r sound.are_cells distinct inserts less in
      name_finish (subst (λ l. IsSound ns l new) (sym e) (subst (IsSound ns ss) (sym stay) sound))
      (subst (λ l. Grows (objects ns ss old) (objects ns l new)) (sym e) (subst (λ l. Grows (objects ns ss old) (objects ns ss l)) (sym stay) (stays _)))

  name_new : ts ≡ ss ++ s ∷ [] → BecomesWith ns ns ss ts old new r (Symbol (name_of_bytes s))
  name_new e =
      let within : i < length ts = slice_get_within ts i s listed.stands in
      let last : i ≡ length ss = apart i (length ss) within (listed.stands ∙ sym (ap (λ l. slice_get l (length ss)) e ∙ slice_get-seam ss [] s)) in
      let next : i ≡ name_count old = last ∙ sym sound.all_names in
      let put : new ≡ old ++ Named i ∷ [] = goes_last is_named Named (λ _. refl) named_numbered (λ _ _ f. f) old new i r sound.are_cells inserts next in
      let more : objects ns ts old ≡ objects ns ss old =
      ap (λ l. objects ns l old) e ∙ (ap (λ l. objects l (ss ++ s ∷ []) old) (sym (append-nil ns)) ∙ objects-more ns [] ss (s ∷ []) old sound.are_cells.in_order sound.all_naturals sound.all_names) in
      name_finish (record {
        are_cells = subst AreCells (sym put) (AreCells-push old (Named i) sound.are_cells next (subst IsInjective put distinct) (omega (arith, few, ap length put)));
        are_naturals = sound.are_naturals;
        are_names = subst AreNames (sym e) (names_push sound.are_names (subst IsInjective e apart));
        all_naturals = omega (arith, ap natural_count put, count_of-append is_large old (Named i ∷ []), sound.all_naturals);
        all_names = omega (arith, ap name_count put, count_of-append is_named old (Named i ∷ []), sound.all_names, ap length e, length-append ss (s ∷ []));
      }) (object ns ts (objects ns ts old) (Named i) ∷ [], ap (objects ns ts) put ∙ (objects_after-push ns ts [] old (Named i) ∙ ap (λ os. os ++ object ns ts (objects ns ts old) (Named i) ∷ []) more))

  pub name_adds : BecomesWith ns ns ss ts old new r (Symbol (name_of_bytes s))
  name_adds = go listed.change
    where
      go : (ts ≡ ss) ⊎ (ts ≡ ss ++ s ∷ []) → BecomesWith ns ns ss ts old new r (Symbol (name_of_bytes s))
      go (inl e) = name_there e
      go (inr e) = name_new e
