-- What a part asks for is asked for by it itself or by a part of it.
use Rattle.std.proofs.Common.{◌≡◌, ℕ, ◌<◌, Bool, true, false, ◌&&◌, ◌||◌, cond, List, [], ◌∷◌, ◌++◌, map, filter, Contains, ◌⊎◌, inl, inr, refl, sym, ap, ap₂, ◌∙◌, subst, append-nil, arith}
use Rattle.std.proofs.lemmas.Bool.{or_cases, or_left, or_right}
use Rattle.std.proofs.lemmas.List.Elements.{Contains-push_cases}
use Rattle.mw_model.specs.Terms.Object.{Object, Natural, Symbol, Pair, NIL, car, cdr, second_of, third_of}
use Rattle.mw_model.specs.Values.Primitive.{is_pair}
use Rattle.mw_commands.specs.Commands.Slice.{begins_with, some_passes, occurs, without_name, theorems_named}
use Rattle.mw_commands.specs.Commands.Subproofs.{proofs_within, each_within}
use Rattle.mw_heap.specs.Objects.{object_at, IsIn}
use Rattle.mw_slice.specs.declared.part.Part.{Part}
use Rattle.mw_slice.specs.declared.part.Part.TheVariants.{Cell, Proof, Proofs}
use Rattle.mw_slice.specs.Parts.{cell_of, occurs_in, theorems_in}
use Rattle.mw_slice.specs.Supports.{Support, Named, Proved, same_atom, names_place, cells_ask, event_asks, asks, asks_itself}
use Rattle.mw_slice.specs.Walks.{IsEntered}

pub none_in : (q : Part) → Contains [] q → ⊥
none_in q h = absurd (omega (arith, h.1))

pub one_in : (p q : Part) → Contains (p ∷ []) q → p ≡ q
one_in p q m = elim (Contains-push_cases [] p q m) [ inl n ↦ absurd (none_in q n) | inr e ↦ e ]

two_in : (o p q : Part) → Contains (o ∷ p ∷ []) q → (o ≡ q) ⊎ (p ≡ q)
two_in o p q m = elim (Contains-push_cases (o ∷ []) p q m) [ inl n ↦ inl (one_in o q n) | inr e ↦ inr e ]

-- ---- steps one after another

pub or_assoc : (a b c : Bool) → (a || (b || c)) ≡ ((a || b) || c)
or_assoc true b c = refl
or_assoc false b c = refl

pub or_false : (a : Bool) → (a || false) ≡ a
or_false true = refl
or_false false = refl

module _ (test passes : Object → Bool) where
  abbrev kept_passes : List Object → Bool
  kept_passes xs = some_passes passes (map second_of (filter test xs))

  kept_passes-first : (x : Object) (xs : List Object) → kept_passes (x ∷ xs) ≡ ((test x && passes (second_of x)) || kept_passes xs)
  kept_passes-first x xs = go (test x) refl
    where
      go : (b : Bool) → test x ≡ b → some_passes passes (map second_of (cond b (x ∷ filter test xs) (filter test xs))) ≡ ((b && passes (second_of x)) || kept_passes xs)
      go true e = refl
      go false e = refl

  pub kept_passes-append : (xs ys : List Object) → kept_passes (xs ++ ys) ≡ (kept_passes xs || kept_passes ys)
  kept_passes-append [] ys = refl
  kept_passes-append (x ∷ xs) ys =
      kept_passes-first x (xs ++ ys)
      ∙ (ap (λ b. (test x && passes (second_of x)) || b) (kept_passes-append xs ys)
      ∙ (or_assoc (test x && passes (second_of x)) (kept_passes xs) (kept_passes ys)
      ∙ ap (λ b. b || kept_passes ys) (sym (kept_passes-first x xs))))

  pub kept_passes-one : (x : Object) → kept_passes (x ∷ []) ≡ (test x && passes (second_of x))
  kept_passes-one x = kept_passes-first x [] ∙ or_false (test x && passes (second_of x))

proofs_within-third : (x : Object) → proofs_within x ≡ each_within (third_of x) ++ x ∷ []
proofs_within-third (Natural n) = refl
proofs_within-third (Symbol s) = refl
proofs_within-third (Pair m (Natural n)) = refl
proofs_within-third (Pair m (Symbol s)) = refl
proofs_within-third (Pair m (Pair c (Natural n))) = refl
proofs_within-third (Pair m (Pair c (Symbol s))) = refl
proofs_within-third (Pair m (Pair c (Pair ps x))) = refl

occurs-atom : (x y : Object) → is_pair y ≡ false → occurs x y ≡ same_atom x y
occurs-atom x (Natural n) h = refl
occurs-atom x (Symbol s) h = refl
occurs-atom x (Pair a d) h = cc

each_within-atom : (x : Object) → is_pair x ≡ false → each_within x ≡ []
each_within-atom (Natural n) h = refl
each_within-atom (Symbol s) h = refl
each_within-atom (Pair a d) h = cc

-- ---- a part by what it is

module _ (os : List Object) (firsts : List (ℕ × ℕ)) where
  abbrev asks_now : Support → Part → Bool
  asks_now s p = asks os firsts s p

  abbrev itself : Support → Part → Bool
  itself s p = asks_itself os firsts s p

  -- by its subproofs, or by its own step
  proof_asks : (j x : ℕ) (ps : Object) → third_of (object_at os x) ≡ ps → asks_now (Proved j) (Proof x) ≡ (some_passes (names_place os firsts j) (map second_of (filter (begins_with "THEOREM") (each_within ps))) || itself (Proved j) (Proof x))
  proof_asks j x ps e =
      let test = begins_with "THEOREM" in
      let passes = names_place os firsts j in
      ap (kept_passes test passes) (proofs_within-third (object_at os x))
      ∙ (kept_passes-append test passes (each_within (third_of (object_at os x))) (object_at os x ∷ [])
      ∙ ap₂ (λ a b. a || b) (ap (λ y. kept_passes test passes (each_within y)) e) (kept_passes-one test passes (object_at os x)))

  module _ (waited : List Part) where
    entered_none : (p : Part) → ((s : Support) → asks_now s p ≡ true → itself s p ≡ true) → IsEntered os firsts p waited waited
    entered_none p w = record {
      more = [];
      longer = sym (append-nil waited);
      few = omega arith;
      inside = λ q m. absurd (none_in q m);
      older = λ q m. absurd (none_in q m);
      inner = λ s q m. absurd (none_in q m);
      whole = λ s h. inl (w s h);
    }

    pub entered_cell_atom : (x : ℕ) → is_pair (object_at os x) ≡ false → IsEntered os firsts (Cell x) waited waited
    entered_cell_atom x atom = entered_none (Cell x) (λ s. by s)
      where
        by : (s : Support) → asks_now s (Cell x) ≡ true → itself s (Cell x) ≡ true
        by (Named y) h = or_left (same_atom y (object_at os x)) false (sym (occurs-atom y (object_at os x) atom) ∙ h)
        by (Proved j) h = cc

    pub entered_list_end : (x : ℕ) → is_pair (object_at os x) ≡ false → IsEntered os firsts (Proofs x) waited waited
    entered_list_end x atom = entered_none (Proofs x) (λ s. by s)
      where
        by : (s : Support) → asks_now s (Proofs x) ≡ true → itself s (Proofs x) ≡ true
        by (Named y) h = cc
        by (Proved j) h = let none = ap (kept_passes (begins_with "THEOREM") (names_place os firsts j)) (each_within-atom (object_at os x) atom) in cc

    pub entered_proof_alone : (x : ℕ) → third_of (object_at os x) ≡ NIL → IsEntered os firsts (Proof x) waited waited
    entered_proof_alone x none = entered_none (Proof x) (λ s. by s)
      where
        by : (s : Support) → asks_now s (Proof x) ≡ true → itself s (Proof x) ≡ true
        by (Named y) h = cc
        by (Proved j) h = sym (proof_asks j x NIL none) ∙ h

    pub entered_proof : (x ps : ℕ) → third_of (object_at os x) ≡ object_at os ps → IsIn os ps → ps < x → IsEntered os firsts (Proof x) waited (waited ++ Proofs ps ∷ [])
    entered_proof x ps third within below = record {
      more = Proofs ps ∷ [];
      longer = refl;
      few = omega arith;
      inside = λ q m. subst (λ p. IsIn os (cell_of p)) (one_in (Proofs ps) q m) within;
      older = λ q m. subst (λ p. cell_of p < x) (one_in (Proofs ps) q m) below;
      inner = λ s q m. subst (λ p. asks_now s p ≡ true → asks_now s (Proof x) ≡ true) (one_in (Proofs ps) q m) (up s);
      whole = λ s h. down s h;
    }
      where
        up : (s : Support) → asks_now s (Proofs ps) ≡ true → asks_now s (Proof x) ≡ true
        up (Named y) h = cc
        up (Proved j) h = proof_asks j x (object_at os ps) third ∙ or_left (asks_now (Proved j) (Proofs ps)) (itself (Proved j) (Proof x)) h

        down : (s : Support) → asks_now s (Proof x) ≡ true → (itself s (Proof x) ≡ true) ⊎ ((q : Part) × Contains (Proofs ps ∷ []) q × (asks_now s q ≡ true))
        down (Named y) h = cc
        down (Proved j) h = elim (or_cases (asks_now (Proved j) (Proofs ps)) (itself (Proved j) (Proof x)) (sym (proof_asks j x (object_at os ps) third) ∙ h)) [ inl k ↦ inr (Proofs ps, (0, omega arith, refl), k) | inr k ↦ inl k ]

    -- with two parts, one of which asks whenever the whole does, for all but what the whole asks for in itself
    entered_two : (p a d : Part) → IsIn os (cell_of a) → IsIn os (cell_of d) → cell_of a < cell_of p → cell_of d < cell_of p → ((s : Support) → asks_now s p ≡ (asks_now s a || asks_now s d)) → IsEntered os firsts p waited (waited ++ d ∷ a ∷ [])
    entered_two p a d a_in d_in a_below d_below both = record {
      more = d ∷ a ∷ [];
      longer = refl;
      few = omega arith;
      inside = λ q m. elim (two_in d a q m) [ inl e ↦ subst (λ z. IsIn os (cell_of z)) e d_in | inr e ↦ subst (λ z. IsIn os (cell_of z)) e a_in ];
      older = λ q m. elim (two_in d a q m) [ inl e ↦ subst (λ z. cell_of z < cell_of p) e d_below | inr e ↦ subst (λ z. cell_of z < cell_of p) e a_below ];
      inner = λ s q m h. both s ∙ elim (two_in d a q m) [
        | inl e ↦ or_right (asks_now s a) (asks_now s d) (ap (asks_now s) e ∙ h)
        | inr e ↦ or_left (asks_now s a) (asks_now s d) (ap (asks_now s) e ∙ h)
      ];
      whole = λ s h. inr (elim (or_cases (asks_now s a) (asks_now s d) (sym (both s) ∙ h)) [ inl k ↦ (a, (1, omega arith, refl), k) | inr k ↦ (d, (0, omega arith, refl), k) ]);
    }

    pub entered_cell : (x a d : ℕ) → object_at os x ≡ Pair (object_at os a) (object_at os d) → IsIn os a → IsIn os d → a < x → d < x → IsEntered os firsts (Cell x) waited (waited ++ Cell d ∷ Cell a ∷ [])
    entered_cell x a d pair a_in d_in a_below d_below = entered_two (Cell x) (Cell a) (Cell d) a_in d_in a_below d_below (λ s. by s)
      where
        by : (s : Support) → asks_now s (Cell x) ≡ (asks_now s (Cell a) || asks_now s (Cell d))
        by (Named y) = ap (occurs y) pair
        by (Proved j) = refl

    pub entered_list : (x a d : ℕ) → object_at os x ≡ Pair (object_at os a) (object_at os d) → IsIn os a → IsIn os d → a < x → d < x → IsEntered os firsts (Proofs x) waited (waited ++ Proofs d ∷ Proof a ∷ [])
    entered_list x a d pair a_in d_in a_below d_below = entered_two (Proofs x) (Proof a) (Proofs d) a_in d_in a_below d_below (λ s. by s)
      where
        by : (s : Support) → asks_now s (Proofs x) ≡ (asks_now s (Proof a) || asks_now s (Proofs d))
        by (Named y) = refl
        by (Proved j) =
            let test = begins_with "THEOREM" in
            let passes = names_place os firsts j in
            ap (λ y. kept_passes test passes (each_within y)) pair ∙ kept_passes-append test passes (proofs_within (object_at os a)) (each_within (object_at os d))

pub entered_as : (os : List Object) (firsts : List (ℕ × ℕ)) (part p : Part) (waited waiting w : List Part) → part ≡ p → waiting ≡ w → IsEntered os firsts p waited w → IsEntered os firsts part waited waiting
entered_as os firsts part p waited waiting w e f h = subst (λ q. IsEntered os firsts q waited waiting) (sym e) (subst (λ l. IsEntered os firsts p waited l) (sym f) h)

same_atom-occurs : (x y : Object) → same_atom x y ≡ true → occurs x y ≡ true
same_atom-occurs x (Natural n) h = h
same_atom-occurs x (Symbol s) h = h
same_atom-occurs x (Pair a d) h = cc

-- what a part asks for in itself it asks for
pub itself_asks : (os : List Object) (firsts : List (ℕ × ℕ)) (s : Support) (p : Part) → asks_itself os firsts s p ≡ true → asks os firsts s p ≡ true
itself_asks os firsts (Named y) (Cell x) h = same_atom-occurs y (object_at os x) (sym (or_false (same_atom y (object_at os x))) ∙ h)
itself_asks os firsts (Named y) (Proof x) h = cc
itself_asks os firsts (Named y) (Proofs x) h = cc
itself_asks os firsts (Proved j) (Cell x) h = cc
itself_asks os firsts (Proved j) (Proofs x) h = cc
itself_asks os firsts (Proved j) (Proof x) h = proof_asks os firsts j x (third_of (object_at os x)) refl ∙ or_right (some_passes (names_place os firsts j) (map second_of (filter (begins_with "THEOREM") (each_within (third_of (object_at os x)))))) (asks_itself os firsts (Proved j) (Proof x)) h

-- what an event asks for, by its cells and by its proofs
-- a cell asks for what its event does by its cells, unless that is a theorem
pub cells_by_cell : (os : List Object) (firsts : List (ℕ × ℕ)) (r : ℕ) → begins_with "VERIFY" (object_at os r) ≡ false → (s : Support) → asks os firsts s (Cell r) ≡ cells_ask s (object_at os r)
cells_by_cell os firsts r h (Named x) = ap (λ b. occurs x (cond b (Pair (car (object_at os r)) (cdr (cdr (object_at os r)))) (object_at os r))) (sym h)
cells_by_cell os firsts r h (Proved j) = refl

-- those of a theorem do so by its word and by what comes after its name
pub cells_by_parts : (os : List Object) (firsts : List (ℕ × ℕ)) (e : Object) (a d : ℕ) → begins_with "VERIFY" e ≡ true → object_at os a ≡ car e → object_at os d ≡ cdr (cdr e) → (s : Support) (old : Bool) → ((old || asks os firsts s (Cell a)) || asks os firsts s (Cell d)) ≡ (old || cells_ask s e)
cells_by_parts os firsts e a d h first others (Named x) old =
    sym (or_assoc old (occurs x (object_at os a)) (occurs x (object_at os d)))
    ∙ (ap₂ (λ y z. old || (occurs x y || occurs x z)) first others
    ∙ ap (λ b. old || occurs x (cond b (Pair (car e) (cdr (cdr e))) e)) (sym h))
cells_by_parts os firsts e a d h first others (Proved j) old = or_false (old || false)

pub event_by_parts : (os : List Object) (firsts : List (ℕ × ℕ)) (e : Object) (p : Part) → ((x : Object) → occurs_in os x p ≡ false) → theorems_in os p ≡ theorems_named e → (s : Support) (old : Bool) → ((old || cells_ask s e) || asks os firsts s p) ≡ (old || event_asks os firsts s e)
event_by_parts os firsts e p no_cell same (Named x) old = ap (λ b. (old || occurs x (without_name e)) || b) (no_cell x) ∙ or_false (old || occurs x (without_name e))
event_by_parts os firsts e p no_cell same (Proved j) old = ap₂ (λ a l. a || some_passes (names_place os firsts j) l) (or_false old) same
