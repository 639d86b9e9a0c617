-- What the theory after some events and the theory after the kept ones among them have in common: they differ by what the events that were
-- left out added.
use Rattle.std.proofs.Common.{◌≡◌, ℕ, suc, ◌<◌, ◌≤◌, Bool, true, false, eqb, List, [], ◌∷◌, length, None, ◌⊎◌, inl, inr, refl, sym, ap, ◌∙◌, subst, arith, eqb-true}
use Rattle.std.proofs.lemmas.Bool.{and_parts, false≢true, eqb-false}
use Rattle.mw_model.specs.Terms.Object.{Name, Object, Symbol, Pair, same_object, NIL, third_of, Member, first, later}
use Rattle.mw_model.specs.Terms.Term.{Formula, arity_of, formula_object}
use Rattle.mw_model.specs.Values.Primitive.{Profile, One}
use Rattle.mw_model.specs.Values.Definition.{Block, add_block, arities, block_axioms}
use Rattle.mw_model.specs.BuiltIns.BuiltIn.{built_in}
use Rattle.mw_model.specs.Events.Theory.{axioms_of}
use Rattle.mw_model.specs.Events.Fate.{same_block, same_blocks, is_one, is_initial}
use Rattle.mw_model.proofs.Names.{same_object-eq}
use Rattle.mw_commands.specs.Commands.Slice.{begins_with, event_at, names_added, sets_profile}
use Rattle.mw_commands.proofs.FromNothing.{no_member}
use Rattle.mw_commands.proofs.BlockNames.{some_occurs, is_named, NewBlock}
use Rattle.mw_commands.proofs.InFront.{block_agrees, block_decides, block_keeps, added_alike, added_or_old}
use Rattle.mw_commands.proofs.Changes.{Change, Stays, AddsTheorem, AddsBlock, BeginsSecond, IsChange, plain, profile_after, blocks_after, theorems_after}

-- ---- which theories are initial

as_long : (D C : List Block) → same_blocks D C ≡ true → length D ≡ length C
as_long [] [] h = refl
as_long (B ∷ D) (C ∷ E) h = ap suc (as_long D E (and_parts (same_block B C) (same_blocks D E) h).1)
as_long [] (C ∷ E) h = cc
as_long (B ∷ D) [] h = cc

record IsFirst (P : Profile) (D : List Block) (th : Object) : Type 0 where
  one : is_one P ≡ true
  blocks : length D ≡ length (built_in One)
  theorems : th ≡ NIL

is_first : (P : Profile) (D : List Block) (th : Object) → is_initial (plain P D th) ≡ true → IsFirst P D th
is_first P D th h =
    let p = and_parts (is_one P) _ h in
    let q = and_parts (same_blocks D (built_in One)) _ p.1 in
    let r = and_parts (same_object (axioms_of P D) (axioms_of One (built_in One))) _ q.1 in
    let s = and_parts (same_object th NIL) _ r.1 in
    record { one = p.0; blocks = as_long D (built_in One) q.0; theorems = same_object-eq th NIL s.0 }

module _ (es : List Object) (S : ℕ → Bool) where
  -- an event before place i that was left out adds a name that occurs in x
  pub record Lost (i : ℕ) (x : Object) : Type 0 where
    pub place : ℕ
    pub before : place < i
    pub left_out : S place ≡ false
    pub named : some_occurs (names_added (event_at es place)) x ≡ true

  -- a theorem comes from an event before place i
  pub record ProvedBefore (i : ℕ) (x : Object) : Type 0 where
    pub place : ℕ
    pub before : place < i
    pub verifies : begins_with "VERIFY" (event_at es place) ≡ true
    pub formula : third_of (event_at es place) ≡ x

  -- The blocks D and the theorems th are those after all events before place i, E and others those after the kept ones among them.
  -- What the first theory has and the second one lacks was added by an event that was left out, and has one of its names in it.
  pub record Course (i : ℕ) (P : Profile) (D E : List Block) (th others : Object) : Type 0 where
    pub arities_known : (f : Name) → (arity_of (arities P E) f ≡ arity_of (arities P D) f) ⊎ (Lost i (Symbol f) × (arity_of (arities P E) f ≡ None))
    pub axioms_known : (x : Object) → Member x (axioms_of P D) → Member x (axioms_of P E) ⊎ Lost i x
    pub proved : (x : Object) → Member x th → ProvedBefore i x
    pub kept : (j : ℕ) → j < i → S j ≡ true → begins_with "VERIFY" (event_at es j) ≡ true → Member (third_of (event_at es j)) others
    -- no event before place i changed the theory, or this is not the initial one of the first profile
    pub begun : is_initial (plain P D th) ≡ true → is_initial (plain P E others) ≡ true
    pub count : is_one P ≡ true → length (built_in One) ≤ length D

  still_lost : (i : ℕ) (x : Object) → Lost i x → Lost (suc i) x
  still_lost i x l = record { place = l.place; before = let b = l.before in omega arith; left_out = l.left_out; named = l.named }

  still_proved : (i : ℕ) (x : Object) → ProvedBefore i x → ProvedBefore (suc i) x
  still_proved i x l = record { place = l.place; before = let b = l.before in omega arith; verifies = l.verifies; formula = l.formula }

  last_or_before : (i j : ℕ) → j < suc i → (j ≡ i) ⊎ (j < i)
  last_or_before i j h = go (eqb j i) refl
    where
      go : (b : Bool) → eqb j i ≡ b → (j ≡ i) ⊎ (j < i)
      go true e = inl (eqb-true j i e)
      go false e = let d = eqb-false j i e in inr (omega arith)

  module _ (i : ℕ) (P : Profile) (D E : List Block) (th others : Object) (c : Course i P D E th others) where
    arities_still : (f : Name) → (arity_of (arities P E) f ≡ arity_of (arities P D) f) ⊎ (Lost (suc i) (Symbol f) × (arity_of (arities P E) f ≡ None))
    arities_still f = elim (c.arities_known f) as (λ o. (arity_of (arities P E) f ≡ arity_of (arities P D) f) ⊎ (Lost (suc i) (Symbol f) × (arity_of (arities P E) f ≡ None))) [ inl e ↦ inl e | inr l ↦ inr (still_lost i (Symbol f) l.0, l.1) ]

    axioms_still : (x : Object) → Member x (axioms_of P D) → Member x (axioms_of P E) ⊎ Lost (suc i) x
    axioms_still x m = elim (c.axioms_known x m) as (λ o. Member x (axioms_of P E) ⊎ Lost (suc i) x) [ inl n ↦ inl n | inr l ↦ inr (still_lost i x l) ]

    pub unknown_too : (f : Name) → arity_of (arities P D) f ≡ None → arity_of (arities P E) f ≡ None
    unknown_too f h = elim (c.arities_known f) as (λ o. arity_of (arities P E) f ≡ None) [ inl e ↦ e ∙ h | inr l ↦ l.1 ]

    -- kept before, and the event at place i is no theorem
    kept_before : begins_with "VERIFY" (event_at es i) ≡ false → (j : ℕ) → j < suc i → S j ≡ true → begins_with "VERIFY" (event_at es j) ≡ true → Member (third_of (event_at es j)) others
    kept_before v j l s k = elim (last_or_before i j l) as (λ o. Member (third_of (event_at es j)) others) [ inl e ↦ absurd (false≢true (sym v ∙ subst (λ z. begins_with "VERIFY" (event_at es z) ≡ true) e k)) | inr b ↦ c.kept j b s k ]

    proved_now : (F : Formula) → begins_with "VERIFY" (event_at es i) ≡ true → formula_object F ≡ third_of (event_at es i) → (x : Object) → Member x (Pair (formula_object F) th) → ProvedBefore (suc i) x
    proved_now F v e x m = go (formula_object F) e x m
      where
        go : (f : Object) → f ≡ third_of (event_at es i) → (x : Object) → Member x (Pair f th) → ProvedBefore (suc i) x
        go f e x (first th') = record { place = i; before = omega arith; verifies = v; formula = sym e }
        go f e x (later f' th' m) = still_proved i x (c.proved x m)

    -- no theory with a theorem or a newer block is initial
    theorem_later : (x : Object) → is_initial (plain P D (Pair x th)) ≡ true → ⊥
    theorem_later x h = let e : Pair x th ≡ NIL = (is_first P D (Pair x th) h).theorems in cc

    block_later : (B : Block) → is_initial (plain P (B ∷ D) th) ≡ true → ⊥
    block_later B h =
        let f = is_first P (B ∷ D) th h in
        let l = c.count f.one in
        let e = f.blocks in
        omega arith

    stays_kept : begins_with "VERIFY" (event_at es i) ≡ false → Course (suc i) P D E th others
    stays_kept v = record { arities_known = arities_still; axioms_known = axioms_still; proved = λ x m. still_proved i x (c.proved x m); kept = kept_before v; begun = c.begun; count = c.count }

    -- ---- the event at place i is kept

    kept_now : (F : Formula) → formula_object F ≡ third_of (event_at es i) → (j : ℕ) → j < suc i → S j ≡ true → begins_with "VERIFY" (event_at es j) ≡ true → Member (third_of (event_at es j)) (Pair (formula_object F) others)
    kept_now F e j l s k =
        elim (last_or_before i j l) as (λ o. Member (third_of (event_at es j)) (Pair (formula_object F) others)) [ inl q ↦ subst (λ z. Member z (Pair (formula_object F) others)) (e ∙ ap (λ z. third_of (event_at es z)) (sym q)) (first others) | inr b ↦ later (formula_object F) others (c.kept j b s k) ]

    arities_with : (B : Block) (f : Name) → (arity_of (add_block B (arities P E)) f ≡ arity_of (add_block B (arities P D)) f) ⊎ (Lost (suc i) (Symbol f) × (arity_of (add_block B (arities P E)) f ≡ None))
    arities_with B f = go (is_named B f) refl
      where
        go : (b : Bool) → is_named B f ≡ b → (arity_of (add_block B (arities P E)) f ≡ arity_of (add_block B (arities P D)) f) ⊎ (Lost (suc i) (Symbol f) × (arity_of (add_block B (arities P E)) f ≡ None))
        go true n = inl (block_decides B (arities P E) (arities P D) f n)
        go false n =
            elim (arities_still f) as (λ o. (arity_of (add_block B (arities P E)) f ≡ arity_of (add_block B (arities P D)) f) ⊎ (Lost (suc i) (Symbol f) × (arity_of (add_block B (arities P E)) f ≡ None))) [ inl e ↦ inl (block_agrees B (arities P E) (arities P D) f e) | inr l ↦ inr (l.0, block_keeps B (arities P E) f n ∙ l.1) ]

    pub kept_course : (d : Change) → IsChange (plain P D th) (event_at es i) d → Course (suc i) (profile_after d P) (blocks_after d D) (blocks_after d E) (theorems_after d th) (theorems_after d others)
    kept_course Stays h = stays_kept h
    kept_course (AddsTheorem F) h = record { arities_known = arities_still; axioms_known = axioms_still; proved = proved_now F h.0 h.1; kept = kept_now F h.1; begun = λ k. absurd (theorem_later (formula_object F) k); count = c.count }
    kept_course (AddsBlock B) h =
        record {
          arities_known = arities_with B;
          axioms_known = added_alike (Lost (suc i)) (block_axioms B) (axioms_of P D) (axioms_of P E) axioms_still;
          proved = λ x m. still_proved i x (c.proved x m);
          kept = kept_before h.0;
          begun = λ k. absurd (block_later B k);
          count = λ k. let l = c.count k in omega arith;
        }
    kept_course BeginsSecond h =
        let none : others ≡ NIL = (is_first P E others (c.begun h.2)).theorems in
        record {
          arities_known = λ f. inl refl;
          axioms_known = λ x m. inl m;
          proved = λ x m. absurd (no_member x m);
          kept = λ j l s k. subst (Member (third_of (event_at es j))) none (kept_before h.0 j l s k);
          begun = λ k. k;
          count = λ k. absurd (false≢true k);
        }

    -- ---- the event at place i is left out

    module _ (out : S i ≡ false) where
      kept_without : (j : ℕ) → j < suc i → S j ≡ true → begins_with "VERIFY" (event_at es j) ≡ true → Member (third_of (event_at es j)) others
      kept_without j l s k = elim (last_or_before i j l) as (λ o. Member (third_of (event_at es j)) others) [ inl e ↦ absurd (false≢true (sym out ∙ subst (λ z. S z ≡ true) e s)) | inr b ↦ c.kept j b s k ]

      lost_now : (x : Object) → some_occurs (names_added (event_at es i)) x ≡ true → Lost (suc i) x
      lost_now x h = record { place = i; before = omega arith; left_out = out; named = h }

      arities_without : (B : Block) → NewBlock (arities P D) (names_added (event_at es i)) B → (f : Name) → (arity_of (arities P E) f ≡ arity_of (add_block B (arities P D)) f) ⊎ (Lost (suc i) (Symbol f) × (arity_of (arities P E) f ≡ None))
      arities_without B b f = go (is_named B f) refl
        where
          go : (t : Bool) → is_named B f ≡ t → (arity_of (arities P E) f ≡ arity_of (add_block B (arities P D)) f) ⊎ (Lost (suc i) (Symbol f) × (arity_of (arities P E) f ≡ None))
          go true n = inr (lost_now (Symbol f) (b.added f n), unknown_too f (b.unknown f n))
          go false n =
              elim (arities_still f) as (λ o. (arity_of (arities P E) f ≡ arity_of (add_block B (arities P D)) f) ⊎ (Lost (suc i) (Symbol f) × (arity_of (arities P E) f ≡ None))) [ inl e ↦ inl (e ∙ sym (block_keeps B (arities P D) f n)) | inr l ↦ inr l ]

      axioms_without : (B : Block) → NewBlock (arities P D) (names_added (event_at es i)) B → (x : Object) → Member x (axioms_of P (B ∷ D)) → Member x (axioms_of P E) ⊎ Lost (suc i) x
      axioms_without B b x m =
          elim (added_or_old (λ y. some_occurs (names_added (event_at es i)) y ≡ true) (block_axioms B) (axioms_of P D) b.axioms x m) as (λ o. Member x (axioms_of P E) ⊎ Lost (suc i) x) [ inl old ↦ axioms_still x old | inr n ↦ inr (lost_now x n) ]

      -- a second profile is not left out
      pub left_course : (sets_profile 2 (event_at es i) ≡ true → S i ≡ true) → (d : Change) → IsChange (plain P D th) (event_at es i) d → Course (suc i) (profile_after d P) (blocks_after d D) E (theorems_after d th) others × (profile_after d P ≡ P)
      left_course p Stays h = (stays_kept h, refl)
      left_course p (AddsTheorem F) h = (record { arities_known = arities_still; axioms_known = axioms_still; proved = proved_now F h.0 h.1; kept = kept_without; begun = λ k. absurd (theorem_later (formula_object F) k); count = c.count }, refl)
      left_course p (AddsBlock B) h = (
        record {
          arities_known = arities_without B h.1;
          axioms_known = axioms_without B h.1;
          proved = λ x m. still_proved i x (c.proved x m);
          kept = kept_without;
          begun = λ k. absurd (block_later B k);
          count = λ k. let l = c.count k in omega arith;
        },
        refl,
      )
      left_course p BeginsSecond h = absurd (false≢true (sym out ∙ p h.1))
