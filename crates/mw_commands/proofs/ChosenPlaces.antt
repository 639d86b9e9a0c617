-- The events at ascending places are those that the set of the places chooses, in order; and the greatest place is the last.
use Rattle.std.proofs.Common.{◌≡◌, ℕ, suc, ◌+◌, ◌<◌, ◌≤◌, Bool, true, false, ◌||◌, cond, eqb, List, [], ◌∷◌, ◌++◌, length, map, inl, inr, refl, sym, ap, ◌∙◌, arith}
use Rattle.std.proofs.lemmas.Bool.{or_cases, or_left, or_right, true≢false, cases_Bool, eqb-true, eqb-false, eq-eqb, ne_eqb, false_from_ne_true}
use Rattle.mw_model.specs.Terms.Object.{Object}
use Rattle.mw_commands.specs.Commands.Slice.{event_at, is_ascending}
use Rattle.mw_commands.proofs.SlicePlaces.{among, first_least, rest_ascending}
use Rattle.mw_commands.proofs.SliceWalk.{chosen, StandsAt, stands_first, stands_rest}

itself : (p : ℕ) (ps : List ℕ) → among (p ∷ ps) p ≡ true
itself p ps = or_left (eqb p p) (among ps p) (eq-eqb p p refl)

-- a place that is not the first is among the others
among_rest : (p j : ℕ) (ps : List ℕ) → (p ≡ j → ⊥) → among (p ∷ ps) j ≡ among ps j
among_rest p j ps d = ap (λ b. b || among ps j) (ne_eqb p j d)

module _ (es : List Object) (S : ℕ → Bool) where
  -- the places left, where the first event left stands at place i
  record Left (i : ℕ) (rest : List Object) (ps : List ℕ) : Type 0 where
    ascending : is_ascending ps ≡ true
    above : (j : ℕ) → among ps j ≡ true → i ≤ j
    below : (j : ℕ) → among ps j ≡ true → j < i + length rest
    same : (j : ℕ) → i ≤ j → S j ≡ among ps j

  abbrev AreChosen : List Object → ℕ → Type 0
  AreChosen rest i = (ps : List ℕ) → StandsAt es i rest → Left i rest ps → map (event_at es) ps ≡ chosen S i rest

  passed : (i : ℕ) (e : Object) (rest : List Object) (ps : List ℕ) → Left i (e ∷ rest) ps → among ps i ≡ false → Left (suc i) rest ps
  passed i e rest ps l n =
      record {
        ascending = l.ascending;
        above = λ j h. (let a : i ≤ j = l.above j h in let d : i ≡ j → ⊥ = (λ q. true≢false (sym h ∙ (ap (among ps) (sym q) ∙ n))) in omega arith);
        below = λ j h. (let b : j < i + suc (length rest) = l.below j h in omega arith);
        same = λ j m. l.same j (omega arith);
      }

  taken : (i p : ℕ) (e : Object) (rest : List Object) (ps : List ℕ) → Left i (e ∷ rest) (p ∷ ps) → p ≡ i → Left (suc i) rest ps
  taken i p e rest ps l q =
      record {
        ascending = rest_ascending p ps l.ascending;
        above = λ j h. (let a : p < j = first_least p ps l.ascending j h in omega arith);
        below = λ j h. (let b : j < i + suc (length rest) = l.below j (or_right (eqb p j) (among ps j) h) in omega arith);
        same = λ j m. l.same j (omega arith) ∙ among_rest p j ps (λ r. omega arith);
      }

  without_first : (i : ℕ) (e : Object) (rest : List Object) (ps : List ℕ) → AreChosen rest (suc i) → StandsAt es i (e ∷ rest) → Left i (e ∷ rest) ps → among ps i ≡ false → map (event_at es) ps ≡ chosen S i (e ∷ rest)
  without_first i e rest ps more s l n =
      more ps (stands_rest es i e rest s) (passed i e rest ps l n) ∙ ap (λ b. cond b (e ∷ chosen S (suc i) rest) (chosen S (suc i) rest)) (sym (l.same i (omega arith) ∙ n))

  with_first : (i p : ℕ) (e : Object) (rest : List Object) (ps : List ℕ) → AreChosen rest (suc i) → StandsAt es i (e ∷ rest) → Left i (e ∷ rest) (p ∷ ps) → p ≡ i → map (event_at es) (p ∷ ps) ≡ chosen S i (e ∷ rest)
  with_first i p e rest ps more s l q =
      let first = ap (event_at es) q ∙ stands_first es i e rest s in
      let here : S i ≡ true = l.same i (omega arith) ∙ (ap (among (p ∷ ps)) (sym q) ∙ itself p ps) in
      ap (λ z. z ∷ map (event_at es) ps) first
      ∙ (ap (λ z. e ∷ z) (more ps (stands_rest es i e rest s) (taken i p e rest ps l q)) ∙ ap (λ b. cond b (e ∷ chosen S (suc i) rest) (chosen S (suc i) rest)) (sym here))

  chosen_are : (rest : List Object) (i : ℕ) → AreChosen rest i
  chosen_are [] i [] s l = refl
  chosen_are [] i (p ∷ ps) s l =
      let a : i ≤ p = l.above p (itself p ps) in
      let b : p < i + 0 = l.below p (itself p ps) in
      absurd (omega arith)
  chosen_are (e ∷ rest) i [] s l = without_first i e rest [] (chosen_are rest (suc i)) s l refl
  chosen_are (e ∷ rest) i (p ∷ ps) s l =
      elim (cases_Bool (eqb p i)) as (λ o. map (event_at es) (p ∷ ps) ≡ chosen S i (e ∷ rest)) [
        | inl q ↦ with_first i p e rest ps (chosen_are rest (suc i)) s l (eqb-true p i q)
        | inr q ↦ without_first i e rest (p ∷ ps) (chosen_are rest (suc i)) s l (later q)
      ]
    where
      later : eqb p i ≡ false → among (p ∷ ps) i ≡ false
      later q =
          let a : i ≤ p = l.above p (itself p ps) in
          among_rest p i ps (eqb-false p i q) ∙ false_from_ne_true (among ps i) (λ h. let b : p < i = first_least p ps l.ascending i h in omega arith)

pub places_chosen : (es : List Object) (ps : List ℕ) → is_ascending ps ≡ true → ((j : ℕ) → among ps j ≡ true → j < length es) → map (event_at es) ps ≡ chosen (among ps) 0 es
places_chosen es ps a b = chosen_are es (among ps) es 0 ps (λ k. ap (event_at es) (omega arith)) (record { ascending = a; above = λ j h. omega arith; below = λ j h. (let l : j < length es = b j h in omega arith); same = λ j l. refl })

-- ---- the greatest place

pub record EventsEnd (es : List Object) (goal : ℕ) (ps : List ℕ) : Type 0 where
  pub earlier : List Object
  pub is : map (event_at es) ps ≡ earlier ++ event_at es goal ∷ []

pub ends_with : (es : List Object) (goal : ℕ) (ps : List ℕ) → is_ascending ps ≡ true → among ps goal ≡ true → ((j : ℕ) → among ps j ≡ true → j ≤ goal) → EventsEnd es goal ps
ends_with es goal [] a h b = cc
ends_with es goal (p ∷ []) a h b = elim (or_cases (eqb p goal) false h) as (λ o. EventsEnd es goal (p ∷ [])) [ inl q ↦ record { earlier = []; is = ap (λ j. event_at es j ∷ []) (eqb-true p goal q) } | inr q ↦ cc ]
ends_with es goal (p ∷ q ∷ ps) a h b =
    let l : p < q = first_least p (q ∷ ps) a q (itself q ps) in
    let m : q ≤ goal = b q (or_right (eqb p q) (among (q ∷ ps) q) (itself q ps)) in
    let there : among (q ∷ ps) goal ≡ true = sym (among_rest p goal (q ∷ ps) (λ e. omega arith)) ∙ h in
    let r = ends_with es goal (q ∷ ps) (rest_ascending p (q ∷ ps) a) there (λ j k. b j (or_right (eqb p j) (among (q ∷ ps) j) k)) in
    record { earlier = event_at es p ∷ r.earlier; is = ap (λ z. event_at es p ∷ z) r.is }
