-- What each part of a formula comes to where the equation E has the value b.
use Rattle.std.proofs.Common.{◌≡◌, ℕ, ◌+◌, Bool, true, false, ◌||◌, not, cond, List, [], ◌∷◌, map, Option, Some, None, refl, sym, ap, ap₂, ◌∙◌, subst}
use Rattle.mw_model.specs.Terms.Object.{Object, same_object}
use Rattle.mw_model.specs.Terms.Term.{Formula, Equal, Not as Denial, Or as Either, formula_object, ArityTable, is_formula}
use Rattle.mw_model.specs.Terms.Same.{same_formula}
use Rattle.mw_model.proofs.Names.{same_object-eq, same_object-from}
use Rattle.mw_model.proofs.SameTerms.{same_formula-eq}
use Rattle.mw_model.proofs.Read.{formula_object-one}
use Rattle.std.proofs.lemmas.Bool.{both_ways, and_from}
use Rattle.mw_commands.specs.Commands.Tautology.{value_by}
use Rattle.mw_taut.specs.declared.rule.TheConstants.{SCHEMA, DOUBLED, LEFT, RIGHT, NEITHER, LAW, KEPT, KEPT_FROM, DENIAL, UNDENIED, FIRST, SECOND, BOTH, FIRST_KEPT, SECOND_KEPT}
use Rattle.mw_taut.specs.Rules.{rule_made}
use Rattle.mw_taut.specs.Reducing.{ValueAndProof, Other, Form, Fixed, Kept, Changed, change_of, literal_object, literal_law, reduce_equation, kept, deny_value, deny_other, deny, either_value, either_both, either_other, either}
use Rattle.mw_taut.specs.Meaning.{literal, IsEquation, among, Over, IsDenialOf, IsFixed, ComesTo, IsForm}
use Rattle.mw_taut.proofs.Proved.{Good, IsFormed, left_part, good_closed}
use Rattle.mw_taut.proofs.Schemes.{AreClosed, Scheme, letter, no, either as or, formula, rule_value, Known, known, value, object, Means, itself, proved, meant, rule_means}

not_not : (b : Bool) → not (not b) ≡ b
not_not true = refl
not_not false = refl

or_true : (b : Bool) → true ≡ (b || true)
or_true true = refl
or_true false = refl

or_false : (b : Bool) → (b || false) ≡ b
or_false true = refl
or_false false = refl

pub literal_is : (b : Bool) (E : Formula) → literal_object (formula_object E) b ≡ formula_object (literal b E)
unfolding rule_made
literal_is true E = refl
literal_is false E = refl

-- ---- schemes of what rules are given

abbrev context : Scheme
context = letter 0

abbrev first : Scheme
first = letter 1

abbrev second : Scheme
second = letter 2

abbrev third : Scheme
third = letter 3

abbrev fourth : Scheme
fourth = letter 4

module _ (A : ArityTable) where
  abbrev Given : List Formula → Type 0
  Given Fs = List (Known (Good A) (IsFormed A) Fs)

  pub law_proves : {P : Object → Formula → Type 0} {Q : Formula → Type 0} → AreClosed A P Q → (b : Bool) (E : Formula) → Q E → P (literal_law (formula_object E) b) (Either (literal b E) (literal (not b) E))
  law_proves closed true E h = rule_means A closed (E ∷ []) LAW (itself 0 h ∷ [])
  law_proves closed false E h = rule_means A closed (E ∷ []) SCHEMA (itself 0 h ∷ [])

  pub literal_formed : (b : Bool) (E : Formula) → is_formula A E ≡ true → is_formula A (literal b E) ≡ true
  literal_formed true E h = h
  literal_formed false E h = h

  value_of_equation : (v : Formula → Bool) (E : Formula) → IsEquation E → value_by v E ≡ v E
  value_of_equation v (Equal a b) h = refl
  value_of_equation v (Denial F) h = absurd h
  value_of_equation v (Either F G) h = absurd h

  module _ (E : Formula) (b : Bool) (rest : List Formula) where
    abbrev D : Formula
    D = literal (not b) E

    abbrev Fixes : ValueAndProof → Formula → Type 0
    Fixes s G = IsFixed A E b rest s G

    abbrev Comes : Other → Formula → Formula → Type 0
    Comes s G H = ComesTo A E b rest s G H

    formed_first : (s : Other) (G H : Formula) → Comes s G H → is_formula A G ≡ true
    formed_first s G H h = left_part A (Denial G) (Either D H) s.to h.to

    formed_second : (s : Other) (G H : Formula) → Comes s G H → is_formula A H ≡ true
    formed_second s G H h = left_part A (Denial H) (Either G D) s.from h.from

    formed_fixed : (s : ValueAndProof) (G : Formula) → Fixes s G → is_formula A G ≡ true
    formed_fixed s G h = go s.0 s.1 h.1
      where
        go : (c : Bool) (p : Object) → Good A p (Either (literal c G) D) → is_formula A G ≡ true
        go true p g = left_part A G D p g
        go false p g = left_part A (Denial G) D p g

    -- ---- an equation

    pub equation_reduced : (G : Formula) → IsEquation E → IsEquation G → is_formula A E ≡ true → is_formula A G ≡ true → Over (E ∷ rest) G → IsForm A E b rest (reduce_equation (formula_object E) b (formula_object G)) G
    equation_reduced G e g f i over = go (same_object (formula_object G) (formula_object E)) refl
      where
        over_rest : (G : Formula) → IsEquation G → same_formula G E ≡ false → Over (E ∷ rest) G → Over rest G
        over_rest (Equal x y) g n o = ap (λ c. c || among (Equal x y) rest) (sym n) ∙ o
        over_rest (Denial F) g n o = absurd g
        over_rest (Either F H) g n o = absurd g

        apart : (c : Bool) → same_formula G E ≡ c → same_object (formula_object G) (formula_object E) ≡ false → same_formula G E ≡ false
        apart true is n = absurd (both_ways (same_object (formula_object G) (formula_object E)) n (same_object-from (formula_object G) (formula_object E) (ap formula_object (same_formula-eq G E is))))
        apart false is n = is

        go : (c : Bool) → same_object (formula_object G) (formula_object E) ≡ c → IsForm A E b rest (reduce_equation (formula_object E) b (formula_object G)) G
        go true is =
            let same : E ≡ G = sym (formula_object-one A A G E i f (same_object-eq (formula_object G) (formula_object E) is)) in
            subst (λ c. IsForm A E b rest (cond c (Fixed (b, literal_law (formula_object E) b)) Kept) G) (sym is)
            (subst (Fixes (b, literal_law (formula_object E) b)) same (λ v h. sym h ∙ sym (value_of_equation v E e), law_proves (good_closed A) b E f))
        go false is =
            subst (λ c. IsForm A E b rest (cond c (Fixed (b, literal_law (formula_object E) b)) Kept) G) (sym is) (over_rest G g (apart (same_formula G E) refl is) over, i)

    module _ (d : is_formula A D ≡ true) where
      -- what rules make of what is given
      abbrev made : (Fs : List Formula) → (n : ℕ) (given : Given Fs) → Means (Good A) (IsFormed A) Fs (rule_value n (map value given)) (rule_made n (map object given))
      made Fs = rule_means A (good_closed A) Fs

      -- x, which comes to y
      abbrev changes : (Fs : List Formula) (x y : Scheme) (s : Other) → Comes s (meant (D ∷ Fs) x) (meant (D ∷ Fs) y) → Given (D ∷ Fs) → Given (D ∷ Fs)
      changes Fs x y s h others =
          known (formula y) s.formula (h.formula, formed_second s (meant (D ∷ Fs) x) (meant (D ∷ Fs) y) h)
          ∷ (proved (or (no y) (or x context)) s.from h.from ∷ (proved (or (no x) (or context y)) s.to h.to ∷ others))

      -- ---- a part that is kept

      pub from_kept : (G : Formula) → is_formula A G ≡ true → Good A (rule_made KEPT_FROM (formula_object D ∷ formula_object G ∷ [])) (Either (Denial G) (Either G D))
      from_kept G g = made (D ∷ G ∷ []) KEPT_FROM (itself 0 d ∷ itself 1 g ∷ [])

      kept_comes : (G : Formula) → Over rest G → is_formula A G ≡ true → Comes (kept (formula_object D) (formula_object G)) G G
      kept_comes G over g =
          let given : Given (D ∷ G ∷ []) = itself 0 d ∷ itself 1 g ∷ [] in
          record { formula = (made (D ∷ G ∷ []) KEPT given).0; denied = tt; over = over; same = λ v h. refl; from = made (D ∷ G ∷ []) (KEPT + 1) given; to = made (D ∷ G ∷ []) (KEPT + 2) given }

      -- ---- a denial

      value_denied : (G : Formula) (s : ValueAndProof) → Fixes s G → Fixes (deny_value (formula_object D) (formula_object G) s) (Denial G)
      value_denied G s h = go s.0 s.1 h
        where
          go : (c : Bool) (p : Object) → Fixes (c, p) G → Fixes (deny_value (formula_object D) (formula_object G) (c, p)) (Denial G)
          go true p h = (λ v e. ap not (h.0 v e), made (D ∷ G ∷ []) DOUBLED (itself 1 (formed_fixed (true, p) G h) ∷ itself 0 d ∷ proved (or first context) p h.1 ∷ []))
          go false p h = (λ v e. ap not (h.0 v e), h.1)

      other_denied : (G H : Formula) (s : Other) → Comes s G H → Comes (deny_other (formula_object D) (formula_object G) s None) (Denial G) (Denial H)
      other_denied G H s h =
          let given : Given (D ∷ G ∷ H ∷ []) = itself 0 d ∷ (itself 1 (formed_first s G H h) ∷ changes (G ∷ H ∷ []) first second s h []) in
          let rule = made (D ∷ G ∷ H ∷ []) in
          record { formula = (rule DENIAL given).0; denied = (H, refl, h.formula); over = h.over; same = λ v e. ap not (h.same v e); from = rule (DENIAL + 1) given; to = rule (DENIAL + 2) given }

      other_undenied : (G K : Formula) (s : Other) (z : Object) → z ≡ formula_object K → Comes s G (Denial K) → Comes (deny_other (formula_object D) (formula_object G) s (Some z)) (Denial G) K
      other_undenied G K s z is h =
          let given : Given (D ∷ G ∷ K ∷ []) = itself 0 d ∷ (itself 1 (formed_first s G (Denial K) h) ∷ changes (G ∷ K ∷ []) first (no second) s h (known (formula second) z (is, formed_second s G (Denial K) h) ∷ [])) in
          let rule = made (D ∷ G ∷ K ∷ []) in
          record { formula = (rule UNDENIED given).0; denied = tt; over = h.over; same = λ v e. ap not (h.same v e) ∙ not_not (value_by v K); from = rule (UNDENIED + 1) given; to = rule (UNDENIED + 2) given }

      other_deny : (G H : Formula) (s : Other) → Comes s G H → IsForm A E b rest (Changed (deny_other (formula_object D) (formula_object G) s s.denied)) (Denial G)
      other_deny G H s h = go s.denied h.denied
        where
          go : (o : Option Object) → IsDenialOf o H → IsForm A E b rest (Changed (deny_other (formula_object D) (formula_object G) s o)) (Denial G)
          go None i = (Denial H, other_denied G H s h)
          go (Some z) i = (i.0, other_undenied G i.0 s z i.2 (subst (Comes s G) i.1 h))

      pub denied_form : (G : Formula) (r : Form) → IsForm A E b rest r G → IsForm A E b rest (deny (formula_object D) (formula_object G) r) (Denial G)
      denied_form G (Fixed s) h = value_denied G s h
      denied_form G Kept h = h
      denied_form G (Changed s) h = other_deny G h.0 s h.1

      -- ---- a disjunction

      left_fixed : (G K : Formula) (p : Object) → is_formula A K ≡ true → Fixes (true, p) G → Fixes (true, rule_made LEFT (formula_object G ∷ formula_object K ∷ formula_object D ∷ p ∷ [])) (Either G K)
      left_fixed G K p k h = (
        λ v e. ap (λ c. c || value_by v K) (h.0 v e),
        made (D ∷ G ∷ K ∷ []) LEFT (itself 1 (formed_fixed (true, p) G h) ∷ itself 2 k ∷ itself 0 d ∷ proved (or first context) p h.1 ∷ []),
      )

      right_fixed : (G K : Formula) (p : Object) → is_formula A G ≡ true → Fixes (true, p) K → Fixes (true, rule_made RIGHT (formula_object G ∷ formula_object K ∷ formula_object D ∷ p ∷ [])) (Either G K)
      right_fixed G K p g h = (
        λ v e. or_true (value_by v G) ∙ ap (λ c. value_by v G || c) (h.0 v e),
        made (D ∷ G ∷ K ∷ []) RIGHT (itself 1 g ∷ itself 2 (formed_fixed (true, p) K h) ∷ itself 0 d ∷ proved (or second context) p h.1 ∷ []),
      )

      both_fixed : (G K : Formula) (s t : ValueAndProof) → Fixes s G → Fixes t K → Fixes (either_value (formula_object D) (formula_object G) (formula_object K) s t) (Either G K)
      both_fixed G K s t h i = go s.0 t.0 s.1 t.1 h i
        where
          go : (c e : Bool) (p q : Object) → Fixes (c, p) G → Fixes (e, q) K → Fixes (either_value (formula_object D) (formula_object G) (formula_object K) (c, p) (e, q)) (Either G K)
          go true e p q h i = left_fixed G K p (formed_fixed (e, q) K i) h
          go false true p q h i = right_fixed G K q (formed_fixed (false, p) G h) i
          go false false p q h i = (
            λ v e. ap₂ (λ c d. c || d) (h.0 v e) (i.0 v e),
            made (D ∷ G ∷ K ∷ []) NEITHER
                (itself 1 (formed_fixed (false, p) G h) ∷ itself 2 (formed_fixed (false, q) K i) ∷ itself 0 d ∷ proved (or (no first) context) p h.1 ∷ proved (or (no second) context) q i.1 ∷ []),
          )

      fixed_before : (G K H : Formula) (s : ValueAndProof) (t : Other) → Fixes s G → Comes t K H → IsForm A E b rest (either_other LEFT SECOND (formula_object D) (formula_object G) (formula_object K) s t) (Either G K)
      fixed_before G K H s t h i = go s.0 s.1 h
        where
          go : (c : Bool) (p : Object) → Fixes (c, p) G → IsForm A E b rest (either_other LEFT SECOND (formula_object D) (formula_object G) (formula_object K) (c, p) t) (Either G K)
          go true p h = left_fixed G K p (formed_first t K H i) h
          go false p h =
              let given : Given (D ∷ G ∷ K ∷ H ∷ []) = itself 0 d ∷ (itself 1 (formed_fixed (false, p) G h) ∷ (itself 2 (formed_first t K H i) ∷ changes (G ∷ K ∷ H ∷ []) second third t i (proved (or (no first) context) p h.1 ∷ []))) in
              let rule = made (D ∷ G ∷ K ∷ H ∷ []) in
              (H, record { formula = (rule SECOND given).0; denied = i.denied; over = i.over; same = λ v e. ap₂ (λ c d. c || d) (sym (h.0 v e)) (i.same v e); from = rule (SECOND + 1) given; to = rule (SECOND + 2) given })

      fixed_after : (G K H : Formula) (s : Other) (t : ValueAndProof) → Comes s G H → Fixes t K → IsForm A E b rest (either_other RIGHT FIRST (formula_object D) (formula_object G) (formula_object K) t s) (Either G K)
      fixed_after G K H s t h i = go t.0 t.1 i
        where
          go : (c : Bool) (q : Object) → Fixes (c, q) K → IsForm A E b rest (either_other RIGHT FIRST (formula_object D) (formula_object G) (formula_object K) (c, q) s) (Either G K)
          go true q i = right_fixed G K q (formed_first s G H h) i
          go false q i =
              let given : Given (D ∷ G ∷ K ∷ H ∷ []) = itself 0 d ∷ (itself 1 (formed_first s G H h) ∷ (itself 2 (formed_fixed (false, q) K i) ∷ changes (G ∷ K ∷ H ∷ []) first third s h (proved (or (no second) context) q i.1 ∷ []))) in
              let rule = made (D ∷ G ∷ K ∷ H ∷ []) in
              (H, record { formula = (rule FIRST given).0; denied = h.denied; over = h.over; same = λ v e. ap₂ (λ c d. c || d) (h.same v e) (sym (i.0 v e)) ∙ or_false (value_by v H); from = rule (FIRST + 1) given; to = rule (FIRST + 2) given })

      both_come : (G K H L : Formula) (s t : Other) → Comes s G H → Comes t K L → Comes (either_both (formula_object D) (formula_object G) (formula_object K) s t) (Either G K) (Either H L)
      both_come G K H L s t h i =
          let Fs = G ∷ K ∷ H ∷ L ∷ [] in
          let given : Given (D ∷ Fs) = itself 0 d ∷ (itself 1 (formed_first s G H h) ∷ (itself 2 (formed_first t K L i) ∷ changes Fs first third s h (changes Fs second fourth t i []))) in
          let rule = made (D ∷ Fs) in
          record { formula = (rule BOTH given).0; denied = tt; over = (h.over, i.over); same = λ v e. ap₂ (λ c d. c || d) (h.same v e) (i.same v e); from = rule (BOTH + 1) given; to = rule (BOTH + 2) given }

      first_kept_comes : (G K L : Formula) (t : Other) → Over rest G → is_formula A G ≡ true → Comes t K L →
          Comes (change_of FIRST_KEPT None (formula_object D ∷ formula_object G ∷ formula_object K ∷ t.formula ∷ t.from ∷ t.to ∷ [])) (Either G K) (Either G L)
      first_kept_comes G K L t o g i =
          let given : Given (D ∷ G ∷ K ∷ L ∷ []) = itself 0 d ∷ (itself 1 g ∷ (itself 2 (formed_first t K L i) ∷ changes (G ∷ K ∷ L ∷ []) second third t i [])) in
          let rule = made (D ∷ G ∷ K ∷ L ∷ []) in
          record { formula = (rule FIRST_KEPT given).0; denied = tt; over = (o, i.over); same = λ v e. ap (λ c. value_by v G || c) (i.same v e); from = rule (FIRST_KEPT + 1) given; to = rule (FIRST_KEPT + 2) given }

      second_kept_comes : (G K H : Formula) (s : Other) → Comes s G H → Over rest K → is_formula A K ≡ true →
          Comes (change_of SECOND_KEPT None (formula_object D ∷ formula_object G ∷ formula_object K ∷ s.formula ∷ s.from ∷ s.to ∷ [])) (Either G K) (Either H K)
      second_kept_comes G K H s h o k =
          let given : Given (D ∷ G ∷ K ∷ H ∷ []) = itself 0 d ∷ (itself 1 (formed_first s G H h) ∷ (itself 2 k ∷ changes (G ∷ K ∷ H ∷ []) first third s h [])) in
          let rule = made (D ∷ G ∷ K ∷ H ∷ []) in
          record { formula = (rule SECOND_KEPT given).0; denied = tt; over = (h.over, o); same = λ v e. ap (λ c. c || value_by v K) (h.same v e); from = rule (SECOND_KEPT + 1) given; to = rule (SECOND_KEPT + 2) given }

      pub either_form : (G K : Formula) (r s : Form) → IsForm A E b rest r G → IsForm A E b rest s K → IsForm A E b rest (either (formula_object D) (formula_object G) (formula_object K) r s) (Either G K)
      either_form G K (Fixed s) (Fixed t) h i = both_fixed G K s t h i
      either_form G K (Fixed s) Kept h i = fixed_before G K K s (kept (formula_object D) (formula_object K)) h (kept_comes K i.0 i.1)
      either_form G K (Fixed s) (Changed t) h i = fixed_before G K i.0 s t h i.1
      either_form G K Kept (Fixed t) h i = fixed_after G K G (kept (formula_object D) (formula_object G)) t (kept_comes G h.0 h.1) i
      either_form G K Kept Kept h i = ((h.0, i.0), and_from (is_formula A G) (is_formula A K) h.1 i.1)
      either_form G K Kept (Changed t) h i = (Either G i.0, first_kept_comes G K i.0 t h.0 h.1 i.1)
      either_form G K (Changed s) (Fixed t) h i = fixed_after G K h.0 s t h.1 i
      either_form G K (Changed s) Kept h i = (Either h.0 K, second_kept_comes G K h.0 s h.1 i.0 i.1)
      either_form G K (Changed s) (Changed t) h i = (Either h.0 i.0, both_come G K h.0 i.0 s t h.1 i.1)
