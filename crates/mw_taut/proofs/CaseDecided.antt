-- What comes of a case, by what the formula comes to.
use Rattle.std.proofs.Common.{◌≡◌, ℕ, Bool, true, false, not, cond, List, [], ◌∷◌, ◌++◌, map, length, refl, sym, ap, ap₂, ◌∙◌, arith, length-append}
use Rattle.std.proofs.lemmas.Bool.{and_parts}
use Rattle.mw_model.specs.Terms.Object.{Object, Pair, truth_of}
use Rattle.mw_model.specs.Terms.Term.{Formula, Equal, Not, Or, formula_object, ArityTable, is_formula}
use Rattle.mw_model.specs.Terms.Same.{same_formula}
use Rattle.mw_model.specs.Values.Truth.{Each}
use Rattle.mw_model.proofs.SameTerms.{same_formula-refl}
use Rattle.mw_commands.specs.Commands.Tautology.{Choice, choices, chosen, value_by, first_against, choice_object}
use Rattle.mw_taut.specs.declared.case.Outcome.{Outcome}
use Rattle.mw_taut.specs.declared.case.Outcome.TheVariants.{Proof, Against}
use Rattle.mw_taut.specs.declared.rule.TheConstants.{COMMUTED, RESOLVED, CARRIED}
use Rattle.mw_taut.specs.Rules.{rule_made}
use Rattle.mw_taut.specs.Reducing.{ValueAndProof, Form, Fixed, Kept, Changed}
use Rattle.mw_taut.specs.Meaning.{literal, IsEquation, AreApart, Over, IsFixed, IsForm}
use Rattle.mw_taut.specs.Cases.{answer_at, Answer, Proved, Falsified, choice_list, ended, entered, carried, IsEntered, going_on, choice_of, Follows, Decides, DecidesWhere}
use Rattle.mw_taut.proofs.Reduces.{literal_formed, from_kept}
use Rattle.mw_taut.proofs.Proved.{Good, left_part, right_part, good_closed}
use Rattle.mw_taut.proofs.Schemes.{letter, no, either, formula, known, itself, proved, rule_means}
use Rattle.mw_taut.proofs.Falsified.{or_else, first_by_value, first_of_same, none_against, all_false, first_against-false}

-- a formula has an equation
pub over_none : (F : Formula) → Over [] F → ⊥
over_none (Equal a b) h = cc h
over_none (Not F) h = over_none F h
over_none (Or F G) h = over_none F h.0

-- ---- what the choices say

pub apart_at : (before : List Formula) (E : Formula) (rest : List Formula) (bs : List Bool) (b : Bool) (d : Choice) → AreApart (before ++ E ∷ rest) → chosen ((choice_of before bs ++ (E, b) ∷ []) ++ d) E ≡ b
apart_at [] E rest bs b d h = ap (λ x. cond x b (chosen d E)) (same_formula-refl E)
apart_at (G ∷ before) E rest [] b d h = ap (λ x. cond x b (chosen d E)) (same_formula-refl E)
apart_at (G ∷ before) E rest (v ∷ bs) b d h = ap (λ x. cond x v (chosen ((choice_of before bs ++ (E, b) ∷ []) ++ d) E)) (at_last before h.0) ∙ apart_at before E rest bs b d h.1
  where
    at_last : (Fs : List Formula) → Each (λ H. same_formula G H ≡ false) (Fs ++ E ∷ rest) → same_formula G E ≡ false
    at_last [] i = i.0
    at_last (F ∷ Fs) i = at_last Fs i.1

pub longer_choice : (before : List Formula) (bs : List Bool) (E : Formula) (b : Bool) → length bs ≡ length before → choice_of (before ++ E ∷ []) (bs ++ b ∷ []) ≡ choice_of before bs ++ (E, b) ∷ []
longer_choice [] [] E b e = refl
longer_choice [] (v ∷ bs) E b e = absurd (omega (arith, e))
longer_choice (G ∷ before) [] E b e = absurd (omega (arith, e))
longer_choice (G ∷ before) (v ∷ bs) E b e = ap (λ l. (G, v) ∷ l) (longer_choice before bs E b (omega (arith, e)))

list_of_false : (Es : List Formula) → choice_list (map formula_object Es) [] ≡ choice_object (all_false Es)
list_of_false [] = refl
list_of_false (E ∷ Es) = ap (λ l. Pair (Pair (formula_object E) (truth_of false)) l) (list_of_false Es)

list_of_choice : (Es rest : List Formula) (bs : List Bool) → length bs ≡ length Es → choice_list (map formula_object (Es ++ rest)) bs ≡ choice_object (choice_of Es bs ++ all_false rest)
list_of_choice [] rest [] e = list_of_false rest
list_of_choice [] rest (b ∷ bs) e = absurd (omega (arith, e))
list_of_choice (E ∷ Es) rest [] e = absurd (omega (arith, e))
list_of_choice (E ∷ Es) rest (b ∷ bs) e = ap (λ l. Pair (Pair (formula_object E) (truth_of b)) l) (list_of_choice Es rest bs (omega (arith, e)))

-- ---- one case

module _ (A : ArityTable) (F : Formula) (before : List Formula) (E : Formula) (rest : List Formula) (b : Bool) (bs : List Bool) (apart : AreApart (before ++ E ∷ rest)) (equation : IsEquation E) (many : length bs ≡ length before) where
  abbrev D : Formula
  D = literal (not b) E

  abbrev c : Choice
  c = choice_of before bs

  abbrev longer : Choice
  longer = c ++ (E, b) ∷ []

  -- where the value is fixed
  pub decided_ended : (s : ValueAndProof) → IsFixed A E b rest s F →
      DecidesWhere A c E b rest F (ended (formula_object D) (formula_object F) (map formula_object ((before ++ E ∷ []) ++ rest)) (bs ++ b ∷ []) s)
  decided_ended s h = go s.0 s.1 h.0 h.1
    where
      go : (v : Bool) (p : Object) → ((w : Formula → Bool) → w E ≡ b → v ≡ value_by w F) → Good A p (Or (literal v F) D) →
          DecidesWhere A c E b rest F (ended (formula_object D) (formula_object F) (map formula_object ((before ++ E ∷ []) ++ rest)) (bs ++ b ∷ []) (v, p))
      go true p e g = (
        rule_means A (good_closed A) (F ∷ D ∷ []) COMMUTED (itself 0 (left_part A F D p g) ∷ itself 1 (right_part A F D p g) ∷ proved (either (letter 0) (letter 1)) p g ∷ []),
        λ w h. sym (e w h),
      )
      go false p e g =
          let count : length (bs ++ b ∷ []) ≡ length (before ++ E ∷ []) = omega (arith, many, length-append bs (b ∷ []), length-append before (E ∷ [])) in (
            longer ++ all_false rest,
            first_against-false longer rest F (λ d. e (chosen (longer ++ d)) (apart_at before E rest bs b d apart)),
            list_of_choice (before ++ E ∷ []) rest (bs ++ b ∷ []) count ∙ ap (λ x. choice_object (x ++ all_false rest)) (longer_choice before bs E b many),
          )

  -- where the formula follows from another one
  pub decided_carried : (d y q : Object) (H : Formula) (a : Answer) → Follows A E b rest d y q F H → Decides A longer rest H a → DecidesWhere A c E b rest F (carried d (formula_object F) y q a)
  decided_carried d y q H (Proved p) h i =
      let both = and_parts (is_formula A F) (is_formula A D) (right_part A (Not H) (Or F D) q h.from) in
      let from = proved (either (no (letter 2)) (either (letter 0) (letter 1))) q h.from in (
        rule_means A (good_closed A) (F ∷ D ∷ H ∷ []) CARRIED
            (itself 0 both.0 ∷ known (formula (letter 1)) d (h.context, both.1) ∷ known (formula (letter 2)) y (h.formula, left_part A (Not H) (Or F D) q h.from) ∷ proved (letter 2) p i.0 ∷ from ∷ []),
        λ w e. h.same w e ∙ i.1 w,
      )
  decided_carried d y q H (Falsified x) h i =
      (i.0, first_of_same longer (choices rest) F H (λ t. h.same (chosen (longer ++ t)) (apart_at before E rest bs b t apart)) ∙ i.1, i.2)

  -- what the formula comes to
  pub decided_entered : (r : Form) → is_formula A E ≡ true → IsForm A E b rest r F → IsEntered A c E b rest F (entered (formula_object D) (formula_object F) (map formula_object ((before ++ E ∷ []) ++ rest)) (bs ++ b ∷ []) r)
  decided_entered (Fixed s) f h = decided_ended s h
  decided_entered Kept f h = (F, record { context = refl; formula = refl; over = h.0; same = λ v e. refl; from = from_kept A E b rest (literal_formed A (not b) E f) F h.1 })
  decided_entered (Changed s) f h = (h.0, record { context = refl; formula = h.1.formula; over = h.1.over; same = h.1.same; from = h.1.from })

pub carried_same : (d d' x x' y y' q q' : Object) (a : Answer) → d ≡ d' → x ≡ x' → y ≡ y' → q ≡ q' → carried d x y q a ≡ carried d' x' y' q' a
carried_same d d' x x' y y' q q' a e f g h = ap₂ (λ u v. carried u v y q a) e f ∙ ap₂ (λ u v. carried d' x' u v a) g h

-- ---- both cases

module _ (A : ArityTable) (F : Formula) (c : Choice) (E : Formula) (rest : List Formula) where
  -- where an equation is false
  pub decided_first : (os : List Object) (o : Outcome) → ((p : ℕ) → o ≡ Proof p → ⊥) → DecidesWhere A c E false rest F (answer_at os o) → Decides A c (E ∷ rest) F (answer_at os o)
  decided_first os (Proof p) none h = absurd (none p refl)
  decided_first os (Against x) none h = (h.0, first_by_value c E rest F ∙ ap (λ o. or_else o (first_against (going_on (c ++ (E, true) ∷ []) (choices rest)) F)) h.1, h.2)

  -- where it is true, after a proof for where it is false
  module _ (at : (d : Choice) → chosen ((c ++ (E, false) ∷ []) ++ d) E ≡ false) (p : Object) (h : DecidesWhere A c E false rest F (Proved p)) where
    pub decided_both : (q : Object) → DecidesWhere A c E true rest F (Proved q) → Decides A c (E ∷ rest) F (Proved (rule_made RESOLVED (formula_object F ∷ p ∷ q ∷ [])))
    decided_both q k = (
      rule_means A (good_closed A) (F ∷ E ∷ []) RESOLVED (itself 0 (right_part A E F p h.0) ∷ proved (either (letter 1) (letter 0)) p h.0 ∷ proved (either (no (letter 1)) (letter 0)) q k.0 ∷ []),
      λ w. by_value w (w E) refl,
    )
      where
        by_value : (w : Formula → Bool) (b : Bool) → w E ≡ b → value_by w F ≡ true
        by_value w true e = k.1 w e
        by_value w false e = h.1 w e

    pub decided_second : (os : List Object) (o : Outcome) → ((q : ℕ) → o ≡ Proof q → ⊥) → DecidesWhere A c E true rest F (answer_at os o) → Decides A c (E ∷ rest) F (answer_at os o)
    decided_second os (Proof q) none k = absurd (none q refl)
    decided_second os (Against x) none k =
        let fixed = none_against (c ++ (E, false) ∷ []) (choices rest) F (λ d. sym (h.1 (chosen ((c ++ (E, false) ∷ []) ++ d)) (at d))) in
        (k.0, first_by_value c E rest F ∙ (ap (λ o. or_else o (first_against (going_on (c ++ (E, true) ∷ []) (choices rest)) F)) fixed ∙ k.1), k.2)
