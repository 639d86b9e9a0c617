-- What comes of the whole formula is the expected decision.
use Rattle.std.proofs.Common.{◌≡◌, ℕ, ◌≤◌, arith, Bool, true, false, ltb, List, [], map, length, Option, Some, None, refl, sym, ap, ◌∙◌, subst}
use Rattle.std.proofs.lemmas.Bool.{le-ltb}
use Rattle.std.proofs.lemmas.List.{length-map}
use Rattle.std.specs.Prelude.{if◌then◌else◌}
use Rattle.mw_model.specs.Terms.Object.{Object}
use Rattle.mw_model.specs.Terms.Term.{Formula, Equal, Not, Or, formula_object, ArityTable, is_formula}
use Rattle.mw_model.specs.Events.Fate.{is_out_of_range}
use Rattle.mw_model.specs.Values.Truth.{Each}
use Rattle.mw_commands.specs.Commands.Tautology.{all_equations, equations, choices, first_against, falsifying, decided, decision, most_equations, Choice as Chosen, Many as ManyExpected}
use Rattle.mw_commands.proofs.Tautologies.{tautology_exact}
use Rattle.mw_heap.specs.Objects.{object_at}
use Rattle.mw_taut.specs.declared.table.Table.{Table}
use Rattle.mw_taut.specs.declared.case.Outcome.{Outcome}
use Rattle.mw_taut.specs.declared.case.Outcome.TheVariants.{Proof as Proven, Against}
use Rattle.mw_taut.specs.declared.deciding.Decision.{Decision}
use Rattle.mw_taut.specs.declared.deciding.Decision.TheVariants.{Proof, Choice}
use Rattle.mw_taut.specs.Meaning.{among, Over, IsEquation}
use Rattle.mw_taut.specs.Cases.{Decides, answer_at, choice_of, IsOutcomeIn, IsPosed}
use Rattle.mw_taut.specs.Decided.{IsTableOf, IsDecision}
use Rattle.mw_taut.proofs.Falsified.{going_on-nothing}
use Rattle.mw_taut.proofs.Elements.{each_parts}
use Rattle.mw_taut.proofs.FirstOccurrences.{all_among, of_first, each_first, firsts_apart, are_equations, equations_formed}

over_all : (es : List Formula) (F : Formula) → Each (λ E. among E es ≡ true) (all_equations F) → Over es F
over_all es (Equal a b) h = h.0
over_all es (Not F) h = over_all es F h
over_all es (Or F G) h = let k = each_parts (λ E. among E es ≡ true) (all_equations F) (all_equations G) h in (over_all es F k.0, over_all es G k.1)

-- at first nothing is chosen
pub first_posed : (A : ArityTable) (os : List Object) (f : ℕ) (F : Formula) (t : Table) (es : List ℕ) → es ≡ t.equations.items → object_at os f ≡ formula_object F → is_formula A F ≡ true → IsTableOf os F t → IsPosed A os es [] f F [] (equations F)
first_posed A os f F t es same e formed h = record {
  object = e;
  formed = formed;
  equations_are = ap (map (object_at os)) same ∙ h.equations_are;
  many = refl;
  apart = firsts_apart (all_equations F);
  all = each_first IsEquation (all_equations F) (are_equations F);
  all_formed = each_first (λ E. is_formula A E ≡ true) (all_equations F) (equations_formed A F formed);
  over = over_all (equations F) F (of_first (λ E. among E (equations F) ≡ true) (all_equations F) (all_among [] (equations F)));
}

-- the answer for an outcome
abbrev pub decision_of : Outcome → Decision
decision_of (Proven r) = Proof r
decision_of (Against r) = Choice r

-- a proof holds no natural that is out of range
abbrev pub IsInRange : List Object → Outcome → Type 0
IsInRange os (Proven r) = is_out_of_range (object_at os r) ≡ false
IsInRange os (Against r) = Unit {0}

module _ (A : ArityTable) (F : Formula) where
  expected : (os : List Object) (o : Outcome) (u : Option Chosen) → falsifying F ≡ u → Decides A [] (equations F) F (answer_at os o) → IsOutcomeIn os o → IsInRange os o → IsDecision os A F (decided u) (decision_of o)
  expected os (Proven r) None e h i range = (i, record { proves = h.0; in_range = λ k. range })
  expected os (Proven r) (Some c) e h i range = absurd (never (sym e ∙ (tautology_exact F).1 h.1))
    where
      never : Some c ≡ None → ⊥
      never k = cc
  expected os (Against r) u e h i range =
      let is : u ≡ Some h.0 = sym e ∙ (sym (ap (λ cs. first_against cs F) (going_on-nothing (choices (equations F)))) ∙ h.1) in
      subst (λ w. IsDecision os A F (decided w) (decision_of (Against r))) (sym is) (i, h.2)

  few_decided : (os : List Object) (o : Outcome) → Decides A [] (equations F) F (answer_at os o) → IsOutcomeIn os o → IsInRange os o → ltb most_equations (length (equations F)) ≡ false → IsDecision os A F (decision F) (decision_of o)
  few_decided os o h i range few = few_case (ltb most_equations (length (equations F))) few
    where
      few_case : (b : Bool) → b ≡ false → IsDecision os A F (if b then ManyExpected else decided (falsifying F)) (decision_of o)
      few_case true e = cc
      few_case false e = expected os o (falsifying F) refl h i range

-- what the proof by cases comes to is the decision, if the table has few equations
pub whole_decided : (A : ArityTable) (F : Formula) (os here new : List Object) → here ≡ os → (f : ℕ) (t : Table) (es : List ℕ) → es ≡ t.equations.items → length t.equations.items ≤ most_equations →
    object_at os f ≡ formula_object F → is_formula A F ≡ true → IsTableOf os F t →
    (o u : Outcome) → o ≡ u → ((F : Formula) (before rest : List Formula) → IsPosed A here es [] f F before rest → Decides A (choice_of before []) rest F (answer_at new o)) → IsOutcomeIn new o → IsInRange new u → IsDecision new A F (decision F) (decision_of u)
whole_decided A F os here new same f t es is few e formed table o u found h i range =
    let posed = first_posed A here f F t es is (ap (λ h. object_at h f) same ∙ e) formed (subst (λ h. IsTableOf h F t) (sym same) table) in
    let count = sym (length-map t.equations.items (object_at os)) ∙ (ap length table.equations_are ∙ length-map (equations F) formula_object) in
    few_decided A F new u (subst (λ o. Decides A [] (equations F) F (answer_at new o)) found (h F [] (equations F) posed)) (subst (IsOutcomeIn new) found i) range (le-ltb most_equations (length (equations F)) (omega (arith, few, count)))
