-- The conclusion of a step as the code finds it, once its other tests hold.
use Rattle.std.proofs.Common.{◌≡◌, ℕ, ◌+◌, Bool, true, false, List, length, map, Option, Some, None, refl, sym, ap, ap₂, ◌∙◌, subst}
use Rattle.mw_model.specs.Terms.Object.{Object, Natural, same_object}
use Rattle.mw_model.specs.Terms.Term.{Formula, ArityTable, formula_object, IsFormula}
use Rattle.mw_model.specs.Values.Truth.{Each}
use Rattle.mw_model.specs.Values.Definition.{arity_table}
use Rattle.mw_model.specs.Events.Fate.{is_out_of_range}
use Rattle.mw_model.specs.Proofs.Proof.{Method}
use Rattle.mw_model.specs.Proofs.Judgment.{methods, method_among}
use Rattle.mw_model.specs.Laws.Rules.{is_formula_object}
use Rattle.mw_commands.specs.Commands.Log.{naturals_of, formulas_at, conclusion}
use Rattle.mw_heap.specs.Objects.{object_at}
use Rattle.mw_heap.specs.Lists.{list_object}
use Rattle.mw_heap.specs.Variants.{profile_of}
use Rattle.mw_rules.specs.Step.{rule_holds}
use Rattle.mw_theory.specs.declared.theory.Theory.{Theory as Kept}
use Rattle.mw_theory.specs.Knowledge.{parts_of, definitions_of, meant, IsHeld}
use Rattle.mw_flat.specs.declared.conclusion.Members.{Members}
use Rattle.mw_flat.specs.Collecting.{conclusions_listed}
use Rattle.mw_flat.specs.Steps.{AreMembers, IsConclusion}
use Rattle.mw_flat.proofs.Formulas.{each-at}
use Rattle.mw_flat.proofs.Premises.{some-all, listed-all}
use Rattle.mw_flat.proofs.StepRule.{IsTested, rule-holds, no-rule}

module _ (os : List Object) (t : Kept) (h : IsHeld os t) where
  abbrev table : ArityTable
  table = arity_table (definitions_of os (parts_of t))

  -- the rule over what is held, and over the theory that is meant
  abbrev held_rule : Method → Object → Object → Object → Bool
  held_rule m c cs y = rule_holds (list_object os t.known_axioms) (list_object os t.known_theorems) t.arity (profile_of t.profile) (Some m) c cs y

  rule-meant : (m : Method) (c cs y : Object) → held_rule m c cs y ≡ rule_holds (object_at os t.axioms) (object_at os t.theorems) table (profile_of t.profile) (Some m) c cs y
  rule-meant m c cs y =
      ap₂ (λ ax th. rule_holds ax th t.arity (profile_of t.profile) (Some m) c cs y) h.axioms_known h.theorems_known
      ∙ ap (λ A. rule_holds (object_at os t.axioms) (object_at os t.theorems) A (profile_of t.profile) (Some m) c cs y) h.arities

  -- the step at x has these members, and its tests hold but the last
  module _ (x : ℕ) (s : Members) (members : AreMembers os x s) (in_range : is_out_of_range (object_at os x) ≡ false) (rs : List ℕ) (n : ℕ) (numbered : same_object (object_at os s.number) (Natural n) ≡ true) (m : Method)
      (method : method_among methods (object_at os s.method) ≡ Some m) (formula : is_formula_object t.arity (object_at os s.conclusion) ≡ true) (ps : List ℕ) (listed : conclusions_listed rs (object_at os s.subproofs) ≡ Some ps) (Fs : List Formula)
      (formulas : Each (IsFormula t.arity) Fs) (same : map (object_at os) rs ≡ map formula_object Fs) (counted : n ≡ length Fs + 1) where
    tested : IsTested table Fs (object_at os x) m (object_at os s.conclusion) (list_object os ps) (object_at os s.extras)
    tested =
        let sub = object_at os s.subproofs in
        let found = some-all os (conclusions_listed rs sub) (formulas_at Fs (naturals_of sub)) (listed-all os rs Fs same sub) ps listed in
        record {
          six = members.six;
          in_range = in_range;
          number = ap (λ y. same_object y (Natural (length Fs + 1))) members.number ∙ (ap (λ k. same_object (object_at os s.number) (Natural k)) (sym counted) ∙ numbered);
          method = ap (method_among methods) members.method ∙ method;
          conclusion = members.conclusion;
          formula = ap (λ A. is_formula_object A (object_at os s.conclusion)) (sym h.arities) ∙ formula;
          premises = (found.0, ap (λ y. formulas_at Fs (naturals_of y)) members.subproofs ∙ found.1, sym found.2, each-at (IsFormula table) Fs (naturals_of sub) found.0 (subst (λ A. Each (IsFormula A) Fs) h.arities formulas) found.1);
          extras = members.extras;
        }

    abbrev logic_conclusion : Option Formula
    logic_conclusion = let u = meant os (parts_of t) in conclusion u.axioms u.theorems (arity_table u.definitions) u.definitions.profile Fs (object_at os x)

    pub good-step : true ≡ held_rule m (object_at os s.conclusion) (list_object os ps) (object_at os s.extras) → IsConclusion os (Some s.conclusion) logic_conclusion
    good-step r =
        rule-holds _ _ table _ Fs (object_at os x) m (object_at os s.conclusion) (list_object os ps) (object_at os s.extras) tested os s.conclusion refl (r ∙ rule-meant m (object_at os s.conclusion) (list_object os ps) (object_at os s.extras))

    pub bad-step : false ≡ held_rule m (object_at os s.conclusion) (list_object os ps) (object_at os s.extras) → IsConclusion os None logic_conclusion
    bad-step r =
        no-rule _ _ table _ Fs (object_at os x) m (object_at os s.conclusion) (list_object os ps) (object_at os s.extras) tested os (r ∙ rule-meant m (object_at os s.conclusion) (list_object os ps) (object_at os s.extras))
