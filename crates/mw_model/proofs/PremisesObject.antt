-- The premises of an induction on objects are those on formulas, and are read back.
use Rattle.std.proofs.Common.{◌≡◌, List, [], ◌∷◌, ◌++◌, map, refl, ap, ap₂, ◌∙◌}
use Rattle.mw_model.specs.Terms.Object.{Object, Pair, symbol, list3}
use Rattle.mw_model.specs.Terms.Term.{Term, Formula, Not, term_object, formula_object}
use Rattle.mw_model.specs.Terms.Substitution.{Substitution, substitute_formula}
use Rattle.mw_model.specs.Values.Truth.{Each}
use Rattle.mw_model.specs.Events.Obligation.{ordinal_formula}
use Rattle.mw_model.specs.Proofs.Induction.{Case, disjunction, step_premise, fall_premise, fall_premises, premises, conditions_object, substitutions_object, cases_object}
use Rattle.mw_model.specs.Laws.Rules.{or_object, not_object}
use Rattle.mw_model.specs.Laws.RulesInduction.{formulas_object, disjunction_object, hypotheses_object, steps_object, true_object, ordinal_object, falls_object, all_falls_object, premises_object}
use Rattle.mw_model.proofs.Readable.{Readable, ReadableFormula, ReadableSubstitution, formula_object-one, substitute-readable, substitute_formula-readable}
use Rattle.mw_model.proofs.SubstituteObject.{substitute_object-is, substitute_formula_object-is}

pub disjunction_object-is : (F : Formula) (Gs : List Formula) → disjunction_object (formulas_object (F ∷ Gs)) ≡ formula_object (disjunction F Gs)
disjunction_object-is F [] = refl
disjunction_object-is F (G ∷ Gs) = ap (or_object (formula_object F)) (disjunction_object-is G Gs)

pub conditions_object-is : (cs : List Case) → conditions_object cs ≡ formulas_object (map (λ c. c.condition) cs)
conditions_object-is [] = refl
conditions_object-is (c ∷ cs) = ap (Pair (formula_object c.condition)) (conditions_object-is cs)

module _ (F : Formula) (i : ReadableFormula F) where
  hypotheses_object-is : (ss : List Substitution) → hypotheses_object (formula_object F) (substitutions_object ss) ≡ formulas_object (map (λ s. Not (substitute_formula s F)) ss)
  hypotheses_object-is [] = refl
  hypotheses_object-is (s ∷ ss) = ap₂ (λ x y. Pair (not_object x) y) (substitute_formula_object-is s F i) (hypotheses_object-is ss)

  steps_object-is : (cs : List Case) (rest : Object) (Rs : List Formula) → rest ≡ formulas_object Rs → steps_object (formula_object F) (conditions_object cs) (cases_object cs) rest ≡ formulas_object (map (step_premise F) cs ++ Rs)
  steps_object-is [] rest Rs e = e
  steps_object-is (c ∷ cs) rest Rs e =
      ap₂ Pair
      (ap (λ h. disjunction_object (Pair (formula_object F) (Pair (not_object (formula_object c.condition)) h))) (hypotheses_object-is c.substitutions) ∙ disjunction_object-is F (Not c.condition ∷ map (λ s. Not (substitute_formula s F)) c.substitutions))
      (steps_object-is cs rest Rs e)

module _ (m : Term) (i : Readable m) where
  falls_object-is : (q : Formula) (ss : List Substitution) (rest : Object) (Rs : List Formula) → rest ≡ formulas_object Rs → falls_object (term_object m) (formula_object q) (substitutions_object ss) rest ≡ formulas_object (map (fall_premise m q) ss ++ Rs)
  falls_object-is q [] rest Rs e = e
  falls_object-is q (s ∷ ss) rest Rs e =
      ap₂ Pair
      (ap (λ z. or_object (not_object (formula_object q)) (true_object (list3 (symbol "ORD<") z (term_object m)))) (substitute_object-is s m i))
      (falls_object-is q ss rest Rs e)

  all_falls_object-is : (cs : List Case) → all_falls_object (term_object m) (conditions_object cs) (cases_object cs) ≡ formulas_object (fall_premises m cs)
  all_falls_object-is [] = refl
  all_falls_object-is (c ∷ cs) = falls_object-is c.condition c.substitutions _ (fall_premises m cs) (all_falls_object-is cs)

  pub premises_object-is : (F : Formula) → ReadableFormula F → (cs : List Case) → premises_object (formula_object F) (term_object m) (conditions_object cs) (cases_object cs) ≡ formulas_object (premises F m cs)
  premises_object-is F j cs =
      ap₂ Pair
      (ap (λ z. disjunction_object (Pair (formula_object F) z)) (conditions_object-is cs) ∙ disjunction_object-is F (map (λ c. c.condition) cs))
      (steps_object-is F j cs _ (ordinal_formula m ∷ fall_premises m cs) (ap (Pair (ordinal_object (term_object m))) (all_falls_object-is cs)))

-- reading back
pub each_append : {X : Type 0} (Q : X → Type 0) (xs ys : List X) → Each Q xs → Each Q ys → Each Q (xs ++ ys)
each_append Q [] ys h k = k
each_append Q (x ∷ xs) ys h k = (h.0, each_append Q xs ys h.1 k)

disjunction-readable : (F : Formula) (Gs : List Formula) → ReadableFormula F → Each ReadableFormula Gs → ReadableFormula (disjunction F Gs)
disjunction-readable F [] h k = h
disjunction-readable F (G ∷ Gs) h k = (h, disjunction-readable G Gs k.0 k.1)

-- cases whose conditions and substitutions are read back
abbrev pub ReadableCase : Case → Type 0
ReadableCase c = ReadableFormula c.condition × Each ReadableSubstitution c.substitutions

conditions-readable : (cs : List Case) → Each ReadableCase cs → Each ReadableFormula (map (λ c. c.condition) cs)
conditions-readable [] h = tt
conditions-readable (c ∷ cs) h = (h.0.0, conditions-readable cs h.1)

module _ (F : Formula) (r : ReadableFormula F) where
  hypotheses-readable : (ss : List Substitution) → Each ReadableSubstitution ss → Each ReadableFormula (map (λ s. Not (substitute_formula s F)) ss)
  hypotheses-readable [] h = tt
  hypotheses-readable (s ∷ ss) h = (substitute_formula-readable s h.0 F r, hypotheses-readable ss h.1)

  steps-readable : (cs : List Case) → Each ReadableCase cs → Each ReadableFormula (map (step_premise F) cs)
  steps-readable [] h = tt
  steps-readable (c ∷ cs) h = (disjunction-readable F (Not c.condition ∷ map (λ s. Not (substitute_formula s F)) c.substitutions) r (h.0.0, hypotheses-readable c.substitutions h.0.1), steps-readable cs h.1)

module _ (m : Term) (r : Readable m) where
  falls-readable : (q : Formula) → ReadableFormula q → (ss : List Substitution) → Each ReadableSubstitution ss → Each ReadableFormula (map (fall_premise m q) ss)
  falls-readable q i [] h = tt
  falls-readable q i (s ∷ ss) h = ((i, ((refl, (substitute-readable s h.0 m r, (r, tt))), tt)), falls-readable q i ss h.1)

  all_falls-readable : (cs : List Case) → Each ReadableCase cs → Each ReadableFormula (fall_premises m cs)
  all_falls-readable [] h = tt
  all_falls-readable (c ∷ cs) h = each_append ReadableFormula (map (fall_premise m c.condition) c.substitutions) (fall_premises m cs) (falls-readable c.condition h.0.0 c.substitutions h.0.1) (all_falls-readable cs h.1)

  pub premises-readable : (F : Formula) → ReadableFormula F → (cs : List Case) → Each ReadableCase cs → Each ReadableFormula (premises F m cs)
  premises-readable F i cs h = (
    disjunction-readable F (map (λ c. c.condition) cs) i (conditions-readable cs h),
    each_append ReadableFormula (map (step_premise F) cs) (ordinal_formula m ∷ fall_premises m cs) (steps-readable F i cs h) (((refl, (r, tt)), tt), all_falls-readable cs h),
  )

pub formulas_object-one : (Fs Gs : List Formula) → Each ReadableFormula Fs → Each ReadableFormula Gs → formulas_object Fs ≡ formulas_object Gs → Fs ≡ Gs
formulas_object-one [] [] i j e = refl
formulas_object-one [] (G ∷ Gs) i j e = cc
formulas_object-one (F ∷ Fs) [] i j e = cc
formulas_object-one (F ∷ Fs) (G ∷ Gs) i j e = ap₂ ◌∷◌ (formula_object-one F G i.0 j.0 (cc e)) (formulas_object-one Fs Gs i.1 j.1 (cc e))
