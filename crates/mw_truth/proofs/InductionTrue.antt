-- An induction whose premises are true: its formula passes from the ordinals below the measure's value to that value, so it is true.
use Rattle.std.proofs.Common.{◌≡◌, true, List, [], ◌∷◌, map}
use Rattle.std.proofs.lemmas.Bool.{and_parts}
use Rattle.mw_model.specs.Terms.Object.{Object}
use Rattle.mw_model.specs.Terms.Term.{Term, Formula, Not, ArityTable, IsTerm}
use Rattle.mw_model.specs.Terms.Substitution.{Substitution, substitute, substitute_formula, is_substitution}
use Rattle.mw_model.specs.Values.Primitive.{Profile}
use Rattle.mw_model.specs.Values.Value.{Environment, Calls, HasValue}
use Rattle.mw_model.specs.Values.Truth.{TrueAt, TrueFor, Each}
use Rattle.mw_model.specs.Events.Obligation.{ordinal_formula}
use Rattle.mw_model.specs.Proofs.Induction.{Case, disjunction, base_premise, step_premise, fall_premise, fall_premises, premises, are_substitutions, are_cases}
use Rattle.mw_model.proofs.Values.{Det, ev_sub-back}
use Rattle.mw_descent.proofs.Descents.{Ordinal, Below, Passes, at_each}
use Rattle.mw_truth.proofs.Having.{Orders, stable, each_left, each_right, ordp_says, less_says}
use Rattle.mw_truth.proofs.TrueSubstituted.{TermsHave, true_substituted, induced}

-- F is true wherever the measure has the value a
abbrev pub TrueWhere : Profile → Calls → Formula → Term → Object → Type 0
TrueWhere P C F m a = (e : Environment) → HasValue P C e m a → TrueAt P C e F

disjunction_fails : (P : Profile) (C : Calls) (e : Environment) (F : Formula) (Gs : List Formula) → TrueAt P C e (disjunction F Gs) → (TrueAt P C e F → ⊥) → Each (λ G. TrueAt P C e G → ⊥) Gs → ⊥
disjunction_fails P C e F [] t f gs = f t
disjunction_fails P C e F (G ∷ Gs) t f gs = t f (λ h. disjunction_fails P C e G Gs h gs.0 gs.1)

module _ (P : Profile) (C : Calls) (det : Det C) (A : ArityTable) (some : TermsHave P C A) (o : Orders C) (F : Formula) (m : Term) (m_term : IsTerm A m) (ordinal : TrueFor P C (ordinal_formula m)) where
  abbrev TrueBelow : Object → Type 0
  TrueBelow a = (c : Object) → Ordinal c → Below c a → TrueWhere P C F m c

  -- F/s is true where q holds, since the measure falls
  substituted : (a : Object) → TrueBelow a → (e : Environment) → HasValue P C e m a → (q : Formula) → TrueAt P C e q → (s : Substitution) → is_substitution A s ≡ true → TrueFor P C (fall_premise m q s) → TrueAt P C e (substitute_formula s F)
  substituted a below e hm q hq s i fall =
      stable P C e (substitute_formula s F) (λ nf.
      induced P C A some e s i (λ e' ind.
      some e' m m_term (λ c hc.
      ordp_says P C det o e' m c hc (ordinal e') (λ oc.
      fall e (λ h. h hq) (λ t.
      less_says P C det o e (substitute s m) m c a (ev_sub-back P C e e' s ind m c hc) hm t (λ lt.
      nf (true_substituted P C det e e' s ind F (below c oc lt e' hc))))))))

  suppositions_fail : (a : Object) → TrueBelow a → (e : Environment) → HasValue P C e m a → (q : Formula) → TrueAt P C e q → (ss : List Substitution) → are_substitutions A ss ≡ true → Each (TrueFor P C) (map (fall_premise m q) ss) → Each (λ G. TrueAt P C e G → ⊥) (map (λ s. Not (substitute_formula s F)) ss)
  suppositions_fail a below e hm q hq [] i f = tt
  suppositions_fail a below e hm q hq (s ∷ ss) i f =
      let p = and_parts (is_substitution A s) (are_substitutions A ss) i in
      ((λ h. h (substituted a below e hm q hq s p.0 f.0)), suppositions_fail a below e hm q hq ss p.1 f.1)

  -- no case holds where F fails
  cases_fail : (a : Object) → TrueBelow a → (e : Environment) → HasValue P C e m a → (TrueAt P C e F → ⊥) → (cs : List Case) → are_cases A cs ≡ true → Each (TrueFor P C) (map (step_premise F) cs) → Each (TrueFor P C) (fall_premises m cs) → Each (λ G. TrueAt P C e G → ⊥) (map (λ c. c.condition) cs)
  cases_fail a below e hm nf [] i steps falls = tt
  cases_fail a below e hm nf (c ∷ cs) i steps falls =
      let p = and_parts (are_substitutions A c.substitutions) (are_cases A cs) i in
      let here = each_left (TrueFor P C) (map (fall_premise m c.condition) c.substitutions) (fall_premises m cs) falls in
      let later = each_right (TrueFor P C) (map (fall_premise m c.condition) c.substitutions) (fall_premises m cs) falls in
      ((λ hq. disjunction_fails P C e F (Not c.condition ∷ map (λ s. Not (substitute_formula s F)) c.substitutions) (steps.0 e) nf ((λ n. n hq), suppositions_fail a below e hm c.condition hq c.substitutions p.0 here)), cases_fail a below e hm nf cs p.1 steps.1 later)

  passes : (cs : List Case) → are_cases A cs ≡ true → TrueFor P C (base_premise F cs) → Each (TrueFor P C) (map (step_premise F) cs) → Each (TrueFor P C) (fall_premises m cs) → Passes (TrueWhere P C F m)
  passes cs i base steps falls a oa below e hm =
      stable P C e F (λ nf. disjunction_fails P C e F (map (λ c. c.condition) cs) (base e) nf (cases_fail a below e hm nf cs i steps falls))

  true_at_each : Passes (TrueWhere P C F m) → TrueFor P C F
  true_at_each descends e =
      stable P C e F (λ nf. some e m m_term (λ a ha.
      ordp_says P C det o e m a ha (ordinal e) (λ oa.
      nf (at_each (TrueWhere P C F m) descends a oa e ha))))

-- from the premises in their order
module _ (P : Profile) (C : Calls) (det : Det C) (A : ArityTable) (some : TermsHave P C A) (o : Orders C) (F : Formula) (m : Term) (m_term : IsTerm A m) (cs : List Case) (i : are_cases A cs ≡ true) (ps : Each (TrueFor P C) (premises F m cs)) where
  rest : Each (TrueFor P C) (ordinal_formula m ∷ fall_premises m cs)
  rest = each_right (TrueFor P C) (map (step_premise F) cs) (ordinal_formula m ∷ fall_premises m cs) ps.1

  pub induction_passes : Passes (TrueWhere P C F m)
  induction_passes =
      passes P C det A some o F m m_term rest.0 cs i ps.0 (each_left (TrueFor P C) (map (step_premise F) cs) (ordinal_formula m ∷ fall_premises m cs) ps.1) rest.1

  pub induction_true : TrueFor P C F
  induction_true = true_at_each P C det A some o F m m_term rest.0 induction_passes
