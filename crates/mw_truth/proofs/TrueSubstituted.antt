-- A substituted formula is true where the formula is true of the values of the substituted terms.
use Rattle.std.proofs.Common.{◌≡◌, true, ◌&&◌, [], ◌∷◌, refl}
use Rattle.std.proofs.lemmas.Bool.{and_parts}
use Rattle.mw_model.specs.Terms.Term.{Term, Formula, Equal, Not, Or, ArityTable, is_term, is_variable, IsTerm}
use Rattle.mw_model.specs.Terms.Substitution.{Substitution, substitute_formula, is_substitution}
use Rattle.mw_model.specs.Values.Primitive.{Profile}
use Rattle.mw_model.specs.Values.Value.{Environment, Calls, HasValue}
use Rattle.mw_model.specs.Values.Truth.{TrueAt}
use Rattle.mw_model.proofs.Values.{Det, Induces, ev_sub, ev_sub-back}
use Rattle.mw_truth.proofs.Having.{Has, induces_more}

-- no term of the table is without a value
abbrev pub TermsHave : Profile → Calls → ArityTable → Type 0
TermsHave P C A = (e : Environment) (t : Term) → IsTerm A t → Has (HasValue P C e t)

module _ (P : Profile) (C : Calls) (det : Det C) (e e' : Environment) (s : Substitution) (ind : Induces P C e s e') where
  mutual
    pub true_substituted : (F : Formula) → TrueAt P C e' F → TrueAt P C e (substitute_formula s F)
    true_substituted (Equal a b) t = λ k. t (λ v p q. k v (ev_sub-back P C e e' s ind a v p) (ev_sub-back P C e e' s ind b v q))
    true_substituted (Not F) t = λ h. t (true_unsubstituted F h)
    true_substituted (Or F G) t = λ k l. t (λ h. k (true_substituted F h)) (λ h. l (true_substituted G h))

    pub true_unsubstituted : (F : Formula) → TrueAt P C e (substitute_formula s F) → TrueAt P C e' F
    true_unsubstituted (Equal a b) t = λ k. t (λ v p q. k v (ev_sub P C det e e' s ind a v p) (ev_sub P C det e e' s ind b v q))
    true_unsubstituted (Not F) t = λ h. t (true_substituted F h)
    true_unsubstituted (Or F G) t = λ k l. t (λ h. k (true_unsubstituted F h)) (λ h. l (true_unsubstituted G h))

-- an environment of those values is not lacking
pub induced : (P : Profile) (C : Calls) (A : ArityTable) → TermsHave P C A → (e : Environment) (s : Substitution) → is_substitution A s ≡ true → Has (Induces P C e s)
induced P C A some e [] i k = k e (λ x. refl)
induced P C A some e (p ∷ s) i k =
    let q = and_parts (is_variable p.0) (is_term A p.1 && is_substitution A s) i in
    let r = and_parts (is_term A p.1) (is_substitution A s) q.1 in
    some e p.1 r.0 (λ w h. induced P C A some e s r.1 (λ e' ind. k ((p.0, w) ∷ e') (induces_more P C e e' s p.0 p.1 w h ind)))
