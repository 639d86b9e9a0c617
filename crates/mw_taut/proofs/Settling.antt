-- What comes of both cases settles the question.
use Rattle.std.proofs.Common.{◌≡◌, ℕ, true, false, List, [], ◌∷◌, sym, subst}
use Rattle.mw_model.specs.Terms.Object.{Object}
use Rattle.mw_model.specs.Terms.Term.{Formula, formula_object, ArityTable, is_formula}
use Rattle.mw_heap.specs.Objects.{object_at, Grows}
use Rattle.mw_taut.specs.declared.table.Table.{Table}
use Rattle.mw_taut.specs.declared.case.Question.{Question}
use Rattle.mw_taut.specs.declared.case.Outcome.{Outcome}
use Rattle.mw_taut.specs.declared.case.Outcome.TheVariants.{Proof}
use Rattle.mw_taut.specs.declared.rule.TheConstants.{RESOLVED}
use Rattle.mw_taut.specs.Rules.{rule_made}
use Rattle.mw_taut.specs.Cases.{Answer, Proved, answer_at, choice_of, IsQuestionIn, Decides}
use Rattle.mw_taut.specs.Decided.{IsTableOf}
use Rattle.mw_taut.specs.Asking.{Poses, IsLeft, IsLeftWith, Settles, SettlesWhere}
use Rattle.mw_taut.proofs.CaseDecided.{apart_at, decided_first, decided_second, decided_both}
use Rattle.mw_taut.proofs.Posed.{posed_kept, table_kept, has_next}

module _ (A : ArityTable) (os : List Object) (q : Question) (t : Table) where
  -- the same, in a heap that grows
  module _ (new : List Object) (grows : Grows os new) (q_in : IsQuestionIn os q) where
    still_posed : (F : Formula) (before rest : List Formula) → Poses A os q F before rest → Poses A new q F before rest
    still_posed F before rest = posed_kept A os new grows q.equations.now q.chosen.now q.formula F before rest q_in.formula q_in.equations

    pub still_left : IsLeftWith A os q t → IsLeftWith A new q t
    still_left w = (w.0, w.1, w.2, w.3, still_posed w.0 w.1 (w.2 ∷ w.3) w.4, table_kept A os new grows w.0 t w.5)

    settled_before : (a : Answer) → SettlesWhere A new q t true a → SettlesWhere A os q t true a
    settled_before a h F before E rest p is = h F before E rest (still_posed F before (E ∷ rest) p) (table_kept A os new grows F t is)

  module _ (table : (F : Formula) → object_at os q.formula ≡ formula_object F → is_formula A F ≡ true → IsTableOf os F t) where
    pub left_with : IsLeft A os q → IsLeftWith A os q t
    left_with w =
        let next = has_next A os q.equations.now q.chosen.now q.formula w.0 w.1 w.2 w.3 in
        (w.0, w.1, next.first, next.others, next.posed, table w.0 w.3.object w.3.formed)

    settled : (a : Answer) → ((F : Formula) (before : List Formula) (E : Formula) (rest : List Formula) → Poses A os q F before (E ∷ rest) → IsTableOf os F t → Decides A (choice_of before q.chosen.now) (E ∷ rest) F a) → Settles A os q a
    settled a h F before rest p =
        let next = has_next A os q.equations.now q.chosen.now q.formula F before rest p in
        subst (λ es. Decides A (choice_of before q.chosen.now) es F a) (sym next.is) (h F before next.first next.others next.posed (table F p.object p.formed))

    pub settled_first : (new : List Object) (o : Outcome) → ((p : ℕ) → o ≡ Proof p → ⊥) → SettlesWhere A os q t false (answer_at new o) → Settles A os q (answer_at new o)
    settled_first new o none h = settled (answer_at new o) (λ F before E rest p is. decided_first A F (choice_of before q.chosen.now) E rest new o none (h F before E rest p is))

    module _ (mid : List Object) (grows : Grows os mid) (q_in : IsQuestionIn os q) (x : Object) (first : SettlesWhere A os q t false (Proved x)) where
      pub settled_second : (new : List Object) (o : Outcome) → ((y : ℕ) → o ≡ Proof y → ⊥) → SettlesWhere A mid q t true (answer_at new o) → Settles A os q (answer_at new o)
      settled_second new o none h = settled (answer_at new o) (λ F before E rest p is.
          decided_second A F (choice_of before q.chosen.now) E rest (λ d. apart_at before E rest q.chosen.now false d p.apart) x (first F before E rest p is) new o none
          (settled_before mid grows q_in (answer_at new o) h F before E rest p is))

      pub settled_both : (y : Object) → SettlesWhere A mid q t true (Proved y) → Settles A os q (Proved (rule_made RESOLVED (object_at os q.formula ∷ x ∷ y ∷ [])))
      settled_both y h = settled (Proved (rule_made RESOLVED (object_at os q.formula ∷ x ∷ y ∷ []))) (λ F before E rest p is.
          subst (λ f. Decides A (choice_of before q.chosen.now) (E ∷ rest) F (Proved (rule_made RESOLVED (f ∷ x ∷ y ∷ [])))) (sym p.object)
          (decided_both A F (choice_of before q.chosen.now) E rest (λ d. apart_at before E rest q.chosen.now false d p.apart) x (first F before E rest p is) y
          (settled_before mid grows q_in (Proved y) h F before E rest p is)))
