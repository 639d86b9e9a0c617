-- What is found of a datum settles what is owed for it.
use Rattle.std.proofs.Common.{◌≡◌, ◌∙◌, ℕ, Bool, true, false, not, List, [], ◌∷◌, ◌++◌, Option, Some, None, codes, refl, sym, ap, ap₂, subst, is_some}
use Rattle.mw_model.specs.Terms.Object.{Object, symbol, car, second_of, has_members, list2, list4}
use Rattle.mw_model.specs.Terms.Term.{ArityTable, Formula}
use Rattle.mw_model.specs.Terms.Reading.{formula_under, when}
use Rattle.mw_model.specs.Values.Primitive.{is_symbol}
use Rattle.mw_model.specs.Events.Fate.{is_out_of_range}
use Rattle.mw_model.specs.Reports.Report.{spaced}
use Rattle.mw_model.specs.Texts.Written.{IsWritten}
use Rattle.mw_commands.specs.Commands.Tautology.{Choice, Decision as Expected, Many as HasMany, FailsUnder, Holds, decision, choice_object}
use Rattle.mw_commands.specs.Commands.TautologyBook.{IsPureProof, OwesDecided, OwesGiven, OwesTautology, decision_on, formula_given, initial_arities, is_holding, is_proved, remark}
use Rattle.mw_heap.specs.Objects.{object_at, IsIn, Grows}
use Rattle.mw_heap.proofs.Objects.{object_at-Grows}
use Rattle.mw_taut.specs.Decided.{IsDecision}
use Rattle.mw_taut.specs.declared.deciding.Decision.TheVariants.{Proof, Choice as Against, Many}
use Rattle.mw_taut.specs.Members.{IsNamed}
use Rattle.mw_taut.specs.Verdicts.{IsVerdict, is_theorem}
use Rattle.mw_taut.specs.declared.verdict.Verdict.{Verdict}
use Rattle.mw_taut.specs.declared.verdict.Verdict.TheVariants as verdict

-- ---- the formula of a datum

when_none : (b : Bool) → when {X = Formula} b None ≡ None
when_none true = refl
when_none false = refl

-- a datum that is no list of two gives none
pub not_two_given : (x : Object) → has_members 2 x ≡ false → formula_given x ≡ None
not_two_given x h = ap (λ b. when (not (is_out_of_range x)) (when b (when (is_symbol (car x)) (formula_under initial_arities (second_of x))))) h ∙ when_none (not (is_out_of_range x))

-- nor does a list whose first member is no symbol
pub no_name_given : (x a b : Object) → x ≡ list2 a b → is_symbol a ≡ false → formula_given x ≡ None
no_name_given x a b e h =
    ap formula_given e ∙ ap (λ c. when (not (is_out_of_range (list2 a b))) (when c (formula_under initial_arities b))) h ∙ when_none (not (is_out_of_range (list2 a b)))

pub large_given : (x : Object) → is_out_of_range x ≡ true → formula_given x ≡ None
large_given x h = ap (λ c. when (not c) (when (has_members 2 x) (when (is_symbol (car x)) (formula_under initial_arities (second_of x))))) h

pub named_given : (os : List Object) (x : Object) (name formula : ℕ) → IsNamed os x name formula → formula_given x ≡ formula_under initial_arities (object_at os formula)
named_given os x name formula h =
    let a = object_at os name in
    let b = object_at os formula in
    ap formula_given h.list
    ∙ ap (λ c. when (not c) (when (is_symbol a) (formula_under initial_arities b))) (ap is_out_of_range (sym h.list) ∙ h.in_range)
    ∙ ap (λ c. when c (formula_under initial_arities b)) h.symbol

pub present : {X : Type 0} (o : Option X) → is_some o ≡ true → (x : X) × (o ≡ Some x)
present None e = cc
present (Some x) e = (x, refl)

pub absent : {X : Type 0} (o : Option X) → is_some o ≡ false → o ≡ None
absent None e = refl
absent (Some x) e = cc

-- nor does one whose second member is no formula
pub no_formula_given : (os : List Object) (x : Object) (name formula : ℕ) (A : ArityTable) → IsNamed os x name formula → A ≡ initial_arities → is_some (formula_under A (object_at os formula)) ≡ false → formula_given x ≡ None
no_formula_given os x name formula A named arity none =
    let y = object_at os formula in
    named_given os x name formula named ∙ absent (formula_under initial_arities y) (ap (λ B. is_some (formula_under B y)) (sym arity) ∙ none)

-- ---- what a decision is

module _ (os : List Object) (A : ArityTable) (F : Formula) where
  pub proof_holds : (d : Expected) (r : ℕ) → IsDecision os A F d (Proof r) → (d ≡ Holds) × IsIn os r × IsPureProof A (object_at os r) F
  proof_holds HasMany r h = absurd h
  proof_holds (FailsUnder c) r h = absurd h
  proof_holds Holds r h = (refl, h.0, h.1)

  pub choice_fails : (d : Expected) (r : ℕ) → IsDecision os A F d (Against r) → (c : Choice) × (d ≡ FailsUnder c) × IsIn os r × (object_at os r ≡ choice_object c)
  choice_fails HasMany r h = absurd h
  choice_fails (FailsUnder c) r h = (c, refl, h.0, h.1)
  choice_fails Holds r h = absurd h

  pub many_expected : (d : Expected) → IsDecision os A F d Many → d ≡ HasMany
  many_expected HasMany h = refl
  many_expected (FailsUnder c) h = absurd h
  many_expected Holds h = absurd h

-- ---- what is owed

module _ (k : ℕ) (x : Object) where
  pub owes_shape : formula_given x ≡ None → OwesTautology (k, x) (remark k x (codes "SHAPE"))
  owes_shape h = subst (λ o. OwesGiven k x o (remark k x (codes "SHAPE"))) (sym h) refl

  owes_decided : (F : Formula) (d : Expected) (piece : List ℕ) → formula_given x ≡ Some F → decision F ≡ d → OwesDecided k x F d piece → OwesTautology (k, x) piece
  owes_decided F d piece g e h = subst (λ o. OwesGiven k x o piece) (sym g) (subst (λ v. OwesDecided k x F v piece) (sym e) h)

  pub owes_many : (F : Formula) → formula_given x ≡ Some F → decision F ≡ HasMany → OwesTautology (k, x) (remark k x (codes "MANY"))
  owes_many F g e = owes_decided F HasMany _ g e refl

  pub owes_choice : (F : Formula) (c : Choice) → formula_given x ≡ Some F → decision F ≡ FailsUnder c → (text : List ℕ) (next : ℕ) → IsWritten (choice_object c) 1 text next → OwesTautology (k, x) (remark k x (spaced (codes "FALSE") text))
  owes_choice F c g e text next h = owes_decided F (FailsUnder c) _ g e (text, next, h, refl)

  pub owes_theorem : (F : Formula) (p : Object) → formula_given x ≡ Some F → decision F ≡ Holds → IsPureProof initial_arities p F → (text : List ℕ) (next : ℕ) → IsWritten (list4 (symbol "VERIFY") (car x) (second_of x) p) 1 text next → OwesTautology (k, x) (text ++ 10 ∷ [])
  owes_theorem F p g e h text next w = owes_decided F Holds (text ++ 10 ∷ []) g e (p, h, (text, next, w, refl))

pub verdict_proved : (os : List Object) (x : Object) (v : Verdict) → IsVerdict os x v → is_proved x ≡ is_theorem v
verdict_proved os x verdict.Shape h = ap (λ o. is_holding (decision_on o)) h
verdict_proved os x verdict.Many h = ap (λ o. is_holding (decision_on o)) h.1 ∙ ap (λ d. is_holding (Some d)) h.2
verdict_proved os x (verdict.Fails r) h = ap (λ o. is_holding (decision_on o)) h.2 ∙ ap (λ d. is_holding (Some d)) h.3
verdict_proved os x (verdict.Theorem r) h = ap (λ o. is_holding (decision_on o)) h.2 ∙ ap (λ d. is_holding (Some d)) h.3

-- ---- what is found where a formula is decided

module _ (os mid new : List Object) (grows : Grows os mid) (A : ArityTable) (same : A ≡ initial_arities) (name formula : ℕ) (F : Formula) (given : formula_under A (object_at os formula) ≡ Some F) (x : Object) (named : IsNamed os x name formula) where
  here : formula_given x ≡ Some F
  here = named_given os x name formula named ∙ ap (λ T. formula_under T (object_at os formula)) (sym same) ∙ given

  pub theorem_found : (r t : ℕ) → IsDecision mid A F (decision F) (Proof r) → IsIn new t → object_at new t ≡ list4 (symbol "VERIFY") (object_at mid name) (object_at mid formula) (object_at mid r) → IsVerdict new x (verdict.Theorem t)
  theorem_found r t d i e =
      let p = object_at mid r in
      let h = proof_holds mid A F (decision F) r d in
      let first = object_at-Grows os mid grows name named.name_in ∙ sym (ap car named.list) in
      let second = object_at-Grows os mid grows formula named.formula_in ∙ sym (ap second_of named.list) in
      (F, p, here, h.0, subst (λ T. IsPureProof T p F) same h.2, i, e ∙ ap₂ (λ a b. list4 (symbol "VERIFY") a b p) first second)

  pub choice_found : (r : ℕ) → IsDecision mid A F (decision F) (Against r) → IsVerdict mid x (verdict.Fails r)
  choice_found r d = let h = choice_fails mid A F (decision F) r d in (F, h.0, here, h.1, h.2, h.3)

  pub many_found : IsDecision mid A F (decision F) Many → IsVerdict mid x verdict.Many
  many_found d = (F, here, many_expected mid A F (decision F) d)
