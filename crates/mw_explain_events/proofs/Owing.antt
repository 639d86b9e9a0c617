-- What is owed for definitions that are given.
use Rattle.std.proofs.Common.{◌≡◌, List, [], Option, Some, None, sym, ap, ◌∙◌, subst}
use Rattle.mw_model.specs.Terms.Object.{Object}
use Rattle.mw_model.specs.Terms.Term.{Formula, ArityTable}
use Rattle.mw_model.specs.Values.Definition.{arity_table}
use Rattle.mw_model.specs.Laws.RulesInduction.{formulas_object}
use Rattle.mw_model.specs.Events.Refusal.{Refusal}
use Rattle.mw_model.specs.Events.Admission.{Draft}
use Rattle.mw_model.specs.Events.Demand.{Demand, Denied, Wants, define_demand}
use Rattle.mw_heap.specs.declared.vocabulary.refusal.Refusal.{Refusal as Reason}
use Rattle.mw_heap.specs.Variants.{refusal_of}
use Rattle.mw_heap.specs.Objects.{object_at, IsIn}
use Rattle.mw_define.specs.declared.admitted.Admitted.TheVariants as admitted
use Rattle.mw_define.specs.declared.admitted.Owed.{Owed}
use Rattle.mw_define.specs.BlockTests.{FailsBlock, PassesBlock, IsBlockOf}
use Rattle.mw_define.proofs.CallerLemmas.{define-denied, define-wants}
use Rattle.mw_explain_events.specs.Defining.{Owe}

abbrev the_value : {X : Type 0} → X → Option X → X
the_value x None = x
the_value x (Some y) = y

pub some-same : {X : Type 0} (x y : X) → Some x ≡ Some y → x ≡ y
some-same x y e = ap (the_value x) e

abbrev formulas_in : Demand → List Formula
formulas_in (Wants Fs next) = Fs
formulas_in (Denied r) = []

-- the definitions that are given fail
pub given-fails : (A : ArityTable) (r : Refusal) (given : Option (List Draft)) (es : List Draft) → given ≡ Some es → (ds : List Draft) × (given ≡ Some ds) × FailsBlock A ds r → FailsBlock A es r
given-fails A r given es e h = subst (λ ds. FailsBlock A ds r) (some-same h.0 es (sym h.1 ∙ e)) h.2

module _ (A : ArityTable) (os : List Object) where
  pub owed-in : (given : Option (List Draft)) (owed : Owed) → IsBlockOf A given os (admitted.Obligations owed) → IsIn os owed.obligations
  owed-in None owed h = absurd h
  owed-in (Some ds) owed h = h.obligations_in

  pub owed-are : (given : Option (List Draft)) (owed : Owed) → IsBlockOf A given os (admitted.Obligations owed) → (Fs : List Formula) → Owe A given Fs → object_at os owed.obligations ≡ formulas_object Fs
  owed-are None owed h Fs o = absurd h
  owed-are (Some ds) owed h Fs (t, es, next, A_is, given_is, demand) =
      let same : es ≡ ds = some-same es ds (sym given_is) in
      let passes : PassesBlock (arity_table t.definitions) ds os owed = subst (λ B. PassesBlock B ds os owed) (sym A_is) h in
      let wanted = sym (define-wants t ds os owed passes) ∙ (ap (define_demand t) (sym same) ∙ demand) in
      passes.obligations ∙ ap formulas_object (ap formulas_in wanted)

  pub never-refused : (given : Option (List Draft)) (r : Reason) → IsBlockOf A given os (admitted.Refused r) → (Fs : List Formula) → Owe A given Fs → ⊥
  never-refused None r h Fs (t, es, next, A_is, given_is, demand) = cc
  never-refused (Some ds) r h Fs (t, es, next, A_is, given_is, demand) =
      let same : es ≡ ds = some-same es ds (sym given_is) in
      let fails : FailsBlock (arity_table t.definitions) ds (refusal_of r) = subst (λ B. FailsBlock B ds (refusal_of r)) (sym A_is) h in
      never (sym (define-denied t ds (refusal_of r) fails) ∙ (ap (define_demand t) (sym same) ∙ demand))
    where
      never : Denied (refusal_of r) ≡ Wants Fs next → ⊥
      never e = cc

pub none-not-some : {X : Type 0} (o : Option X) (x : X) → o ≡ None → o ≡ Some x → ⊥
none-not-some o x none some = cc
