-- A book of theorems that are proved from nothing is accepted event by event, whatever the step limit.
use Rattle.std.proofs.Common.{◌≡◌, ℕ, ◌+◌, true, false, not, cond, List, [], ◌∷◌, length, Some, None, refl, sym, ap, ◌∙◌, arith}
use Rattle.mw_model.specs.Terms.Object.{Object, Pair, symbol, NIL, list4}
use Rattle.mw_model.specs.Terms.Term.{Formula, formula_object}
use Rattle.mw_model.specs.Terms.Reading.{formula_under, when}
use Rattle.mw_model.specs.Values.Primitive.{is_symbol}
use Rattle.mw_model.specs.Values.Definition.{Definitions, arity_table}
use Rattle.mw_model.specs.Values.Truth.{Each}
use Rattle.mw_model.specs.Proofs.Proof.{Proves}
use Rattle.mw_model.specs.Events.Theory.{Theory}
use Rattle.mw_model.specs.Events.Refusal.{RANGE, EVENT, NAME, FORMULA, accept, need, must, unless}
use Rattle.mw_model.specs.Events.Checking.{judged_as}
use Rattle.mw_model.specs.Events.Fate.{event_word, is_out_of_range, happens_by, happens}
use Rattle.mw_model.specs.Reports.Report.{is_accepted, accepted_among, refused_among}
use Rattle.mw_commands.proofs.LogAccepted.{judged_well}
use Rattle.mw_commands.proofs.FromNothing.{proved_from_nothing}

-- a VERIFY whose proof needs no axiom and no theorem
pub record IsTheorem (D : Definitions) (e : Object) : Type 0 where
  pub name : Object
  pub claim : Object
  pub witness : Object
  pub F : Formula
  pub is : e ≡ list4 (symbol "VERIFY") name claim witness
  pub named : is_symbol name ≡ true
  pub claims : formula_under (arity_table D) claim ≡ Some F
  pub proves : Proves NIL NIL (arity_table D) D.profile witness F
  pub in_range : is_out_of_range e ≡ false

abbrev pub with_theorem : Theory → Formula → Theory
with_theorem t F = record t { theorems = Pair (formula_object F) t.theorems }

module _ (t : Theory) (N : ℕ) (built_in : t.checker ≡ None) where
  verified : (name claim p : Object) (F : Formula) → is_out_of_range (list4 (symbol "VERIFY") name claim p) ≡ false → is_symbol name ≡ true → formula_under (arity_table t.definitions) claim ≡ Some F → Proves NIL NIL (arity_table t.definitions) t.definitions.profile p F → happens t N (list4 (symbol "VERIFY") name claim p) ≡ accept (with_theorem t F)
  unfolding need must unless
  verified name claim p F r s c g =
      let e = list4 (symbol "VERIFY") name claim p in
      ap (λ b. need t RANGE (when (not b) (Some e)) (λ x. need t EVENT (event_word x) (λ w. happens_by w t N x))) r
      ∙ (ap (λ b. must t NAME b (need t FORMULA (formula_under (arity_table t.definitions) claim) (λ G. unless t (judged_as t N G p) (accept (with_theorem t G))))) s
      ∙ (ap (λ o. need t FORMULA o (λ G. unless t (judged_as t N G p) (accept (with_theorem t G)))) c
      ∙ ap (λ o. unless t o (accept (with_theorem t F))) (judged_well t N built_in p F (proved_from_nothing t.axioms t.theorems (arity_table t.definitions) t.definitions.profile p F g))))

  theorem_happens : (e : Object) (h : IsTheorem t.definitions e) → happens t N e ≡ accept (with_theorem t h.F)
  theorem_happens e h =
      ap (happens t N) h.is ∙ verified h.name h.claim h.witness h.F (ap is_out_of_range (sym h.is) ∙ h.in_range) h.named h.claims h.proves

pub all_accepted : (t : Theory) (N : ℕ) → t.checker ≡ None → (es : List Object) → Each (IsTheorem t.definitions) es → accepted_among t es N ≡ length es
all_accepted t N c [] h = refl
all_accepted t N c (e ∷ es) h =
    ap (λ s. cond (is_accepted s.0) 1 0 + accepted_among s.1 es N) (theorem_happens t N c e h.0)
    ∙ (let more = all_accepted (with_theorem t h.0.F) N c es h.1 in omega (arith, more))

pub none_refused : (t : Theory) (N : ℕ) → t.checker ≡ None → (es : List Object) → Each (IsTheorem t.definitions) es → refused_among t es N ≡ 0
none_refused t N c [] h = refl
none_refused t N c (e ∷ es) h =
    ap (λ s. cond (is_accepted s.0) 0 1 + refused_among s.1 es N) (theorem_happens t N c e h.0)
    ∙ (let more = none_refused (with_theorem t h.0.F) N c es h.1 in omega (arith, more))
