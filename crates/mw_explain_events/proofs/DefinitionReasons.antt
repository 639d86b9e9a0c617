-- Why definitions are refused, and what passed before.
use Rattle.std.proofs.Common.{◌≡◌, ℕ, Bool, true, false, not, List, length, Option, Some, None, refl, ap, ◌∙◌, subst, is_some}
use Rattle.mw_model.specs.Terms.Object.{Name, Object, has_members}
use Rattle.mw_model.specs.Terms.Term.{Term, Formula, ArityTable}
use Rattle.mw_model.specs.Values.Definition.{Functions, arity_table}
use Rattle.mw_model.specs.Events.Obligation.{obligations, is_nested}
use Rattle.mw_model.specs.Events.Theory.{Theory}
use Rattle.mw_model.specs.Events.Refusal.{Refusal, EVENT, NAME, FORMALS, TERM, VARIABLES, NESTED, COUNT, Fate, Accepted, Refused, accept, need, must, unless}
use Rattle.mw_model.specs.Events.Admission.{Draft, functions, measures, are_closed_by, add_to_theory}
use Rattle.mw_model.specs.Events.Demand.{Demand, Denied, Wants, wants_some, wants_that, define_demand, each_judged, settled}
use Rattle.mw_define.specs.BlockTests.{the_names, the_formal_lists, the_terms_under, FailsBlock, no_names, no_formals, no_terms, not_closed, nested}
use Rattle.mw_theory.specs.Proofs.{by_formula}
use Rattle.mw_theory.specs.Settling.{defined}
use Rattle.mw_kernel.specs.Proofs.{judged_for}
use Rattle.mw_explain_events.specs.Reasons.{is_of_definitions, AreRefused}

module _ (t : Theory) (ds : List Draft) where
  abbrev A : ArityTable
  A = arity_table t.definitions

  -- they fail a test, or want proofs of formulas
  data Comes : Demand → Type 0 where
    fails : (r : Refusal) → FailsBlock A ds r → Comes (Denied r)
    wants : (Fs : List Formula) (next : Theory) → Comes (Wants Fs next)

  abbrev wanted : List Name → List (List Name) → List Term → List Term → Demand
  wanted fs xss bs ms = Wants (obligations (functions fs xss bs) (measures fs ms)) (add_to_theory t (Functions (functions fs xss bs)))

  abbrev after_terms : List Name → List (List Name) → List Term × List Term → Demand
  after_terms fs xss ts = wants_that VARIABLES (are_closed_by xss ts.0 ts.1) (wants_that NESTED (not (is_nested (functions fs xss ts.0) (functions fs xss ts.0))) (wanted fs xss ts.0 ts.1))

  abbrev after_formals : List Name → List (List Name) → Demand
  after_formals fs xss = wants_some TERM (the_terms_under A ds fs xss) (after_terms fs xss)

  abbrev after_names : List Name → Demand
  after_names fs = wants_some FORMALS (the_formal_lists A ds) (after_formals fs)

  module _ (fs : List Name) (names : the_names A ds ≡ Some fs) where
    module _ (xss : List (List Name)) (formals : the_formal_lists A ds ≡ Some xss) where
      module _ (bs ms : List Term) (terms : the_terms_under A ds fs xss ≡ Some (bs, ms)) where
        by_flat : are_closed_by xss bs ms ≡ true → (b : Bool) → is_nested (functions fs xss bs) (functions fs xss bs) ≡ b → Comes (wants_that NESTED (not b) (wanted fs xss bs ms))
        by_flat c true e = fails NESTED (nested fs xss bs ms names formals terms c e)
        by_flat c false e = wants _ _

        by_closed : (b : Bool) → are_closed_by xss bs ms ≡ b → Comes (wants_that VARIABLES b (wants_that NESTED (not (is_nested (functions fs xss bs) (functions fs xss bs))) (wanted fs xss bs ms)))
        by_closed true e = by_flat e (is_nested (functions fs xss bs) (functions fs xss bs)) refl
        by_closed false e = fails VARIABLES (not_closed fs xss bs ms names formals terms e)

      by_terms : (o : Option (List Term × List Term)) → the_terms_under A ds fs xss ≡ o → Comes (wants_some TERM o (after_terms fs xss))
      by_terms None e = fails TERM (no_terms fs xss names formals e)
      by_terms (Some ts) e = by_closed ts.0 ts.1 e (are_closed_by xss ts.0 ts.1) refl

    by_formals : (o : Option (List (List Name))) → the_formal_lists A ds ≡ o → Comes (wants_some FORMALS o (after_formals fs))
    by_formals None e = fails FORMALS (no_formals fs names e)
    by_formals (Some xss) e = by_terms xss e (the_terms_under A ds fs xss) refl

  by_names : (o : Option (List Name)) → the_names A ds ≡ o → Comes (wants_some NAME o after_names)
  by_names None e = fails NAME (no_names e)
  by_names (Some fs) e = by_formals fs e (the_formal_lists A ds) refl

  comes : Comes (define_demand t ds)
  comes = by_names (the_names A ds) refl

-- the reason for which a fate refuses
abbrev reason_in : Refusal → Fate → Refusal
reason_in r (Accepted text) = r
reason_in r (Refused q) = q

pub same_reason : (q r : Refusal) → Refused q ≡ Refused r → q ≡ r
same_reason q r e = ap (reason_in q) e

module _ (N : ℕ) (t : Theory) (given : Option (List Draft)) (ps : Object) where
  -- they are no definitions, fail a test, or come with too many or too few proofs, or with one that is refused
  pub data Refuses : Refusal → Type 0 where
    no_drafts : given ≡ None → Refuses EVENT
    no_block : (ds : List Draft) (r : Refusal) → given ≡ Some ds → FailsBlock (arity_table t.definitions) ds r → Refuses r
    not_as_many : (ds : List Draft) (Fs : List Formula) (next : Theory) → given ≡ Some ds → define_demand t ds ≡ Wants Fs next → Refuses COUNT
    not_proved : (ds : List Draft) (Fs : List Formula) (next : Theory) (r : Refusal) → given ≡ Some ds → define_demand t ds ≡ Wants Fs next → AreRefused r t N Fs ps → Refuses r

  module _ (r : Refusal) where
    abbrev Told : Fate × Theory → Type 0
    Told f = f.0 ≡ Refused r → Refuses r

    module _ (ds : List Draft) (is : given ≡ Some ds) (Fs : List Formula) (next : Theory) (demand : define_demand t ds ≡ Wants Fs next) where
      by_proofs : has_members (length Fs) ps ≡ true → (o : Option Refusal) → each_judged (by_formula (judged_for N)) t 0 Fs ps ≡ o → Told (unless t o (accept next))
      unfolding unless
      by_proofs many None e h = cc
      by_proofs many (Some q) e h = not_proved ds Fs next r is demand (many, e ∙ ap Some (same_reason q r h))

      by_count : (b : Bool) → has_members (length Fs) ps ≡ b → Told (must t COUNT b (unless t (each_judged (by_formula (judged_for N)) t 0 Fs ps) (accept next)))
      unfolding must
      by_count true e h = by_proofs e (each_judged (by_formula (judged_for N)) t 0 Fs ps) refl h
      by_count false e h = subst Refuses (same_reason COUNT r h) (not_as_many ds Fs next is demand)

    by_demand : (ds : List Draft) → given ≡ Some ds → (d : Demand) → define_demand t ds ≡ d → Comes t ds d → Told (settled (by_formula (judged_for N)) t 0 ps d)
    by_demand ds is d e (fails q f) h = subst Refuses (same_reason q r h) (no_block ds q is f)
    by_demand ds is d e (wants Fs next) h = by_count ds is Fs next e (has_members (length Fs) ps) refl h

    by_given : (g : Option (List Draft)) → given ≡ g → Told (need t EVENT g (λ ds. settled (by_formula (judged_for N)) t 0 ps (define_demand t ds)))
    unfolding need
    by_given None e h = subst Refuses (same_reason EVENT r h) (no_drafts e)
    by_given (Some ds) e h = by_demand ds e (define_demand t ds) refl (comes t ds) h

    pub refused-definitions : (defined (judged_for N) t given ps).0 ≡ Refused r → Refuses r
    refused-definitions h = by_given given refl h

-- a failed test is of the definitions
pub block_fails : (A : ArityTable) (ds : List Draft) (r : Refusal) → FailsBlock A ds r → is_of_definitions r ≡ true
block_fails A ds r (no_names h) = refl
block_fails A ds r (no_formals fs h k) = refl
block_fails A ds r (no_terms fs xss h k l) = refl
block_fails A ds r (not_closed fs xss bs ms h k l c) = refl
block_fails A ds r (nested fs xss bs ms h k l c n) = refl

-- the names passed where the reason is another, and the formals where it is neither
pub names-passed : (A : ArityTable) (ds : List Draft) (r : Refusal) → FailsBlock A ds r → (r ≡ NAME → ⊥) → is_some (the_names A ds) ≡ true
names-passed A ds r (no_names h) n = absurd (n refl)
names-passed A ds r (no_formals fs h k) n = ap is_some h
names-passed A ds r (no_terms fs xss h k l) n = ap is_some h
names-passed A ds r (not_closed fs xss bs ms h k l c) n = ap is_some h
names-passed A ds r (nested fs xss bs ms h k l c d) n = ap is_some h

pub formals-passed : (A : ArityTable) (ds : List Draft) (r : Refusal) → FailsBlock A ds r → (r ≡ NAME → ⊥) → (r ≡ FORMALS → ⊥) → is_some (the_formal_lists A ds) ≡ true
formals-passed A ds r (no_names h) n m = absurd (n refl)
formals-passed A ds r (no_formals fs h k) n m = absurd (m refl)
formals-passed A ds r (no_terms fs xss h k l) n m = ap is_some k
formals-passed A ds r (not_closed fs xss bs ms h k l c) n m = ap is_some k
formals-passed A ds r (nested fs xss bs ms h k l c d) n m = ap is_some k
