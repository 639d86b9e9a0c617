-- What a caller cites: what the answers say of the events that add a witness and that add functions.
use Rattle.std.proofs.Common.{◌≡◌, ℕ, Bool, true, false, not, List, ◌∷◌, Option, Some, ap, ◌∙◌, subst}
use Rattle.mw_model.specs.Terms.Object.{Name, Object, Pair, second_of, third_of, fourth_of, fifth_of}
use Rattle.mw_model.specs.Terms.Term.{Term, ArityTable, is_closed}
use Rattle.mw_model.specs.Values.Definition.{Functions, Choice, arity_table}
use Rattle.mw_model.specs.Events.Obligation.{obligations, is_nested}
use Rattle.mw_model.specs.Events.Expansion.{expand}
use Rattle.mw_model.specs.Events.Theory.{Theory}
use Rattle.mw_model.specs.Events.Refusal.{Refusal, NAME, FORMALS, TERM, VARIABLES, NESTED, Fate, refuse, accept, need, must}
use Rattle.mw_model.specs.Events.Admission.{Draft, formals_of, functions, measures, are_closed_by, add_witness, add_to_theory, skolem}
use Rattle.mw_model.specs.Events.Demand.{Demand, Denied, Wants, wants_some, wants_that, define_demand}
use Rattle.mw_define.specs.declared.admitted.Owed.{Owed}
use Rattle.mw_define.specs.Tests.{FailsWitness, by_name, by_formals, by_term, by_variables, PassesWitness}
use Rattle.mw_define.specs.BlockTests.{the_names, the_formal_lists, the_terms_under, FailsBlock, no_names, no_formals, no_terms, not_closed, nested, PassesBlock}
use Rattle.mw_define.proofs.Witnessed.{names-pair, formals-names}

module _ (t : Theory) where
  -- the event from some test on
  abbrev with_body : Name → List Name → Option Term → Fate × Theory
  with_body g xs o = need t TERM o (λ b. add_witness t g xs b)

  abbrev with_formals : ArityTable → Object → Name → Option (List Name) → Fate × Theory
  with_formals A body g o = need t FORMALS o (λ xs. with_body g xs (expand A body))

  abbrev with_name : ArityTable → Object → Object → Object → Option Name → Fate × Theory
  with_name A bound free body o = need t NAME o (λ g. with_formals A body g (formals_of (Pair bound free)))

  closed-or : (g : Name) (bound free : Object) (xs : List Name) (b : Term) → formals_of (Pair bound free) ≡ Some xs → is_closed xs b ≡ false → add_witness t g xs b ≡ refuse t VARIABLES
  unfolding must
  closed-or g bound free xs b h c =
      let read = names-pair bound free xs (formals-names (Pair bound free) xs h) in
      let closed : is_closed (read.first ∷ read.rest) b ≡ false = subst (λ ys. is_closed ys b ≡ false) read.are c in
      ap (λ ys. add_witness t g ys b) read.are
      ∙ ap (λ d. must t VARIABLES d (accept (add_to_theory t (Choice g read.first read.rest b)))) closed

  module _ (e : Object) where
    -- the first test that fails is the reason of the refusal
    pub skolem-refused : (r : Refusal) → FailsWitness (arity_table t.definitions) (second_of e) (third_of e) (fourth_of e) (fifth_of e) r → skolem t e ≡ refuse t r
    unfolding need must
    skolem-refused r (by_name h) = ap (with_name (arity_table t.definitions) (third_of e) (fourth_of e) (fifth_of e)) h
    skolem-refused r (by_formals g h k) =
        let A = arity_table t.definitions in
        ap (with_name A (third_of e) (fourth_of e) (fifth_of e)) h ∙ ap (with_formals A (fifth_of e) g) k
    skolem-refused r (by_term g xs h k l) =
        let A = arity_table t.definitions in
        ap (with_name A (third_of e) (fourth_of e) (fifth_of e)) h ∙ (ap (with_formals A (fifth_of e) g) k ∙ ap (with_body g xs) l)
    skolem-refused r (by_variables g xs b h k l c) =
        let A = arity_table t.definitions in
        ap (with_name A (third_of e) (fourth_of e) (fifth_of e)) h ∙ (ap (with_formals A (fifth_of e) g) k ∙ (ap (with_body g xs) l ∙ closed-or g (third_of e) (fourth_of e) xs b k c))

    -- where all pass the witness is added
    pub skolem-accepted : (os : List Object) (ref : ℕ) (owed : Owed) → (h : PassesWitness (arity_table t.definitions) (second_of e) (third_of e) (fourth_of e) (fifth_of e) os ref owed) → skolem t e ≡ accept (add_to_theory t (Choice h.symbol h.first h.rest h.term))
    unfolding need must
    skolem-accepted os ref owed h =
        let A = arity_table t.definitions in
        ap (with_name A (third_of e) (fourth_of e) (fifth_of e)) h.is_new
        ∙ (ap (with_formals A (fifth_of e) h.symbol) h.are_formals
        ∙ (ap (with_body h.symbol (h.first ∷ h.rest)) h.expands
        ∙ ap (λ d. must t VARIABLES d (accept (add_to_theory t (Choice h.symbol h.first h.rest h.term)))) h.closed))

-- Blocks of functions: the first test that fails is the reason of the refusal; where all pass, proofs of the obligations are wanted.
module _ (t : Theory) where
  abbrev tested_block : List Name → List (List Name) → List Term × List Term → Demand
  tested_block fs xss terms =
      let B = functions fs xss terms.0 in
      wants_that VARIABLES (are_closed_by xss terms.0 terms.1) (wants_that NESTED (not (is_nested B B)) (Wants (obligations B (measures fs terms.1)) (add_to_theory t (Functions B))))

  abbrev with_terms : List Name → List (List Name) → Option (List Term × List Term) → Demand
  with_terms fs xss o = wants_some TERM o (λ terms. tested_block fs xss terms)

  module _ (drafts : List Draft) where
    abbrev with_formal_lists : List Name → Option (List (List Name)) → Demand
    with_formal_lists fs o = wants_some FORMALS o (λ xss. with_terms fs xss (the_terms_under (arity_table t.definitions) drafts fs xss))

    abbrev with_names : Option (List Name) → Demand
    with_names o = wants_some NAME o (λ fs. with_formal_lists fs (the_formal_lists (arity_table t.definitions) drafts))

    abbrev when_closed : List Name → List (List Name) → List Term → List Term → Bool → Demand
    when_closed fs xss bs ms d = let B = functions fs xss bs in wants_that VARIABLES d (wants_that NESTED (not (is_nested B B)) (Wants (obligations B (measures fs ms)) (add_to_theory t (Functions B))))

    abbrev when_flat : List Name → List (List Name) → List Term → List Term → Bool → Demand
    when_flat fs xss bs ms d = let B = functions fs xss bs in wants_that NESTED (not d) (Wants (obligations B (measures fs ms)) (add_to_theory t (Functions B)))

    pub define-denied : (r : Refusal) → FailsBlock (arity_table t.definitions) drafts r → define_demand t drafts ≡ Denied r
    define-denied r (no_names h) = ap with_names h
    define-denied r (no_formals fs h k) = ap with_names h ∙ ap (with_formal_lists fs) k
    define-denied r (no_terms fs xss h k l) = ap with_names h ∙ (ap (with_formal_lists fs) k ∙ ap (with_terms fs xss) l)
    define-denied r (not_closed fs xss bs ms h k l c) = ap with_names h ∙ (ap (with_formal_lists fs) k ∙ (ap (with_terms fs xss) l ∙ ap (when_closed fs xss bs ms) c))
    define-denied r (nested fs xss bs ms h k l c n) =
        ap with_names h ∙ (ap (with_formal_lists fs) k ∙ (ap (with_terms fs xss) l ∙ (ap (when_closed fs xss bs ms) c ∙ ap (when_flat fs xss bs ms) n)))

    pub define-owes : (fs : List Name) (xss : List (List Name)) (bs ms : List Term) → the_names (arity_table t.definitions) drafts ≡ Some fs → the_formal_lists (arity_table t.definitions) drafts ≡ Some xss → the_terms_under (arity_table t.definitions) drafts fs xss ≡ Some (bs, ms) → are_closed_by xss bs ms ≡ true → is_nested (functions fs xss bs) (functions fs xss bs) ≡ false → define_demand t drafts ≡ Wants (obligations (functions fs xss bs) (measures fs ms)) (add_to_theory t (Functions (functions fs xss bs)))
    define-owes fs xss bs ms h k l c n =
        ap with_names h ∙ (ap (with_formal_lists fs) k ∙ (ap (with_terms fs xss) l ∙ (ap (when_closed fs xss bs ms) c ∙ ap (when_flat fs xss bs ms) n)))

    pub define-wants : (os : List Object) (owed : Owed) → (h : PassesBlock (arity_table t.definitions) drafts os owed) → let B = functions h.names h.formals h.bodies in define_demand t drafts ≡ Wants (obligations B (measures h.names h.measures_of)) (add_to_theory t (Functions B))
    define-wants os owed h = define-owes h.names h.formals h.bodies h.measures_of h.are_new h.are_formals h.expand h.closed h.flat
