-- The tests of an EVAL, and its fate by its run.
use Rattle.std.proofs.Common.{◌≡◌, ℕ, suc, true, false, nat_eq, List, [], ◌∷◌, length, map, Some, None, refl, sym, ap, ◌∙◌, subst, rules}
use Rattle.mw_model.specs.Terms.Object.{Name, Object, Symbol}
use Rattle.mw_model.specs.Terms.Term.{Term, ArityTable, variables, is_term, is_closed, term_object}
use Rattle.mw_model.specs.Terms.Reading.{term_of, when}
use Rattle.mw_model.specs.Values.Definition.{Definitions, arity_table}
use Rattle.mw_model.specs.Events.Expansion.{expand}
use Rattle.mw_model.specs.Events.Evaluation.{evaluate}
use Rattle.mw_model.specs.Events.Theory.{Theory}
use Rattle.mw_model.specs.Events.Refusal.{TERM, VARIABLES, refuse, need}
use Rattle.mw_model.specs.Events.Fate.{eval, show_outcome}
use Rattle.mw_model.proofs.Closed.{each_among, closed_variables}
use Rattle.mw_model.proofs.Formed.{formed}
use Rattle.mw_model.proofs.Read.{term_read}
use Rattle.mw_truth.proofs.Drafted.{expand-term}
use Rattle.mw_heap.specs.Objects.{object_at, Grows}
use Rattle.mw_code.specs.declared.table.Table.{Table}
use Rattle.mw_code.specs.Tables.{StandsFor, IsClosedTerm}
use Rattle.mw_code.proofs.CallerLemmas.{stands-grows}
use Rattle.mw_theory.specs.Words.{eval_event}
use Rattle.mw_kernel.specs.Evaluating.{IsTried}
use Rattle.mw_kernel.specs.declared.eval.Tried.TheVariants.{Closed}

not_zero : (n : ℕ) → nat_eq (suc n) 0 ≡ false
not_zero n = search rules

-- a term is closed under no names exactly where it has no variables
none_among : (os : List Object) (vs : List ℕ) (ns : List Name) → map (object_at os) vs ≡ map Symbol ns → nat_eq (length vs) 0 ≡ each_among ns []
none_among os [] [] h = refl
none_among os [] (y ∷ ys) h = cc
none_among os (v ∷ vs) [] h = cc
none_among os (v ∷ vs) (y ∷ ys) h = not_zero (length vs)

pub no_variables : (os : List Object) (vs : List ℕ) (t : Term) → map (object_at os) vs ≡ map Symbol (variables t) → nat_eq (length vs) 0 ≡ is_closed [] t
no_variables os vs t h = none_among os vs (variables t) h ∙ sym (closed_variables [] t)

-- what a raw term expands to is read back
pub expanded-read : (A : ArityTable) (os : List Object) (x : Object) (r : ℕ) (t : Term) → expand A x ≡ Some t → object_at os r ≡ term_object t → term_of (object_at os r) ≡ Some t
expanded-read A os x r t h is = ap term_of is ∙ term_read A t (formed A t (expand-term A x t h))

module _ (t : Theory) (N : ℕ) (x : Object) where
  pub refused_term : expand (arity_table t.definitions) x ≡ None → eval t N (eval_event x) ≡ refuse t TERM
  unfolding need
  refused_term h = ap (λ o. need t TERM o (λ a. need t VARIABLES (when (is_closed [] a) (Some a)) (λ closed. show_outcome t (evaluate t.definitions N [] closed)))) h

  module _ (a : Term) (h : expand (arity_table t.definitions) x ≡ Some a) where
    expanded : eval t N (eval_event x) ≡ need t VARIABLES (when (is_closed [] a) (Some a)) (λ closed. show_outcome t (evaluate t.definitions N [] closed))
    unfolding need
    expanded = ap (λ o. need t TERM o (λ b. need t VARIABLES (when (is_closed [] b) (Some b)) (λ closed. show_outcome t (evaluate t.definitions N [] closed)))) h

    pub refused_variables : is_closed [] a ≡ false → eval t N (eval_event x) ≡ refuse t VARIABLES
    unfolding need
    refused_variables c = expanded ∙ ap (λ b. need t VARIABLES (when b (Some a)) (λ closed. show_outcome t (evaluate t.definitions N [] closed))) c

    pub evaluated_is : is_closed [] a ≡ true → eval t N (eval_event x) ≡ show_outcome t (evaluate t.definitions N [] a)
    unfolding need
    evaluated_is c = expanded ∙ ap (λ b. need t VARIABLES (when b (Some a)) (λ closed. show_outcome t (evaluate t.definitions N [] closed))) c

-- a term that passed the tests is a closed term of the definitions
pub tried-closed : (D : Definitions) (A : ArityTable) → A ≡ arity_table D → (os : List Object) (x : Object) (r : ℕ) (h : IsTried A os x (Closed r)) → IsClosedTerm D os r h.0
tried-closed D A is os x r h = record {
  within = h.3;
  read = expanded-read A os x r h.0 h.1 h.4;
  term = subst (λ B. is_term B h.0 ≡ true) is (expand-term A x h.0 h.1);
  closed = h.2;
}

-- the table stands as the heap grows
pub table-grows : (old new : List Object) → Grows old new → (T : Table) (D : Definitions) → StandsFor old T D → StandsFor new T D
table-grows old new grows T D h = stands-grows old new grows T.signature T.profile T.functions.items T.code.items T.kept D h
