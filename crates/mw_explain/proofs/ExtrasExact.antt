-- Extras of an induction as objects are those of the definition, and ask for the same premises.
use Rattle.std.proofs.Common.{◌≡◌, ℕ, Bool, true, false, ◌&&◌, cond, List, [], Option, Some, None, is_some, option_map, refl, sym, ap, ap₂, ◌∙◌}
use Rattle.mw_model.specs.Terms.Object.{Object, Natural, Symbol, Pair, same_name, same_object, nil_name, NIL}
use Rattle.mw_model.specs.Terms.Term.{Term, ArityTable, Formula, IsFormula, formula_object}
use Rattle.mw_model.specs.Terms.Reading.{term_of, formula_of, and_more, map2, when}
use Rattle.mw_model.specs.Terms.Substitution.{Substitution, is_substitution, substitution_of}
use Rattle.mw_model.specs.Proofs.Induction.{Case, premises, are_substitutions, are_cases, conditions_object, cases_object}
use Rattle.mw_model.specs.Proofs.Judgment.{substitutions_of, case, cases_of}
use Rattle.mw_model.specs.Laws.Rules.{is_substitution_object}
use Rattle.mw_model.specs.Laws.RulesInduction.{formulas_object, are_substitution_objects, premises_object}
use Rattle.mw_model.proofs.ReadBack.{term_back}
use Rattle.mw_model.proofs.Follows.{cases_back}
use Rattle.mw_model.proofs.Readable.{formula_readable}
use Rattle.mw_model.proofs.RulesExact.{passes, if_nil-passes, is_substitution_object-is}
use Rattle.mw_model.proofs.PremisesObject.{premises_object-is}
use Rattle.std.proofs.lemmas.Bool.{and_parts, and_from}
use Rattle.mw_model.specs.Values.Primitive.{is_pair}
use Rattle.mw_heap.specs.Objects.{object_at}
use Rattle.mw_subst.specs.Pairs.{is_list_of_pairs}
use Rattle.mw_subst.proofs.PairLists.{substitution_pairs}
use Rattle.mw_induct.specs.Pairs.{are_lists_of_pairs, are_cases_of_pairs}
use Rattle.mw_define.proofs.ReadTerms.{read-term}
use Rattle.mw_commands.specs.Commands.ExplanationSteps.{premises_by, premises_wanted}
use Rattle.mw_explain.specs.Extras.{are_cases_at, premises_at}

lists_are_pairs : (A : ArityTable) (x : Object) → are_substitution_objects A x ≡ true → are_lists_of_pairs x ≡ true
lists_are_pairs A (Natural n) h = refl
lists_are_pairs A (Symbol s) h = refl
lists_are_pairs A (Pair s r) h =
    let p = and_parts (is_substitution_object A s) (are_substitution_objects A r) h in
    and_from (is_list_of_pairs s) (are_lists_of_pairs r) (substitution_pairs A s p.0) (lists_are_pairs A r p.1)

and_false : (b : Bool) → false ≡ (b && false)
and_false true = refl
and_false false = refl

module _ (A : ArityTable) where
  pub substitutions_pass : (x : Object) → are_substitution_objects A x ≡ passes (are_substitutions A) (substitutions_of x)
  substitutions_pass (Natural n) = refl
  substitutions_pass (Symbol s) = if_nil-passes (are_substitutions A) s [] refl
  substitutions_pass (Pair s r) = ap₂ (λ a b. a && b) (is_substitution_object-is A s) (substitutions_pass r) ∙ go (substitution_of s) (substitutions_of r)
    where
      go : (o : Option Substitution) (p : Option (List Substitution)) → (passes (is_substitution A) o && passes (are_substitutions A) p) ≡ passes (are_substitutions A) (and_more o p)
      go None p = refl
      go (Some s) None = sym (and_false (is_substitution A s))
      go (Some s) (Some ss) = refl

  pub cases_pass : (qs ss : Object) → are_cases_at A qs ss ≡ passes (are_cases A) (cases_of qs ss)
  cases_pass (Pair q qs) (Pair s ss) = ap₂ (λ a b. is_some (formula_of q) && (a && b)) (substitutions_pass s) (cases_pass qs ss) ∙ go (formula_of q) (substitutions_of s) (cases_of qs ss)
    where
      go : (o : Option Formula) (p : Option (List Substitution)) (r : Option (List Case)) → (is_some o && (passes (are_substitutions A) p && passes (are_cases A) r)) ≡ passes (are_cases A) (and_more (map2 case o p) r)
      go None p r = refl
      go (Some F) None r = refl
      go (Some F) (Some ss) None = sym (and_false (are_substitutions A ss))
      go (Some F) (Some ss) (Some cs) = refl
  cases_pass (Symbol s) (Symbol r) = elim (same_name s nil_name && same_name r nil_name) as (λ b. b ≡ passes (are_cases A) (when b (Some []))) [ true ↦ refl | false ↦ refl ]
  cases_pass (Natural n) ss = refl
  cases_pass (Symbol s) (Natural n) = refl
  cases_pass (Symbol s) (Pair a b) = refl
  cases_pass (Pair q qs) (Natural n) = refl
  cases_pass (Pair q qs) (Symbol s) = refl

  module _ (F : Formula) (i : IsFormula A F) where
    abbrev Shown : Option (List Formula) → Option Object
    Shown o = option_map formulas_object o

    by_parts : (m qs ss : Object) (o : Option Term) (p : Option (List Case)) → term_of m ≡ o → cases_of qs ss ≡ p → Shown (premises_by A F o p) ≡ cond (is_some o && passes (are_cases A) p) (Some (premises_object (formula_object F) m qs ss)) None
    by_parts m qs ss None p e f = refl
    by_parts m qs ss (Some t) None e f = refl
    by_parts m qs ss (Some t) (Some cs) e f = go (are_cases A cs)
      where
        same : formulas_object (premises F t cs) ≡ premises_object (formula_object F) m qs ss
        same =
            let k = cases_back qs ss cs f in
            sym (premises_object-is t (read-term m t e) F (formula_readable A F i) cs)
            ∙ (ap (λ y. premises_object (formula_object F) y (conditions_object cs) (cases_object cs)) (term_back m t e) ∙ ap₂ (premises_object (formula_object F) m) k.0 k.1)

        go : (b : Bool) → Shown (when b (Some (premises F t cs))) ≡ cond b (Some (premises_object (formula_object F) m qs ss)) None
        go true = ap Some same
        go false = refl

    by_extras : (m qs ss : Object) → Shown (premises_by A F (term_of m) (cases_of qs ss)) ≡ cond (is_some (term_of m) && are_cases_at A qs ss) (Some (premises_object (formula_object F) m qs ss)) None
    by_extras m qs ss =
        by_parts m qs ss (term_of m) (cases_of qs ss) refl refl
        ∙ ap (λ b. cond (is_some (term_of m) && b) (Some (premises_object (formula_object F) m qs ss)) None) (sym (cases_pass qs ss))

    pub premises_shown : (x : Object) → option_map formulas_object (premises_wanted A F x) ≡ premises_at A (formula_object F) x
    premises_shown (Natural n) = refl
    premises_shown (Symbol s) = refl
    premises_shown (Pair m (Natural n)) = refl
    premises_shown (Pair m (Symbol s)) = refl
    premises_shown (Pair m (Pair qs (Natural n))) = refl
    premises_shown (Pair m (Pair qs (Symbol s))) = refl
    premises_shown (Pair m (Pair qs (Pair ss (Natural n)))) = refl
    premises_shown (Pair m (Pair qs (Pair ss (Pair a b)))) = refl
    premises_shown (Pair m (Pair qs (Pair ss (Symbol s)))) = go (same_name s nil_name)
      where
        go : (b : Bool) → Shown (when b (premises_by A F (term_of m) (cases_of qs ss))) ≡ cond (b && (is_some (term_of m) && are_cases_at A qs ss)) (Some (premises_object (formula_object F) m qs ss)) None
        go true = by_extras m qs ss
        go false = refl

-- ---- cases one after another

pub no_cases : (A : ArityTable) (qs ss : Object) → is_pair qs ≡ false → same_object qs NIL ≡ false → are_cases_at A qs ss ≡ false
no_cases A (Natural n) ss h k = refl
no_cases A (Symbol s) (Natural n) h k = refl
no_cases A (Symbol s) (Symbol r) h k = ap (λ b. b && same_name r nil_name) k
no_cases A (Symbol s) (Pair a b) h k = refl
no_cases A (Pair a b) ss h k = cc

pub cases_nil : (A : ArityTable) (qs ss : Object) → is_pair qs ≡ false → same_object qs NIL ≡ true → are_cases_at A qs ss ≡ same_object ss NIL
cases_nil A (Natural n) ss h k = cc
cases_nil A (Symbol s) (Natural n) h k = refl
cases_nil A (Symbol s) (Symbol r) h k = ap (λ b. b && same_name r nil_name) k
cases_nil A (Symbol s) (Pair a b) h k = refl
cases_nil A (Pair a b) ss h k = cc

pub substitutions_next : (A : ArityTable) (y s r : Object) → y ≡ Pair s r → is_substitution_object A s ≡ true → are_substitution_objects A r ≡ are_substitution_objects A y
substitutions_next A y s r e h = sym (ap (are_substitution_objects A) e ∙ ap (λ b. b && are_substitution_objects A r) h)

-- extras of an induction are lists of pairs where they have to be
pub cases_are_pairs : (A : ArityTable) (qs ss : Object) → are_cases_at A qs ss ≡ true → are_cases_of_pairs ss ≡ true
cases_are_pairs A (Pair q qs) (Pair s ss) h =
    let p = and_parts (is_some (formula_of q)) (are_substitution_objects A s && are_cases_at A qs ss) h in
    let r = and_parts (are_substitution_objects A s) (are_cases_at A qs ss) p.1 in
    and_from (are_lists_of_pairs s) (are_cases_of_pairs ss) (lists_are_pairs A s r.0) (cases_are_pairs A qs ss r.1)
cases_are_pairs A (Natural n) ss h = cc
cases_are_pairs A (Symbol s) (Natural n) h = refl
cases_are_pairs A (Symbol s) (Symbol r) h = refl
cases_are_pairs A (Symbol s) (Pair a b) h = cc
cases_are_pairs A (Pair q qs) (Natural n) h = refl
cases_are_pairs A (Pair q qs) (Symbol s) h = refl

pub pairs_in : (A : ArityTable) (mid last : List Object) (q s : ℕ) (b : Bool) → last ≡ mid → b ≡ are_cases_at A (object_at mid q) (object_at mid s) → b ≡ true → are_cases_of_pairs (object_at last s) ≡ true
pairs_in A mid last q s b e f h = ap (λ os. are_cases_of_pairs (object_at os s)) e ∙ cases_are_pairs A (object_at mid q) (object_at mid s) (sym f ∙ h)
