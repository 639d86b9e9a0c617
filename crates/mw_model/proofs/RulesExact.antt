-- The tests on objects of formulas are those on formulas: connectives, beta reduction and instances.
use Rattle.std.proofs.Common.{◌≡◌, Bool, true, false, ◌&&◌, cond, [], Option, Some, None, refl, sym, ap, ap₂, ◌∙◌, subst, option_map, is_some}
use Rattle.mw_model.specs.Terms.Object.{Name, Object, Natural, Symbol, Pair, same_name, same_object, nil_name}
use Rattle.mw_model.specs.Terms.Term.{Term, Variable, Constant, If, Call, Lambda, Formula, Equal, Not, Or, term_object, formula_object, ArityTable, is_term, IsFormula, is_variable}
use Rattle.mw_model.specs.Terms.Same.{same_formula}
use Rattle.mw_model.specs.Terms.Reading.{term_of, that, when, if_nil, and_more}
use Rattle.mw_model.specs.Terms.Substitution.{Substitution, substitute, substitute_formula, actuals_for, substitution_object, substitution_of, is_substitution}
use Rattle.mw_model.specs.Proofs.Judgment.{is_schema, is_beta, is_expansion, is_contraction, is_associativity, is_cut, is_instance}
use Rattle.mw_model.specs.Laws.Rules.{object_is_schema, object_is_expansion, object_is_contraction, object_is_associativity, object_is_cut, substitute_object, substitute_formula_object, object_is_beta, is_substitution_object, object_is_instance}
use Rattle.mw_model.proofs.Readable.{ReadableFormula, formula_readable, same_object-terms, same_object-formulas, substitute-readable, substitute_formula-readable, substitution_readable, actuals_for-readable}
use Rattle.mw_model.proofs.SubstituteObject.{substitute_object-is, substitute_formula_object-is, actuals_object-is}
use Rattle.mw_model.proofs.Follows.{substitution_back}

pub object_is_schema-exact : (F : Formula) → ReadableFormula F → object_is_schema (formula_object F) ≡ is_schema F
object_is_schema-exact (Equal a b) i = refl
object_is_schema-exact (Not F) i = refl
object_is_schema-exact (Or (Equal a b) G) i = refl
object_is_schema-exact (Or (Or F H) G) i = refl
object_is_schema-exact (Or (Not F) G) i = same_object-formulas (Not F) (Not G) i.0 i.1

pub object_is_expansion-exact : (F G : Formula) → ReadableFormula F → ReadableFormula G → object_is_expansion (formula_object F) (formula_object G) ≡ is_expansion F G
object_is_expansion-exact (Equal a b) G i j = refl
object_is_expansion-exact (Not F) G i j = refl
object_is_expansion-exact (Or F H) G i j = same_object-formulas H G i.1 j

pub object_is_contraction-exact : (F G : Formula) → ReadableFormula F → ReadableFormula G → object_is_contraction (formula_object F) (formula_object G) ≡ is_contraction F G
object_is_contraction-exact F G i j = same_object-formulas G (Or F F) j (i, i)

pub object_is_associativity-exact : (F G : Formula) → ReadableFormula F → ReadableFormula G → object_is_associativity (formula_object F) (formula_object G) ≡ is_associativity F G
object_is_associativity-exact F (Equal a b) i j = refl
object_is_associativity-exact F (Not G) i j = refl
object_is_associativity-exact F (Or G (Equal a b)) i j = refl
object_is_associativity-exact F (Or G (Not H)) i j = refl
object_is_associativity-exact F (Or G (Or H K)) i j = same_object-formulas F (Or (Or G H) K) i ((j.0, j.1.0), j.1.1)

pub object_is_cut-exact : (F G H : Formula) → ReadableFormula F → ReadableFormula G → ReadableFormula H → object_is_cut (formula_object F) (formula_object G) (formula_object H) ≡ is_cut F G H
object_is_cut-exact F (Equal a b) H i j k = refl
object_is_cut-exact F (Not G) H i j k = refl
object_is_cut-exact F (Or G K) (Equal a b) i j k = refl
object_is_cut-exact F (Or G K) (Not H) i j k = refl
object_is_cut-exact F (Or G K) (Or H L) i j k = ap₂ (λ p q. p && q) (same_object-formulas H (Not G) k.0 j.0) (same_object-formulas F (Or K L) i (j.1, k.1))

-- beta reduction
pub object_is_beta-exact : (F : Formula) → ReadableFormula F → object_is_beta (formula_object F) ≡ is_beta F
object_is_beta-exact (Not F) i = refl
object_is_beta-exact (Or F G) i = refl
object_is_beta-exact (Equal (Variable x) r) i = refl
object_is_beta-exact (Equal (Constant c) r) i = refl
object_is_beta-exact (Equal (If a b c) r) i = refl
object_is_beta-exact (Equal (Call f ts) r) i = refl
object_is_beta-exact (Equal (Lambda xs b ts) r) i =
    ap (λ s. same_object (term_object r) (substitute_object s (term_object b))) (actuals_object-is xs ts)
    ∙ (ap (same_object (term_object r)) (substitute_object-is (actuals_for xs ts) b i.0.0)
    ∙ same_object-terms r (substitute (actuals_for xs ts) b) i.1 (substitute-readable (actuals_for xs ts) (actuals_for-readable xs ts i.0.1) b i.0.0))

-- instances
-- a test of what there may be
abbrev pub passes : {X : Type 0} → (X → Bool) → Option X → Bool
passes test None = false
passes test (Some x) = test x

pub that-present : {X : Type 0} (test : X → Bool) (o : Option X) → is_some (that test o) ≡ passes test o
that-present test None = refl
that-present test (Some x) = go (test x)
  where
    go : (b : Bool) → is_some (when b (Some x)) ≡ b
    go true = refl
    go false = refl

pub if_nil-passes : {X : Type 0} (test : X → Bool) (s : Name) (x : X) → test x ≡ true → same_name s nil_name ≡ passes test (if_nil s x)
if_nil-passes test s x h = go (same_name s nil_name)
  where
    go : (b : Bool) → b ≡ passes test (cond b (Some x) None)
    go true = sym h
    go false = refl

module _ (A : ArityTable) where
  pub is_substitution_object-is : (x : Object) → is_substitution_object A x ≡ passes (is_substitution A) (substitution_of x)
  is_substitution_object-is (Natural n) = refl
  is_substitution_object-is (Symbol n) = if_nil-passes (is_substitution A) n [] refl
  is_substitution_object-is (Pair (Natural n) r) = refl
  is_substitution_object-is (Pair (Symbol n) r) = refl
  is_substitution_object-is (Pair (Pair (Natural n) t) r) = refl
  is_substitution_object-is (Pair (Pair (Pair a b) t) r) = refl
  is_substitution_object-is (Pair (Pair (Symbol x) t) r) =
      ap₂ (λ p q. is_variable x && (p && q)) (that-present (is_term A) (term_of t)) (is_substitution_object-is r) ∙ go (term_of t) (substitution_of r)
    where
      none : (a b : Bool) → (a && (b && false)) ≡ false
      none true true = refl
      none true false = refl
      none false b = refl

      go : (o : Option Term) (p : Option Substitution) → (is_variable x && (passes (is_term A) o && passes (is_substitution A) p)) ≡ passes (is_substitution A) (and_more (option_map (λ t. (x, t)) o) p)
      go None p = none (is_variable x) true
      go (Some u) None = none (is_variable x) (is_term A u)
      go (Some u) (Some s) = refl

  module _ (F G : Formula) (i : IsFormula A F) (j : IsFormula A G) where
    by_substitution : (s : Substitution) → (b : Bool) → is_substitution A s ≡ b → (b && same_object (formula_object F) (substitute_formula_object (substitution_object s) (formula_object G))) ≡ (b && same_formula F (substitute_formula s G))
    by_substitution s false h = refl
    by_substitution s true h =
        let k = formula_readable A G j in
        ap (same_object (formula_object F)) (substitute_formula_object-is s G k)
        ∙ same_object-formulas F (substitute_formula s G) (formula_readable A F i) (substitute_formula-readable s (substitution_readable A s h) G k)

    pub object_is_instance-exact : (x : Object) → object_is_instance A (formula_object F) (formula_object G) x ≡ is_instance A F G (substitution_of x)
    object_is_instance-exact x = ap (λ b. b && same_object (formula_object F) (substitute_formula_object x (formula_object G))) (is_substitution_object-is x) ∙ go (substitution_of x) refl
      where
        go : (o : Option Substitution) → substitution_of x ≡ o → (passes (is_substitution A) o && same_object (formula_object F) (substitute_formula_object x (formula_object G))) ≡ is_instance A F G o
        go None e = refl
        go (Some s) e =
            subst (λ z. (is_substitution A s && same_object (formula_object F) (substitute_formula_object z (formula_object G))) ≡ is_instance A F G (Some s)) (substitution_back x s e)
            (by_substitution s (is_substitution A s) refl)
