-- Functional equality: the test on objects of formulas is the test on formulas.
use Rattle.std.proofs.Common.{◌≡◌, Bool, true, false, ◌&&◌, eqb, refl, sym, ap, ◌∙◌, eq-eqb}
use Rattle.std.proofs.lemmas.Bool.{and_parts}
use Rattle.mw_model.specs.Terms.Object.{Name, named, symbol, same_name, same_object, list2, list3}
use Rattle.mw_model.specs.Terms.Term.{Term, Terms, Variable, Constant, If, Call, Lambda, NoTerms, More, Formula, Equal, Not, Or, term_object, terms_object, formula_object, count, is_function_name, is_call_name, ArityTable, arity_of, is_term, is_formula, IsFormula}
use Rattle.mw_model.specs.Terms.Same.{same_formula}
use Rattle.mw_model.specs.Proofs.Proof.{unless_equal, three_terms}
use Rattle.mw_model.specs.Proofs.Judgment.{last_disjunct, is_functional_equality}
use Rattle.mw_model.specs.Laws.Rules.{last_disjunct_object, unless_equal_object, object_ends_with_equality, object_is_functional_equality}
use Rattle.mw_model.proofs.Names.{same_name-eq}
use Rattle.mw_model.proofs.Formed.{Formed, formed}
use Rattle.mw_model.proofs.Readable.{AreReadable, ReadableFormula, term_readable, terms_readable, formula_readable, not_quote, not_if, same_object-formulas}

pub last_disjunct_object-is : (F : Formula) → last_disjunct_object (formula_object F) ≡ formula_object (last_disjunct F)
last_disjunct_object-is (Equal a b) = refl
last_disjunct_object-is (Not F) = refl
last_disjunct_object-is (Or F G) = last_disjunct_object-is G

pub unless_equal_object-is : (ts us : Terms) (F : Formula) → unless_equal_object (terms_object ts) (terms_object us) (formula_object F) ≡ formula_object (unless_equal ts us F)
unless_equal_object-is NoTerms us F = refl
unless_equal_object-is (More t ts) NoTerms F = refl
unless_equal_object-is (More t ts) (More u us) F = ap (list3 (symbol "POR*") (list2 (symbol "PNOT*") (list3 (symbol "PEQUAL*") (term_object t) (term_object u)))) (unless_equal_object-is ts us F)

unless_equal-readable : (ts us : Terms) (F : Formula) → AreReadable ts → AreReadable us → ReadableFormula F → ReadableFormula (unless_equal ts us F)
unless_equal-readable NoTerms us F i j k = k
unless_equal-readable (More t ts) NoTerms F i j k = k
unless_equal-readable (More t ts) (More u us) F i j k = ((i.0, j.0), unless_equal-readable ts us F i.1 j.1 k)

and_false : (b c : Bool) → (b ≡ true → c ≡ false) → (b && c) ≡ false
and_false true c h = h refl
and_false false c h = refl

module _ (A : ArityTable) (F : Formula) (i : ReadableFormula F) where
  pub same_unless : (ts us : Terms) (G : Formula) → AreReadable ts → AreReadable us → ReadableFormula G → same_object (formula_object F) (unless_equal_object (terms_object ts) (terms_object us) (formula_object G)) ≡ same_formula F (unless_equal ts us G)
  same_unless ts us G j k l = ap (same_object (formula_object F)) (unless_equal_object-is ts us G) ∙ same_object-formulas F (unless_equal ts us G) i (unless_equal-readable ts us G j k l)

  equal_calls : (f g : Name) (ts us : Terms) → Formed A (Call f ts) → Formed A (Call g us) → object_ends_with_equality (formula_object F) (formula_object (Equal (Call f ts) (Call g us))) ≡ is_functional_equality F (Equal (Call f ts) (Call g us))
  equal_calls f g ts us j k =
      let e = same_unless ts us (Equal (Call f ts) (Call g us)) (terms_readable A ts j.2) (terms_readable A us k.2) (term_readable A (Call f ts) j, term_readable A (Call g us) k) in
      ap (λ b. (is_function_name f && same_name f g) && b) e ∙ go (is_function_name f) (same_name f g) (eqb (count ts) (count us)) (same_formula F (unless_equal ts us (Equal (Call f ts) (Call g us)))) same_counts
    where
      same_counts : same_name f g ≡ true → eqb (count ts) (count us) ≡ true
      same_counts h = let e = same_name-eq f g h in eq-eqb (count ts) (count us) (cc (j.1, k.1, ap (arity_of A) e))

      go : (a b c d : Bool) → (b ≡ true → c ≡ true) → ((a && b) && d) ≡ (a && (b && (c && d)))
      go false b c d h = refl
      go true false c d h = refl
      go true true c d h = ap (λ z. z && d) (sym (h refl))

  -- two terms are calls of one function only where both are calls, or both IF
  call_and_if : (f : Name) → is_call_name f ≡ true → (d : Bool) → ((is_function_name f && same_name f (named "IF")) && d) ≡ false
  call_and_if f c d = ap (λ b. (is_function_name f && b) && d) (not_if f c) ∙ go (is_function_name f)
    where
      go : (a : Bool) → ((a && false) && d) ≡ false
      go true = refl
      go false = refl

  if_and_call : (f : Name) → is_call_name f ≡ true → (d : Bool) → (same_name (named "IF") f && d) ≡ false
  if_and_call f c d = and_false (same_name (named "IF") f) d (λ h. absurd (cc (not_if f c, ap (λ z. same_name z (named "IF")) (sym (same_name-eq (named "IF") f h)))))

  call_and_quote : (f : Name) → is_call_name f ≡ true → (d : Bool) → ((is_function_name f && same_name f (named "QUOTE")) && d) ≡ false
  call_and_quote f c d = ap (λ b. (is_function_name f && b) && d) (not_quote f c) ∙ go (is_function_name f)
    where
      go : (a : Bool) → ((a && false) && d) ≡ false
      go true = refl
      go false = refl

  equal_ends : (l r : Term) → Formed A l → Formed A r → object_ends_with_equality (formula_object F) (formula_object (Equal l r)) ≡ is_functional_equality F (Equal l r)
  equal_ends (Variable x) r j k = refl
  equal_ends (Constant c) (Variable y) j k = refl
  equal_ends (Constant c) (Constant d) j k = refl
  equal_ends (Constant c) (If d e f) j k = refl
  equal_ends (Constant c) (Call g us) j k = refl
  equal_ends (Constant c) (Lambda ys d us) j k = refl
  equal_ends (If a b c) (Variable y) j k = refl
  equal_ends (If a b c) (Constant d) j k = refl
  equal_ends (If a b c) (If d e f) j k =
      let i1 = term_readable A (If a b c) j in
      let i2 = term_readable A (If d e f) k in
      same_unless (three_terms a b c) (three_terms d e f) (Equal (If a b c) (If d e f)) (i1.0, (i1.1, (i1.2, tt))) (i2.0, (i2.1, (i2.2, tt))) (i1, i2)
  equal_ends (If a b c) (Call g us) j k = if_and_call g k.0 _
  equal_ends (If a b c) (Lambda ys d us) j k = refl
  equal_ends (Call f ts) (Variable y) j k = refl
  equal_ends (Call f ts) (Constant d) j k = call_and_quote f j.0 _
  equal_ends (Call f ts) (If a b c) j k = call_and_if f j.0 _
  equal_ends (Call f ts) (Call g us) j k = equal_calls f g ts us j k
  equal_ends (Call f ts) (Lambda ys d us) j k = refl
  equal_ends (Lambda xs b ts) r j k = refl

  formula_ends : (E : Formula) → IsFormula A E → object_ends_with_equality (formula_object F) (formula_object (last_disjunct E)) ≡ is_functional_equality F (last_disjunct E)
  formula_ends (Equal l r) j = let p = and_parts (is_term A l) (is_term A r) j in equal_ends l r (formed A l p.0) (formed A r p.1)
  formula_ends (Not E) j = refl
  formula_ends (Or E G) j = formula_ends G (and_parts (is_formula A E) (is_formula A G) j).1

pub object_is_functional_equality-exact : (A : ArityTable) (F : Formula) → IsFormula A F → object_is_functional_equality (formula_object F) ≡ is_functional_equality F (last_disjunct F)
object_is_functional_equality-exact A F i = ap (object_ends_with_equality (formula_object F)) (last_disjunct_object-is F) ∙ formula_ends A F (formula_readable A F i) F i
