-- Reading back asks only that calls have names that a call may have.
use Rattle.std.proofs.Common.{◌≡◌, Bool, true, false, ◌&&◌, cond, not, List, [], ◌∷◌, Some, refl, ap, ap₂, ◌∙◌, option_map}
use Rattle.std.proofs.lemmas.Bool.{and_parts, not-true}
use Rattle.std.specs.Cmp.{both_ways as same_test}
use Rattle.mw_model.specs.Terms.Object.{Name, named, same_name, same_object}
use Rattle.mw_model.specs.Terms.Term.{Term, Terms, Variable, Constant, If, Call, Lambda, NoTerms, More, Formula, Equal, Not, Or, term_object, terms_object, formula_object, names_object, is_call_name, ArityTable, is_term, is_formula, IsFormula}
use Rattle.mw_model.specs.Terms.Reading.{names_of, and_more, if_of, lambda_of, term_of, terms_of, formula_of, map2}
use Rattle.mw_model.specs.Terms.Same.{same_term, same_formula}
use Rattle.mw_model.specs.Terms.Substitution.{Substitution, substitute, substitute_each, substitute_formula, image, actuals_for, is_substitution}
use Rattle.mw_model.proofs.Names.{same_object-eq, same_object-from}
use Rattle.mw_model.proofs.SameTerms.{same_term-eq, same_term-refl, same_formula-eq, same_formula-refl}
use Rattle.mw_model.proofs.Formed.{Formed, AreFormed, formed}

abbrev mutual
  pub Readable : Term → Type 0
  Readable (Variable x) = Unit {0}
  Readable (Constant c) = Unit {0}
  Readable (If a b c) = Readable a × Readable b × Readable c
  Readable (Call f ts) = (is_call_name f ≡ true) × AreReadable ts
  Readable (Lambda xs b ts) = Readable b × AreReadable ts

  pub AreReadable : Terms → Type 0
  AreReadable NoTerms = Unit {0}
  AreReadable (More t ts) = Readable t × AreReadable ts

abbrev pub ReadableFormula : Formula → Type 0
ReadableFormula (Equal a b) = Readable a × Readable b
ReadableFormula (Not F) = ReadableFormula F
ReadableFormula (Or F G) = ReadableFormula F × ReadableFormula G

module _ (A : ArityTable) where
  mutual
    pub term_readable : (t : Term) → Formed A t → Readable t
    term_readable (Variable x) i = tt
    term_readable (Constant c) i = tt
    term_readable (If a b c) i = (term_readable a i.1, term_readable b i.2, term_readable c i.3)
    term_readable (Call f ts) i = (i.0, terms_readable ts i.2)
    term_readable (Lambda xs b ts) i = (term_readable b i.4, terms_readable ts i.5)

    pub terms_readable : (ts : Terms) → AreFormed A ts → AreReadable ts
    terms_readable NoTerms i = tt
    terms_readable (More t ts) i = (term_readable t i.0, terms_readable ts i.1)

  pub formula_readable : (F : Formula) → IsFormula A F → ReadableFormula F
  formula_readable (Equal a b) i = let p = and_parts (is_term A a) (is_term A b) i in (term_readable a (formed A a p.0), term_readable b (formed A b p.1))
  formula_readable (Not F) i = formula_readable F i
  formula_readable (Or F G) i = let p = and_parts (is_formula A F) (is_formula A G) i in (formula_readable F p.0, formula_readable G p.1)

pub names_read : (xs : List Name) → names_of (names_object xs) ≡ Some xs
names_read [] = refl
names_read (x ∷ xs) = ap (and_more (Some x)) (names_read xs)

pub not_quote : (f : Name) → is_call_name f ≡ true → same_name f (named "QUOTE") ≡ false
not_quote f c = not-true (same_name f (named "QUOTE")) (and_parts (not (same_name f (named "QUOTE"))) (not (same_name f (named "IF"))) c).0

pub not_if : (f : Name) → is_call_name f ≡ true → same_name f (named "IF") ≡ false
not_if f c = not-true (same_name f (named "IF")) (and_parts (not (same_name f (named "QUOTE"))) (not (same_name f (named "IF"))) c).1

mutual
  pub readable_term : (t : Term) → Readable t → term_of (term_object t) ≡ Some t
  readable_term (Variable x) i = refl
  readable_term (Constant c) i = refl
  readable_term (If a b c) i = ap if_of (ap₂ (map2 More) (readable_term a i.0) (ap₂ (map2 More) (readable_term b i.1) (ap (λ o. map2 More o (Some NoTerms)) (readable_term c i.2))))
  readable_term (Call f ts) i = rw (not_quote f i.0, not_if f i.0) (ap (option_map (Call f)) (readable_terms ts i.1))
  readable_term (Lambda xs b ts) i = ap (λ o. lambda_of true o (term_of (term_object b)) (terms_of (terms_object ts))) (names_read xs) ∙ ap₂ (lambda_of true (Some xs)) (readable_term b i.0) (readable_terms ts i.1)

  pub readable_terms : (ts : Terms) → AreReadable ts → terms_of (terms_object ts) ≡ Some ts
  readable_terms NoTerms i = refl
  readable_terms (More t ts) i = ap₂ (map2 More) (readable_term t i.0) (readable_terms ts i.1)

pub readable_formula : (F : Formula) → ReadableFormula F → formula_of (formula_object F) ≡ Some F
readable_formula (Equal a b) i = ap₂ (map2 Equal) (readable_term a i.0) (readable_term b i.1)
readable_formula (Not F) i = ap (option_map Not) (readable_formula F i)
readable_formula (Or F G) i = ap₂ (map2 Or) (readable_formula F i.0) (readable_formula G i.1)

-- objects are read in one way
pub term_object-one : (t u : Term) → Readable t → Readable u → term_object t ≡ term_object u → t ≡ u
term_object-one t u i j e = cc (readable_term t i, readable_term u j, ap term_of e)

pub formula_object-one : (F G : Formula) → ReadableFormula F → ReadableFormula G → formula_object F ≡ formula_object G → F ≡ G
formula_object-one F G i j e = cc (readable_formula F i, readable_formula G j, ap formula_of e)

-- so equality of objects is that of what they stand for
pub same_object-terms : (t u : Term) → Readable t → Readable u → same_object (term_object t) (term_object u) ≡ same_term t u
same_object-terms t u i j =
    same_test (same_object (term_object t) (term_object u)) (same_term t u)
    (λ h. let e = term_object-one t u i j (same_object-eq (term_object t) (term_object u) h) in ap (λ v. same_term v u) e ∙ same_term-refl u)
    (λ h. same_object-from (term_object t) (term_object u) (ap term_object (same_term-eq t u h)))

pub same_object-formulas : (F G : Formula) → ReadableFormula F → ReadableFormula G → same_object (formula_object F) (formula_object G) ≡ same_formula F G
same_object-formulas F G i j =
    same_test (same_object (formula_object F) (formula_object G)) (same_formula F G)
    (λ h. let e = formula_object-one F G i j (same_object-eq (formula_object F) (formula_object G) h) in ap (λ H. same_formula H G) e ∙ same_formula-refl G)
    (λ h. same_object-from (formula_object F) (formula_object G) (ap formula_object (same_formula-eq F G h)))

-- substitution
abbrev pub ReadableSubstitution : Substitution → Type 0
ReadableSubstitution s = (x : Name) → Readable (image s x)

mutual
  pub substitute-readable : (s : Substitution) → ReadableSubstitution s → (t : Term) → Readable t → Readable (substitute s t)
  substitute-readable s h (Variable x) i = h x
  substitute-readable s h (Constant c) i = tt
  substitute-readable s h (If a b c) i = (substitute-readable s h a i.0, substitute-readable s h b i.1, substitute-readable s h c i.2)
  substitute-readable s h (Call f ts) i = (i.0, substitute_each-readable s h ts i.1)
  substitute-readable s h (Lambda xs b ts) i = (i.0, substitute_each-readable s h ts i.1)

  pub substitute_each-readable : (s : Substitution) → ReadableSubstitution s → (ts : Terms) → AreReadable ts → AreReadable (substitute_each s ts)
  substitute_each-readable s h NoTerms i = tt
  substitute_each-readable s h (More t ts) i = (substitute-readable s h t i.0, substitute_each-readable s h ts i.1)

pub substitute_formula-readable : (s : Substitution) → ReadableSubstitution s → (F : Formula) → ReadableFormula F → ReadableFormula (substitute_formula s F)
substitute_formula-readable s h (Equal a b) i = (substitute-readable s h a i.0, substitute-readable s h b i.1)
substitute_formula-readable s h (Not F) i = substitute_formula-readable s h F i
substitute_formula-readable s h (Or F G) i = (substitute_formula-readable s h F i.0, substitute_formula-readable s h G i.1)

pub image-readable : (p : Name × Term) (s : Substitution) (x : Name) → Readable p.1 → Readable (image s x) → Readable (image (p ∷ s) x)
image-readable p s x i j = go (same_name p.0 x)
  where
    go : (b : Bool) → Readable (cond b p.1 (image s x))
    go true = i
    go false = j

pub substitution_readable : (A : ArityTable) (s : Substitution) → is_substitution A s ≡ true → ReadableSubstitution s
substitution_readable A [] h x = tt
substitution_readable A (p ∷ s) h x =
    let q = and_parts (is_term A p.1) (is_substitution A s) (and_parts _ (is_term A p.1 && is_substitution A s) h).1 in
    image-readable p s x (term_readable A p.1 (formed A p.1 q.0)) (substitution_readable A s q.1 x)

pub actuals_for-readable : (xs : List Name) (ts : Terms) → AreReadable ts → ReadableSubstitution (actuals_for xs ts)
actuals_for-readable [] ts i x = tt
actuals_for-readable (y ∷ ys) NoTerms i x = tt
actuals_for-readable (y ∷ ys) (More t ts) i x = image-readable (y, t) (actuals_for ys ts) x i.0 (actuals_for-readable ys ts i.1 x)
