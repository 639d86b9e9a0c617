-- Substitution on objects is substitution.
use Rattle.std.proofs.Common.{◌≡◌, Bool, true, false, cond, List, [], ◌∷◌, refl, ap, ap₂}
use Rattle.mw_model.specs.Terms.Object.{Name, Symbol, Pair, symbol, same_name, NIL, list2, list3}
use Rattle.mw_model.specs.Terms.Term.{Term, Terms, Variable, Constant, If, Call, Lambda, NoTerms, More, Formula, Equal, Not, Or, term_object, terms_object, formula_object, names_object}
use Rattle.mw_model.specs.Terms.Substitution.{Substitution, substitute, substitute_each, substitute_formula, image, actuals_for, substitution_object}
use Rattle.mw_model.specs.Laws.Rules.{image_object, substitute_object, substitute_each_object, substitute_formula_object, actuals_object}
use Rattle.mw_model.proofs.Readable.{Readable, AreReadable, ReadableFormula, not_quote}

pub image_object-is : (s : Substitution) (x : Name) → image_object (substitution_object s) (Symbol x) ≡ term_object (image s x)
image_object-is [] x = refl
image_object-is (p ∷ s) x = go (same_name p.0 x) (image_object-is s x)
  where
    go : (b : Bool) → image_object (substitution_object s) (Symbol x) ≡ term_object (image s x) → cond b (term_object p.1) (image_object (substitution_object s) (Symbol x)) ≡ term_object (cond b p.1 (image s x))
    go true e = refl
    go false e = e

module _ (s : Substitution) where
  mutual
    pub substitute_object-is : (t : Term) → Readable t → substitute_object (substitution_object s) (term_object t) ≡ term_object (substitute s t)
    substitute_object-is (Variable x) i = image_object-is s x
    substitute_object-is (Constant c) i = refl
    substitute_object-is (If a b c) i = ap (Pair (symbol "IF")) (ap₂ Pair (substitute_object-is a i.0) (ap₂ Pair (substitute_object-is b i.1) (ap (λ o. Pair o NIL) (substitute_object-is c i.2))))
    substitute_object-is (Call f ts) i = rw (not_quote f i.0) (ap (Pair (Symbol f)) (substitute_each_object-is ts i.1))
    substitute_object-is (Lambda xs b ts) i = ap (Pair (list3 (symbol "LAMBDA") (names_object xs) (term_object b))) (substitute_each_object-is ts i.1)

    pub substitute_each_object-is : (ts : Terms) → AreReadable ts → substitute_each_object (substitution_object s) (terms_object ts) ≡ terms_object (substitute_each s ts)
    substitute_each_object-is NoTerms i = refl
    substitute_each_object-is (More t ts) i = ap₂ Pair (substitute_object-is t i.0) (substitute_each_object-is ts i.1)

  pub substitute_formula_object-is : (F : Formula) → ReadableFormula F → substitute_formula_object (substitution_object s) (formula_object F) ≡ formula_object (substitute_formula s F)
  substitute_formula_object-is (Equal a b) i = ap₂ (list3 (symbol "PEQUAL*")) (substitute_object-is a i.0) (substitute_object-is b i.1)
  substitute_formula_object-is (Not F) i = ap (list2 (symbol "PNOT*")) (substitute_formula_object-is F i)
  substitute_formula_object-is (Or F G) i = ap₂ (list3 (symbol "POR*")) (substitute_formula_object-is F i.0) (substitute_formula_object-is G i.1)

pub actuals_object-is : (xs : List Name) (ts : Terms) → actuals_object (names_object xs) (terms_object ts) ≡ substitution_object (actuals_for xs ts)
actuals_object-is [] ts = refl
actuals_object-is (x ∷ xs) NoTerms = refl
actuals_object-is (x ∷ xs) (More t ts) = ap (Pair (Pair (Symbol x) (term_object t))) (actuals_object-is xs ts)
