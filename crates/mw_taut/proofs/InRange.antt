-- Proofs that hold no natural past the range where X holds are closed under the steps of the rules, since their formulas hold none either.
use Rattle.std.proofs.Common.{◌≡◌, false, List, ap₂, refl}
use Rattle.std.specs.Prelude.{◌||◌}
use Rattle.std.proofs.lemmas.Bool.{and_from}
use Rattle.mw_model.specs.Terms.Object.{Name, Object, Pair, Symbol, NIL, named, nil_name, list1, list2, list3}
use Rattle.mw_model.specs.Terms.Term.{Formula, formula_object, ArityTable, is_formula}
use Rattle.mw_model.specs.Proofs.Proof.{method_name}
use Rattle.mw_model.specs.Events.Fate.{is_out_of_range}
use Rattle.mw_taut.proofs.Proved.{Good, IsFormed, good_closed}
use Rattle.mw_taut.proofs.Schemes.{AreClosed, ProvesAll, none, more}

-- the object holds no such natural
pub record Fits (x : Object) : Type 0 where
  pub in_range : is_out_of_range x ≡ false

pair-fits : (a b : Object) → Fits a → Fits b → Fits (Pair a b)
pair-fits a b h k = record { in_range = ap₂ (λ u v. u || v) h.in_range k.in_range }

symbol-fits : (s : Name) → Fits (Symbol s)
symbol-fits s = record { in_range = refl }

list2-fits : (s : Name) (a : Object) → Fits a → Fits (list2 (Symbol s) a)
list2-fits s a h = pair-fits (Symbol s) (list1 a) (symbol-fits s) (pair-fits a NIL h (symbol-fits nil_name))

list3-fits : (s : Name) (a b : Object) → Fits a → Fits b → Fits (list3 (Symbol s) a b)
list3-fits s a b h k = pair-fits (Symbol s) (list2 a b) (symbol-fits s) (pair-fits a (list1 b) h (pair-fits b NIL k (symbol-fits nil_name)))

module _ (A : ArityTable) (X : Type 0) where
  abbrev pub GoodAndFits : Object → Formula → Type 0
  GoodAndFits p F = Good A p F × (X → Fits p)

  abbrev pub FormedAndFits : Formula → Type 0
  FormedAndFits F = IsFormed A F × (X → Fits (formula_object F))

  all_good : (ps : Object) (Fs : List Formula) → ProvesAll GoodAndFits ps Fs → ProvesAll (Good A) ps Fs
  all_good ps Fs none = none
  all_good ps Fs (more p qs F Gs h each) = more p qs F Gs h.0 (all_good qs Gs each)

  all_fit : (ps : Object) (Fs : List Formula) → ProvesAll GoodAndFits ps Fs → X → Fits ps
  all_fit ps Fs none x = symbol-fits nil_name
  all_fit ps Fs (more p qs F Gs h each) x = pair-fits p qs (h.1 x) (all_fit qs Gs each x)

  pub fitting_closed : AreClosed A GoodAndFits FormedAndFits
  fitting_closed = record {
    denial = λ F f. (f.0, λ x. list2-fits (named "PNOT*") (formula_object F) (f.1 x));
    disjunction = λ F G f g. (and_from (is_formula A F) (is_formula A G) f.0 g.0, λ x. list3-fits (named "POR*") (formula_object F) (formula_object G) (f.1 x) (g.1 x));
    schema = λ F f. ((good_closed A).schema F f.0, λ x. list2-fits (named "PROPOSITIONAL-SCHEMA") _ (f.1 x));
    step = λ m F Fs ps f each row. ((good_closed A).step m F Fs ps f.0 (all_good ps Fs each) row, λ x. list3-fits (method_name m) (formula_object F) ps (f.1 x) (all_fit ps Fs each x));
  }
