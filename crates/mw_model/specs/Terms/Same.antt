-- Equality of terms and formulas, as tests.
use Rattle.std.specs.Prelude.{Bool, true, false, ◌&&◌, List, [], ◌∷◌}
use Rattle.mw_model.specs.Terms.Object.{Name, same_name, same_object}
use Rattle.mw_model.specs.Terms.Term.{Term, Terms, Variable, Constant, If, Call, Lambda, NoTerms, More, Formula, Equal, Not, Or}

abbrev pub same_names : List Name → List Name → Bool
same_names [] [] = true
same_names (x ∷ xs) (y ∷ ys) = same_name x y && same_names xs ys
same_names _ _ = false

abbrev mutual
  pub same_term : Term → Term → Bool
  same_term (Variable x) (Variable y) = same_name x y
  same_term (Constant x) (Constant y) = same_object x y
  same_term (If a b c) (If d e f) = same_term a d && (same_term b e && same_term c f)
  same_term (Call f ts) (Call g us) = same_name f g && same_terms ts us
  same_term (Lambda xs b ts) (Lambda ys c us) = same_names xs ys && (same_term b c && same_terms ts us)
  same_term _ _ = false

  pub same_terms : Terms → Terms → Bool
  same_terms NoTerms NoTerms = true
  same_terms (More t ts) (More u us) = same_term t u && same_terms ts us
  same_terms _ _ = false

abbrev pub same_formula : Formula → Formula → Bool
same_formula (Equal a b) (Equal c d) = same_term a c && same_term b d
same_formula (Not F) (Not G) = same_formula F G
same_formula (Or F G) (Or H K) = same_formula F H && same_formula G K
same_formula _ _ = false

abbrev pub same_formulas : List Formula → List Formula → Bool
same_formulas [] [] = true
same_formulas (F ∷ Fs) (G ∷ Gs) = same_formula F G && same_formulas Fs Gs
same_formulas _ _ = false
