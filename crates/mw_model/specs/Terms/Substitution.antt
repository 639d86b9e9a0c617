-- Simultaneous substitution of terms for variables.
use Rattle.std.specs.Prelude.{Bool, true, ◌&&◌, cond, List, [], ◌∷◌, Option, None, option_map}
use Rattle.mw_model.specs.Terms.Object.{Name, Object, Symbol, Pair, same_name, NIL}
use Rattle.mw_model.specs.Terms.Term.{Term, Terms, Variable, Constant, If, Call, Lambda, NoTerms, More, Formula, Equal, Not, Or, ArityTable, is_term, is_variable, term_object}
use Rattle.mw_model.specs.Terms.Reading.{term_of, and_more, if_nil}

-- of several pairs for a variable the first counts
abbrev pub Substitution : Type 0
Substitution = List (Name × Term)

-- what stands for a variable
abbrev pub image : Substitution → Name → Term
image [] x = Variable x
image (p ∷ s) x = cond (same_name p.0 x) p.1 (image s x)

-- a lambda call keeps its formals and its body
abbrev mutual
  pub substitute : Substitution → Term → Term
  substitute s (Variable x) = image s x
  substitute s (Constant c) = Constant c
  substitute s (If a b c) = If (substitute s a) (substitute s b) (substitute s c)
  substitute s (Call f ts) = Call f (substitute_each s ts)
  substitute s (Lambda xs b ts) = Lambda xs b (substitute_each s ts)

  pub substitute_each : Substitution → Terms → Terms
  substitute_each s NoTerms = NoTerms
  substitute_each s (More t ts) = More (substitute s t) (substitute_each s ts)

abbrev pub substitute_formula : Substitution → Formula → Formula
substitute_formula s (Equal a b) = Equal (substitute s a) (substitute s b)
substitute_formula s (Not f) = Not (substitute_formula s f)
substitute_formula s (Or f g) = Or (substitute_formula s f) (substitute_formula s g)

-- the actuals for the formals
abbrev pub actuals_for : List Name → Terms → Substitution
actuals_for (x ∷ xs) (More t ts) = (x, t) ∷ actuals_for xs ts
actuals_for _ _ = []

-- as an object: a proper list of pairs (variable . term)
abbrev pub substitution_object : Substitution → Object
substitution_object [] = NIL
substitution_object (p ∷ s) = Pair (Pair (Symbol p.0) (term_object p.1)) (substitution_object s)

abbrev pub substitution_of : Object → Option Substitution
substitution_of (Pair (Pair (Symbol x) t) r) = and_more (option_map (λ t. (x, t)) (term_of t)) (substitution_of r)
substitution_of (Symbol s) = if_nil s []
substitution_of _ = None

abbrev pub is_substitution : ArityTable → Substitution → Bool
is_substitution A [] = true
is_substitution A (p ∷ s) = is_variable p.0 && (is_term A p.1 && is_substitution A s)
