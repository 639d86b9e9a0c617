-- Terms and formulas, and the objects that stand for them.
use Rattle.std.specs.Prelude.{◌≡◌, ℕ, suc, Bool, true, false, ◌&&◌, not, cond, eqb, List, [], ◌∷◌, ◌++◌, length, filter, Option, Some, None, ◌||◌}
use Rattle.mw_model.specs.Terms.Object.{Name, Object, Natural, Symbol, Pair, named, symbol, same_name, nil_name, NIL, list2, list3}

mutual
  pub data Term : Type 0 where
    Variable : Name → Term
    Constant : Object → Term
    If : Term → Term → Term → Term
    Call : Name → Terms → Term
    -- formals, body, actuals
    Lambda : List Name → Term → Terms → Term

  pub data Terms : Type 0 where
    NoTerms : Terms
    More : Term → Terms → Terms

pub data Formula : Type 0 where
  Equal : Term → Term → Formula
  Not : Formula → Formula
  Or : Formula → Formula → Formula

-- x, (quote c), (if a b c), (f t1 .. tn), ((lambda (x1 .. xn) b) t1 .. tn)
abbrev pub names_object : List Name → Object
names_object [] = NIL
names_object (x ∷ xs) = Pair (Symbol x) (names_object xs)

abbrev mutual
  pub term_object : Term → Object
  term_object (Variable x) = Symbol x
  term_object (Constant c) = list2 (symbol "QUOTE") c
  term_object (If a b c) = Pair (symbol "IF") (list3 (term_object a) (term_object b) (term_object c))
  term_object (Call f ts) = Pair (Symbol f) (terms_object ts)
  term_object (Lambda xs b ts) = Pair (list3 (symbol "LAMBDA") (names_object xs) (term_object b)) (terms_object ts)

  pub terms_object : Terms → Object
  terms_object NoTerms = NIL
  terms_object (More t ts) = Pair (term_object t) (terms_object ts)

-- (pequal* a b), (pnot* f), (por* f g)
abbrev pub formula_object : Formula → Object
formula_object (Equal a b) = list3 (symbol "PEQUAL*") (term_object a) (term_object b)
formula_object (Not f) = list2 (symbol "PNOT*") (formula_object f)
formula_object (Or f g) = list3 (symbol "POR*") (formula_object f) (formula_object g)

abbrev pub count : Terms → ℕ
count NoTerms = 0
count (More t ts) = suc (count ts)

abbrev pub is_among : Name → List Name → Bool
is_among x [] = false
is_among x (y ∷ ys) = same_name x y || is_among x ys

-- Function names are all symbols but these and the abbreviation words.
abbrev pub abbreviation_words : List Name
abbreviation_words =
    named "AND" ∷ named "OR" ∷ named "COND" ∷ named "LIST" ∷ named "LET" ∷ named "LET*" ∷
    named "FIRST" ∷ named "SECOND" ∷ named "THIRD" ∷ named "FOURTH" ∷ named "FIFTH" ∷ []

abbrev pub other_words : List Name
other_words = nil_name ∷ named "T" ∷ named "QUOTE" ∷ named "LAMBDA" ∷ named "PEQUAL*" ∷ named "PNOT*" ∷ named "POR*" ∷ []

abbrev pub is_function_name : Name → Bool
is_function_name f = not (is_among f other_words) && not (is_among f abbreviation_words)

-- a symbol other than T and NIL
abbrev pub is_variable : Name → Bool
is_variable x = not (same_name x (named "T")) && not (same_name x nil_name)

abbrev pub are_variables : List Name → Bool
are_variables [] = true
are_variables (x ∷ xs) = is_variable x && are_variables xs

abbrev pub are_distinct : List Name → Bool
are_distinct [] = true
are_distinct (x ∷ xs) = not (is_among x xs) && are_distinct xs

-- formals are distinct variables
abbrev pub are_formals : List Name → Bool
are_formals xs = are_variables xs && are_distinct xs

-- the free variables from left to right, as often as they occur; those of a lambda call are those of its actuals
abbrev mutual
  pub occurrences : Term → List Name
  occurrences (Variable x) = x ∷ []
  occurrences (Constant c) = []
  occurrences (If a b c) = occurrences a ++ (occurrences b ++ occurrences c)
  occurrences (Call f ts) = all_occurrences ts
  occurrences (Lambda xs b ts) = all_occurrences ts

  pub all_occurrences : Terms → List Name
  all_occurrences NoTerms = []
  all_occurrences (More t ts) = occurrences t ++ all_occurrences ts

-- of equal elements the first is kept
abbrev pub firsts : {X : Type 0} → (X → X → Bool) → List X → List X
firsts same [] = []
firsts same (x ∷ xs) = x ∷ filter (λ y. not (same x y)) (firsts same xs)

-- the free variables, in order of first occurrence
abbrev pub variables : Term → List Name
variables t = firsts same_name (occurrences t)

-- each free variable is among these
abbrev mutual
  pub is_closed : List Name → Term → Bool
  is_closed xs (Variable x) = is_among x xs
  is_closed xs (Constant c) = true
  is_closed xs (If a b c) = is_closed xs a && (is_closed xs b && is_closed xs c)
  is_closed xs (Call f ts) = are_closed xs ts
  is_closed xs (Lambda ys b ts) = are_closed xs ts

  pub are_closed : List Name → Terms → Bool
  are_closed xs NoTerms = true
  are_closed xs (More t ts) = is_closed xs t && are_closed xs ts

-- An arity table, newest first. The first pair for a name counts.
abbrev pub ArityTable : Type 0
ArityTable = List (Name × ℕ)

abbrev pub arity_of : ArityTable → Name → Option ℕ
arity_of [] f = None
arity_of (p ∷ A) f = cond (same_name p.0 f) (Some p.1) (arity_of A f)

abbrev pub has_arity : Option ℕ → ℕ → Bool
has_arity None n = false
has_arity (Some m) n = eqb m n

abbrev pub table_object : ArityTable → Object
table_object [] = NIL
table_object (p ∷ A) = Pair (Pair (Symbol p.0) (Natural p.1)) (table_object A)

-- QUOTE makes constants, and IF has a form of its own
abbrev pub is_call_name : Name → Bool
is_call_name f = not (same_name f (named "QUOTE")) && not (same_name f (named "IF"))

-- Terms under an arity table. In a lambda call the formals are distinct, one for each actual, and the body has no other variables.
abbrev mutual
  pub is_term : ArityTable → Term → Bool
  is_term A (Variable x) = is_variable x
  is_term A (Constant c) = true
  is_term A (If a b c) = has_arity (arity_of A (named "IF")) 3 && (is_term A a && (is_term A b && is_term A c))
  is_term A (Call f ts) = is_call_name f && (has_arity (arity_of A f) (count ts) && are_terms A ts)
  is_term A (Lambda xs b ts) = are_formals xs && (is_closed xs b && (eqb (length xs) (count ts) && (is_term A b && are_terms A ts)))

  pub are_terms : ArityTable → Terms → Bool
  are_terms A NoTerms = true
  are_terms A (More t ts) = is_term A t && are_terms A ts

-- formulas under an arity table
abbrev pub is_formula : ArityTable → Formula → Bool
is_formula A (Equal a b) = is_term A a && is_term A b
is_formula A (Not f) = is_formula A f
is_formula A (Or f g) = is_formula A f && is_formula A g

abbrev pub IsTerm : ArityTable → Term → Type 0
IsTerm A t = is_term A t ≡ true

abbrev pub IsFormula : ArityTable → Formula → Type 0
IsFormula A f = is_formula A f ≡ true
