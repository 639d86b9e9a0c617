-- From objects back to terms and formulas.
use Rattle.std.specs.Prelude.{Bool, true, false, ◌&&◌, cond, List, [], ◌∷◌, Option, Some, None, option_map}
use Rattle.mw_model.specs.Terms.Object.{Name, Object, Symbol, Pair, named, symbol, same_name, same_object, nil_name, NIL}
use Rattle.mw_model.specs.Terms.Term.{Term, Terms, Variable, Constant, If, Call, Lambda, NoTerms, More, Formula, Equal, Not, Or, ArityTable, is_formula}

-- f of two things, where there are both
abbrev pub map2 : {X Y Z : Type 0} → (X → Y → Z) → Option X → Option Y → Option Z
map2 f (Some x) (Some y) = Some (f x y)
map2 f _ _ = None

abbrev pub and_more : {X : Type 0} → Option X → Option (List X) → Option (List X)
and_more x xs = map2 (λ x xs. x ∷ xs) x xs

-- x for NIL alone
abbrev pub if_nil : {X : Type 0} → Name → X → Option X
if_nil s x = cond (same_name s nil_name) (Some x) None

-- a proper list of symbols
abbrev pub names_of : Object → Option (List Name)
names_of (Symbol s) = if_nil s []
names_of (Pair (Symbol x) r) = and_more (Some x) (names_of r)
names_of _ = None

-- what follows QUOTE, IF or another name
abbrev pub constant_of : Object → Option Term
constant_of (Pair c (Symbol s)) = if_nil s (Constant c)
constant_of _ = None

abbrev pub if_of : Option Terms → Option Term
if_of (Some (More a (More b (More c NoTerms)))) = Some (If a b c)
if_of _ = None

abbrev pub call_of : Name → Object → Option Terms → Option Term
call_of f r ts = cond (same_name f (named "QUOTE")) (constant_of r) (cond (same_name f (named "IF")) (if_of ts) (option_map (Call f) ts))

-- a lambda call, where its head begins with LAMBDA and ends after the body
abbrev pub lambda_of : Bool → Option (List Name) → Option Term → Option Terms → Option Term
lambda_of true (Some xs) (Some b) (Some ts) = Some (Lambda xs b ts)
lambda_of _ _ _ _ = None

-- the term that an object stands for
abbrev mutual
  pub term_of : Object → Option Term
  term_of (Symbol x) = Some (Variable x)
  term_of (Pair (Symbol f) r) = call_of f r (terms_of r)
  term_of (Pair (Pair l (Pair xs (Pair b z))) r) = lambda_of (same_object l (symbol "LAMBDA") && same_object z NIL) (names_of xs) (term_of b) (terms_of r)
  term_of _ = None

  pub terms_of : Object → Option Terms
  terms_of (Symbol s) = if_nil s NoTerms
  terms_of (Pair a r) = map2 More (term_of a) (terms_of r)
  terms_of _ = None

abbrev pub when : {X : Type 0} → Bool → Option X → Option X
when true x = x
when false x = None

-- the formula that an object stands for
abbrev pub formula_of : Object → Option Formula
formula_of (Pair h (Pair a (Pair b z))) =
    when (same_object z NIL)
    (cond (same_object h (symbol "PEQUAL*")) (map2 Equal (term_of a) (term_of b))
    (when (same_object h (symbol "POR*")) (map2 Or (formula_of a) (formula_of b))))
formula_of (Pair h (Pair a (Symbol s))) = when (same_name s nil_name && same_object h (symbol "PNOT*")) (option_map Not (formula_of a))
formula_of _ = None

abbrev pub that : {X : Type 0} → (X → Bool) → Option X → Option X
that test None = None
that test (Some x) = when (test x) (Some x)

-- a formula under an arity table
abbrev pub formula_under : ArityTable → Object → Option Formula
formula_under A x = that (is_formula A) (formula_of x)
