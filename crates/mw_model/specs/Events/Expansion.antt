-- Expansion of raw terms: abbreviations, plain numbers, T and NIL.
use Rattle.std.specs.Prelude.{◌&&◌, cond, List, [], ◌∷◌, ◌++◌, Option, Some, None, option_map, option_and_then, map}
use Rattle.mw_model.specs.Terms.Object.{Name, Object, Natural, Symbol, Pair, named, symbol, same_name, same_object, nil_name, NIL, T}
use Rattle.mw_model.specs.Terms.Term.{Term, Terms, Variable, Constant, If, Call, Lambda, NoTerms, More, ArityTable, variables, is_among, is_term}
use Rattle.mw_model.specs.Terms.Reading.{names_of, and_more, lambda_of, if_nil, when, that, map2}
use Rattle.std.specs.Option.{option_zip}

-- what a form begins with
pub data Abbreviation : Type 0 where
  AND OR COND LIST LET LETSTAR FIRST SECOND THIRD FOURTH FIFTH QUOTE Other : Abbreviation

abbrev pub abbreviations : List (Name × Abbreviation)
abbreviations =
    (named "AND", AND) ∷ (named "OR", OR) ∷ (named "COND", COND) ∷ (named "LIST", LIST) ∷ (named "LET", LET) ∷
    (named "LET*", LETSTAR) ∷ (named "FIRST", FIRST) ∷ (named "SECOND", SECOND) ∷ (named "THIRD", THIRD) ∷
    (named "FOURTH", FOURTH) ∷ (named "FIFTH", FIFTH) ∷ (named "QUOTE", QUOTE) ∷ []

abbrev pub abbreviation_among : List (Name × Abbreviation) → Name → Abbreviation
abbreviation_among [] f = Other
abbreviation_among (p ∷ ps) f = cond (same_name p.0 f) p.1 (abbreviation_among ps f)

abbrev pub abbreviation_of : Name → Abbreviation
abbreviation_of f = abbreviation_among abbreviations f

-- T and NIL are constants, another symbol a variable
abbrev pub expand_symbol : Name → Term
expand_symbol s = cond (same_name s (named "T")) (Constant T) (cond (same_name s nil_name) (Constant NIL) (Variable s))

-- (and) is 't, (and a) is a, (and a b ..) is (if a (and b ..) 'nil)
abbrev pub and_term : Terms → Term
and_term NoTerms = Constant T
and_term (More a NoTerms) = a
and_term (More a (More b ts)) = If a (and_term (More b ts)) (Constant NIL)

-- (or) is 'nil, (or a) is a, (or a b ..) is (if a a (or b ..))
abbrev pub or_term : Terms → Term
or_term NoTerms = Constant NIL
or_term (More a NoTerms) = a
or_term (More a (More b ts)) = If a a (or_term (More b ts))

-- (list) is 'nil, (list a ..) is (cons a (list ..))
abbrev pub list_term : Terms → Term
list_term NoTerms = Constant NIL
list_term (More a ts) = Call (named "CONS") (More a (More (list_term ts) NoTerms))

abbrev pub car_term : Term → Term
car_term a = Call (named "CAR") (More a NoTerms)

abbrev pub cdr_term : Term → Term
cdr_term a = Call (named "CDR") (More a NoTerms)

abbrev pub of_single : (Term → Term) → Terms → Option Term
of_single make (More a NoTerms) = Some (make a)
of_single make _ = None

abbrev pub call_term : Name → Terms → Term
call_term f (More a (More b (More c NoTerms))) = cond (same_name f (named "IF")) (If a b c) (Call f (More a (More b (More c NoTerms))))
call_term f ts = Call f ts

-- the forms whose members are all raw terms
abbrev pub form : Abbreviation → Name → Terms → Option Term
form AND f ts = Some (and_term ts)
form OR f ts = Some (or_term ts)
form LIST f ts = Some (list_term ts)
form FIRST f ts = of_single car_term ts
form SECOND f ts = of_single (λ a. car_term (cdr_term a)) ts
form THIRD f ts = of_single (λ a. car_term (cdr_term (cdr_term a))) ts
form FOURTH f ts = of_single (λ a. car_term (cdr_term (cdr_term (cdr_term a)))) ts
form FIFTH f ts = of_single (λ a. car_term (cdr_term (cdr_term (cdr_term (cdr_term a))))) ts
form Other f ts = Some (call_term f ts)
form _ f ts = None

-- (cond) is 'nil, (cond (c e) ..) is (if c e (cond ..))
abbrev pub cond_term : Option (Term × Term) → Option Term → Option Term
cond_term p t = map2 (λ p t. If p.0 p.1 t) p t

-- (let ((x1 e1) ..) b) is a lambda call whose formals are the x's and the other free variables of b, for themselves
abbrev pub without : List Name → List Name → List Name
without [] xs = []
without (y ∷ ys) xs = cond (is_among y xs) (without ys xs) (y ∷ without ys xs)

abbrev pub bound_names : List (Name × Term) → List Name
bound_names ps = map (λ p. p.0) ps

abbrev pub let_actuals : List (Name × Term) → List Name → Terms
let_actuals [] [] = NoTerms
let_actuals [] (y ∷ ys) = More (Variable y) (let_actuals [] ys)
let_actuals (p ∷ ps) ys = More p.1 (let_actuals ps ys)

abbrev pub let_term : List (Name × Term) → Term → Term
let_term ps b =
    let ys = without (variables b) (bound_names ps) in
    Lambda (bound_names ps ++ ys) b (let_actuals ps ys)

-- Expansion, whether or not the result is a term under an arity table.
abbrev mutual
  pub expanded : Object → Option Term
  expanded (Natural n) = Some (Constant (Natural n))
  expanded (Symbol s) = Some (expand_symbol s)
  expanded (Pair (Symbol f) (Symbol s)) =
      when (same_name s nil_name) (elim (abbreviation_of f) [ COND ↦ Some (Constant NIL) | _ ↦ form (abbreviation_of f) f NoTerms ])
  expanded (Pair (Symbol f) (Pair a (Symbol s))) =
      when (same_name s nil_name) (elim (abbreviation_of f) [
        | QUOTE ↦ Some (Constant a)
        | COND ↦ cond_term (clause a) (Some (Constant NIL))
        | _ ↦ option_and_then (form (abbreviation_of f) f) (map2 More (expanded a) (Some NoTerms))
      ])
  expanded (Pair (Symbol f) (Pair a (Pair b z))) =
      elim (abbreviation_of f) [
        | COND ↦ cond_term (clause a) (cond_term (clause b) (clauses z))
        | LET ↦ when (same_object z NIL) (map2 let_term (bindings a) (expanded b))
        | LETSTAR ↦ when (same_object z NIL) (let_star a (expanded b))
        | _ ↦ option_and_then (form (abbreviation_of f) f) (map2 More (expanded a) (map2 More (expanded b) (expanded_each z)))
      ]
  expanded (Pair (Pair l (Pair xs (Pair b z))) r) =
      lambda_of (same_object l (symbol "LAMBDA") && same_object z NIL) (names_of xs) (expanded b) (expanded_each r)
  expanded _ = None

  pub expanded_each : Object → Option Terms
  expanded_each (Symbol s) = if_nil s NoTerms
  expanded_each (Pair a r) = map2 More (expanded a) (expanded_each r)
  expanded_each _ = None

  pub clause : Object → Option (Term × Term)
  clause (Pair c (Pair e (Symbol s))) = when (same_name s nil_name) (option_zip (expanded c) (expanded e))
  clause _ = None

  pub clauses : Object → Option Term
  clauses (Symbol s) = if_nil s (Constant NIL)
  clauses (Pair a r) = cond_term (clause a) (clauses r)
  clauses _ = None

  pub binding : Object → Option (Name × Term)
  binding (Pair (Symbol x) (Pair e (Symbol s))) = when (same_name s nil_name) (option_map (λ t. (x, t)) (expanded e))
  binding _ = None

  pub bindings : Object → Option (List (Name × Term))
  bindings (Symbol s) = if_nil s []
  bindings (Pair a r) = and_more (binding a) (bindings r)
  bindings _ = None

  -- (let* () b) is b, (let* ((x e) ..) b) is (let ((x e)) (let* (..) b))
  pub let_star : Object → Option Term → Option Term
  let_star (Symbol s) b = when (same_name s nil_name) b
  let_star (Pair a r) b = map2 (λ p c. let_term (p ∷ []) c) (binding a) (let_star r b)
  let_star _ b = None

-- the expansion of a raw term, where that is a term under the arity table
abbrev pub expand : ArityTable → Object → Option Term
expand A raw = that (is_term A) (expanded raw)
