-- Why an object is no term, or no formula: its first part that should be one and is not. What is inside a part comes before the part itself, from left to right.
use Rattle.std.specs.Prelude.{Bool, cond, List, [], ◌∷◌, Option, Some, None, option_map, option_to_list, is_some}
use Rattle.std.specs.Option.{option_or}
use Rattle.mw_model.specs.Terms.Object.{Name, Object, Natural, Symbol, Pair, named, symbol, same_name, same_object}
use Rattle.mw_model.specs.Terms.Term.{ArityTable, arity_of, is_term}
use Rattle.mw_model.specs.Terms.Reading.{term_of, formula_under, that}
use Rattle.mw_model.specs.Events.Expansion.{Abbreviation, COND, LET, LETSTAR, QUOTE, Other, abbreviation_of, expand}

-- nothing, where x passes the test; else what is found inside, and x where nothing is
abbrev pub or_itself : (Object → Bool) → Object → Option Object → Option Object
or_itself good x inside = cond (good x) None (option_or inside (Some x))

-- The first part of an object that should pass the test and does not. `form` says what a word at the head of a list means. A call by a
-- name that is not in the table is not looked into.
abbrev mutual
  pub bad_part : (Name → Abbreviation) → (Object → Bool) → ArityTable → Object → Option Object
  bad_part form good A (Pair (Symbol f) r) =
      or_itself good (Pair (Symbol f) r)
      (elim (form f) [ QUOTE ↦ None | COND ↦ bad_in_clauses form good A r | LET ↦ bad_in_let form good A r | LETSTAR ↦ bad_in_let form good A r | Other ↦ cond (is_some (arity_of A f)) (bad_in_list form good A r) None | _ ↦ bad_in_list form good A r ])
  bad_part form good A (Pair (Pair l (Pair xs (Pair b z))) r) = or_itself good (Pair (Pair l (Pair xs (Pair b z))) r) (option_or (bad_part form good A b) (bad_in_list form good A r))
  bad_part form good A x = or_itself good x None

  -- that of the members of a list; of clauses (c e); of bindings (x e); of bindings and a body
  pub bad_in_list : (Name → Abbreviation) → (Object → Bool) → ArityTable → Object → Option Object
  bad_in_list form good A (Pair a r) = option_or (bad_part form good A a) (bad_in_list form good A r)
  bad_in_list form good A _ = None

  pub bad_in_clauses : (Name → Abbreviation) → (Object → Bool) → ArityTable → Object → Option Object
  bad_in_clauses form good A (Pair a r) = option_or (bad_in_list form good A a) (bad_in_clauses form good A r)
  bad_in_clauses form good A _ = None

  pub bad_in_bindings : (Name → Abbreviation) → (Object → Bool) → ArityTable → Object → Option Object
  bad_in_bindings form good A (Pair (Pair x e) r) = option_or (bad_in_list form good A e) (bad_in_bindings form good A r)
  bad_in_bindings form good A _ = None

  pub bad_in_let : (Name → Abbreviation) → (Object → Bool) → ArityTable → Object → Option Object
  bad_in_let form good A (Pair ps b) = option_or (bad_in_bindings form good A ps) (bad_in_list form good A b)
  bad_in_let form good A _ = None

-- of a raw term, in which the words of abbreviations count
abbrev pub bad_raw : ArityTable → Object → Option Object
bad_raw A x = bad_part abbreviation_of (λ y. is_some (expand A y)) A x

-- of a term as it stands in formulas and proofs
abbrev pub plain_form : Name → Abbreviation
plain_form f = cond (same_name f (named "QUOTE")) QUOTE Other

abbrev pub bad_term : ArityTable → Object → Option Object
bad_term A x = bad_part plain_form (λ y. is_some (that (is_term A) (term_of y))) A x

-- of a formula
abbrev pub or_formula : ArityTable → Object → Option Object → Option Object
or_formula A x inside = or_itself (λ y. is_some (formula_under A y)) x inside

abbrev pub bad_formula : ArityTable → Object → Option Object
bad_formula A (Pair h (Pair a (Pair b z))) =
    or_formula A (Pair h (Pair a (Pair b z)))
    (cond (same_object h (symbol "PEQUAL*")) (option_or (bad_term A a) (bad_term A b)) (cond (same_object h (symbol "POR*")) (option_or (bad_formula A a) (bad_formula A b)) None))
bad_formula A (Pair h (Pair a z)) = or_formula A (Pair h (Pair a z)) (cond (same_object h (symbol "PNOT*")) (bad_formula A a) None)
bad_formula A x = or_formula A x None

-- the arity that the table gives a symbol, where it gives one
abbrev pub arity_shown : ArityTable → Object → List Object
arity_shown A (Symbol f) = option_to_list (option_map Natural (arity_of A f))
arity_shown A _ = []

-- a part, and the arity of the symbol that it is or begins with
abbrev pub head_of : Object → Object
head_of (Pair h r) = h
head_of x = x

abbrev pub part_shown : ArityTable → Option Object → List Object
part_shown A (Some x) = x ∷ arity_shown A (head_of x)
part_shown A None = []
