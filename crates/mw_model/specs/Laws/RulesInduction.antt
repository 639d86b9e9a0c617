-- The rule of induction as a test on objects.
use Rattle.std.specs.Prelude.{Bool, false, ◌&&◌, ◌+◌, eqb, ℕ, cond, List, [], ◌∷◌}
use Rattle.mw_model.specs.Terms.Object.{Object, Natural, Symbol, Pair, symbol, same_name, same_object, nil_name, NIL, T, car, cdr, second_of, third_of, has_members, list2, list3}
use Rattle.mw_model.specs.Terms.Term.{ArityTable, Formula, formula_object}
use Rattle.mw_model.specs.Values.Primitive.{is_pair}
use Rattle.mw_model.specs.Laws.Rules.{equal_object, not_object, or_object, substitute_object, substitute_formula_object, is_substitution_object}

-- a proper list of formulas
abbrev pub formulas_object : List Formula → Object
formulas_object [] = NIL
formulas_object (F ∷ Fs) = Pair (formula_object F) (formulas_object Fs)

abbrev pub is_list_object : Object → Bool
is_list_object (Natural n) = false
is_list_object (Symbol s) = same_name s nil_name
is_list_object (Pair a r) = is_list_object r

-- how many pairs follow one another
abbrev pub length_object : Object → ℕ
length_object (Natural n) = 0
length_object (Symbol s) = 0
length_object (Pair a r) = 1 + length_object r

-- proper lists of substitutions, and of lists of these
abbrev pub are_substitution_objects : ArityTable → Object → Bool
are_substitution_objects A (Pair s r) = is_substitution_object A s && are_substitution_objects A r
are_substitution_objects A (Natural n) = false
are_substitution_objects A (Symbol s) = same_name s nil_name

abbrev pub are_case_objects : ArityTable → Object → Bool
are_case_objects A (Pair ss r) = are_substitution_objects A ss && are_case_objects A r
are_case_objects A (Natural n) = false
are_case_objects A (Symbol s) = same_name s nil_name

-- A1 or .. or An
abbrev pub disjunction_object : Object → Object
disjunction_object (Pair a r) = cond (is_pair r) (or_object a (disjunction_object r)) a
disjunction_object (Natural n) = NIL
disjunction_object (Symbol s) = NIL

-- not A/s for each substitution s of the list
abbrev pub hypotheses_object : Object → Object → Object
hypotheses_object a (Pair s r) = Pair (not_object (substitute_formula_object s a)) (hypotheses_object a r)
hypotheses_object a (Natural n) = NIL
hypotheses_object a (Symbol s) = NIL

-- A or not q or not A/s or .. for each condition q, and then the rest
abbrev pub steps_object : Object → Object → Object → Object → Object
steps_object a (Pair q qs) ss rest = Pair (disjunction_object (Pair a (Pair (not_object q) (hypotheses_object a (car ss))))) (steps_object a qs (cdr ss) rest)
steps_object a (Natural n) ss rest = rest
steps_object a (Symbol s) ss rest = rest

abbrev pub true_object : Object → Object
true_object t = equal_object t (list2 (symbol "QUOTE") T)

-- (ordp m) = 't
abbrev pub ordinal_object : Object → Object
ordinal_object m = true_object (list2 (symbol "ORDP") m)

-- not q or (ord< m/s m) = 't
abbrev pub fall_object : Object → Object → Object → Object
fall_object m q s = or_object (not_object q) (true_object (list3 (symbol "ORD<") (substitute_object s m) m))

-- one for each substitution of the list, and then the rest
abbrev pub falls_object : Object → Object → Object → Object → Object
falls_object m q (Pair s r) rest = Pair (fall_object m q s) (falls_object m q r rest)
falls_object m q (Natural n) rest = rest
falls_object m q (Symbol s) rest = rest

-- those for each condition
abbrev pub all_falls_object : Object → Object → Object → Object
all_falls_object m (Pair q qs) ss = falls_object m q (car ss) (all_falls_object m qs (cdr ss))
all_falls_object m (Natural n) ss = NIL
all_falls_object m (Symbol s) ss = NIL

-- the premises of an induction by the measure m, the conditions qs and their lists of substitutions ss
abbrev pub premises_object : Object → Object → Object → Object → Object
premises_object a m qs ss = Pair (disjunction_object (Pair a qs)) (steps_object a qs ss (Pair (ordinal_object m) (all_falls_object m qs ss)))

abbrev pub object_is_induction_by : ArityTable → Object → Object → Object → Object → Object → Bool
object_is_induction_by A c ps m qs ss =
    is_list_object qs && (eqb (length_object qs) (length_object ss) && (are_case_objects A ss && same_object ps (premises_object c m qs ss)))

-- from the premises ps of the induction that x stands for, A
abbrev pub object_is_induction : ArityTable → Object → Object → Object → Bool
object_is_induction A c ps x = has_members 3 x && object_is_induction_by A c ps (car x) (second_of x) (third_of x)
