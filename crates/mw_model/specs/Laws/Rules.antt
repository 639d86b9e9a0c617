-- The rules of the table of methods as tests on objects, but for induction. On objects of formulas each holds exactly where its rule does.
use Rattle.std.specs.Prelude.{Bool, false, ◌&&◌, cond, List, [], ◌∷◌, Option, Some, None, is_some}
use Rattle.mw_model.specs.Terms.Object.{Name, Object, Natural, Symbol, Pair, named, symbol, same_name, same_object, nil_name, NIL, car, cdr, second_of, third_of, list2, list3}
use Rattle.mw_model.specs.Terms.Term.{ArityTable, is_function_name, is_variable, is_term}
use Rattle.mw_model.specs.Terms.Reading.{term_of, that, formula_under}
use Rattle.mw_model.specs.Values.Primitive.{Profile, Primitive, primitive_named, apply, choose, is_pair, first_value, second_value}

-- the object of a term, of a formula, of a variable
abbrev pub is_term_object : ArityTable → Object → Bool
is_term_object A x = is_some (that (is_term A) (term_of x))

abbrev pub is_formula_object : ArityTable → Object → Bool
is_formula_object A x = is_some (formula_under A x)

abbrev pub is_variable_object : Object → Bool
is_variable_object (Natural n) = false
is_variable_object (Symbol x) = is_variable x
is_variable_object (Pair a b) = false

-- formulas from the objects of their parts, and back
abbrev pub equal_object : Object → Object → Object
equal_object a b = list3 (symbol "PEQUAL*") a b

abbrev pub not_object : Object → Object
not_object a = list2 (symbol "PNOT*") a

abbrev pub or_object : Object → Object → Object
or_object a b = list3 (symbol "POR*") a b

abbrev pub is_equal_object : Object → Bool
is_equal_object c = same_object (car c) (symbol "PEQUAL*")

abbrev pub is_or_object : Object → Bool
is_or_object c = same_object (car c) (symbol "POR*")

-- not A or A
abbrev pub object_is_schema : Object → Bool
object_is_schema c = is_or_object c && same_object (second_of c) (not_object (third_of c))

-- from A, B or A
abbrev pub object_is_expansion : Object → Object → Bool
object_is_expansion c a = is_or_object c && same_object (third_of c) a

-- from A or A, A
abbrev pub object_is_contraction : Object → Object → Bool
object_is_contraction c a = same_object a (or_object c c)

-- from A or (B or C), (A or B) or C
abbrev pub object_is_associativity : Object → Object → Bool
object_is_associativity c a =
    is_or_object a && (is_or_object (third_of a) && same_object c (or_object (or_object (second_of a) (second_of (third_of a))) (third_of (third_of a))))

-- from A or B and not A or C, B or C
abbrev pub object_is_cut : Object → Object → Object → Bool
object_is_cut c a b = is_or_object a && (is_or_object b && (same_object (second_of b) (not_object (second_of a)) && same_object c (or_object (third_of a) (third_of b))))

-- the last disjunct of c
abbrev pub last_disjunct_object : Object → Object
last_disjunct_object (Pair h (Pair a (Pair b z))) = cond (same_object h (symbol "POR*")) (last_disjunct_object b) (Pair h (Pair a (Pair b z)))
last_disjunct_object x = x

-- not a1 = b1 or .. or not an = bn or e, for two lists of terms
abbrev pub unless_equal_object : Object → Object → Object → Object
unless_equal_object (Pair a ts) (Pair b us) e = or_object (not_object (equal_object a b)) (unless_equal_object ts us e)
unless_equal_object _ _ e = e

-- two calls of one function
abbrev pub are_calls_of_one : Object → Object → Bool
are_calls_of_one (Pair (Symbol f) ts) (Pair (Symbol g) us) = is_function_name f && same_name f g
are_calls_of_one _ _ = false

abbrev pub object_ends_with_equality : Object → Object → Bool
object_ends_with_equality c e = is_equal_object e && (are_calls_of_one (second_of e) (third_of e) && same_object c (unless_equal_object (cdr (second_of e)) (cdr (third_of e)) e))

-- not a1 = b1 or .. or not an = bn or (f a1 .. an) = (f b1 .. bn)
abbrev pub object_is_functional_equality : Object → Bool
object_is_functional_equality c = object_ends_with_equality c (last_disjunct_object c)

-- what stands for the variable x
abbrev pub image_object : Object → Object → Object
image_object (Pair p s) x = cond (same_object (car p) x) (cdr p) (image_object s x)
image_object _ x = x

-- a term under a substitution: in a list that does not begin with QUOTE, each member but the first
abbrev mutual
  pub substitute_object : Object → Object → Object
  substitute_object s (Pair h r) = cond (same_object h (symbol "QUOTE")) (Pair h r) (Pair h (substitute_each_object s r))
  substitute_object s (Natural n) = image_object s (Natural n)
  substitute_object s (Symbol x) = image_object s (Symbol x)

  pub substitute_each_object : Object → Object → Object
  substitute_each_object s (Pair a r) = Pair (substitute_object s a) (substitute_each_object s r)
  substitute_each_object s (Natural n) = NIL
  substitute_each_object s (Symbol x) = NIL

-- a formula under a substitution
abbrev pub substitute_formula_object : Object → Object → Object
substitute_formula_object s (Pair h (Pair a (Pair b z))) =
    cond (same_object h (symbol "PEQUAL*")) (list3 h (substitute_object s a) (substitute_object s b)) (list3 h (substitute_formula_object s a) (substitute_formula_object s b))
substitute_formula_object s (Pair h (Pair a (Symbol n))) = list2 h (substitute_formula_object s a)
substitute_formula_object s _ = NIL

-- the actuals for the formals
abbrev pub actuals_object : Object → Object → Object
actuals_object (Pair x xs) (Pair t ts) = Pair (Pair x t) (actuals_object xs ts)
actuals_object _ _ = NIL

-- the body of a lambda call with the actuals for the formals
abbrev pub beta_object : Object → Object
beta_object l = substitute_object (actuals_object (second_of (car l)) (cdr l)) (third_of (car l))

-- ((lambda (x1 .. xn) b) t1 .. tn) = b with t1 .. tn for x1 .. xn
abbrev pub object_is_beta : Object → Bool
object_is_beta c = is_equal_object c && (is_pair (car (second_of c)) && same_object (third_of c) (beta_object (second_of c)))

-- (quote c), and proper lists of such
abbrev pub is_constant_object : Object → Bool
is_constant_object (Pair h (Pair c (Symbol n))) = same_object h (symbol "QUOTE") && same_name n nil_name
is_constant_object _ = false

abbrev pub are_constant_objects : Object → Bool
are_constant_objects (Pair a r) = is_constant_object a && are_constant_objects r
are_constant_objects (Natural n) = false
are_constant_objects (Symbol n) = same_name n nil_name

abbrev pub unquoted : Object → List Object
unquoted (Pair a r) = second_of a ∷ unquoted r
unquoted (Natural n) = []
unquoted (Symbol n) = []

abbrev pub third_value : List Object → Object
third_value [] = NIL
third_value (v ∷ vs) = second_value vs

-- the value of a primitive, or of IF, where f is the name of one
abbrev pub value_by : Option Primitive → List Object → Option Object
value_by None vs = None
value_by (Some p) vs = Some (apply p vs)

abbrev pub primitive_value : Profile → Name → List Object → Option Object
primitive_value P f vs = cond (same_name f (named "IF")) (Some (choose (first_value vs) (second_value vs) (third_value vs))) (value_by (primitive_named P f) vs)

abbrev pub is_that_value : Option Object → Object → Bool
is_that_value None v = false
is_that_value (Some u) v = same_object u v

-- (f 'c1 .. 'cn), where f is a primitive or IF and v its value
abbrev pub is_call_with_value : Profile → Object → Object → Bool
is_call_with_value P (Pair (Symbol f) ts) v = are_constant_objects ts && is_that_value (primitive_value P f (unquoted ts)) v
is_call_with_value P _ v = false

-- (f 'c1 .. 'cn) = 'v, where f is a primitive or IF and v its value
abbrev pub object_is_base_eval : Profile → Object → Bool
object_is_base_eval P c = is_equal_object c && (is_constant_object (third_of c) && is_call_with_value P (second_of c) (second_of (third_of c)))

-- a proper list of pairs (variable . term)
abbrev pub is_substitution_object : ArityTable → Object → Bool
is_substitution_object A (Pair p s) = is_pair p && (is_variable_object (car p) && (is_term_object A (cdr p) && is_substitution_object A s))
is_substitution_object A (Natural n) = false
is_substitution_object A (Symbol n) = same_name n nil_name

-- from A, A under the substitution s
abbrev pub object_is_instance : ArityTable → Object → Object → Object → Bool
object_is_instance A c a s = is_substitution_object A s && same_object c (substitute_formula_object s a)
