-- What the marks of objects say under an arity table.
use Rattle.std.specs.Prelude.{◌≡◌, ℕ, ◌<◌, ◌≤◌, Bool, ◌&&◌, cond, List, length, slice_get, Option, Some, None, is_some, refl}
use Rattle.std.specs.Coded.{Coded, code_by, coded×, coded_bool}
use Rattle.mw_model.specs.Terms.Object.{Name, Object, Pair, symbol, same_object, NIL}
use Rattle.mw_model.specs.Terms.Term.{Term, Terms, ArityTable, count, are_formals, is_closed, is_term, are_terms}
use Rattle.mw_model.specs.Terms.Reading.{names_of, term_of, terms_of, when}
use Rattle.mw_model.specs.Laws.Rules.{is_term_object, is_formula_object}
use Rattle.mw_heap.specs.Objects.{object_at}

-- what an object is under an arity table: a term, a proper list of terms, a formula, the head of a lambda call
pub record ObjectMark : Type 0 where
  pub is_term : Bool
  pub is_terms : Bool
  pub is_formula : Bool
  pub is_head : Bool

abbrev pub coded_mark : Coded ObjectMark
coded_mark = code_by ((Bool × Bool) × (Bool × Bool)) (coded× (coded× coded_bool coded_bool) (coded× coded_bool coded_bool)) (λ m. ((m.is_term, m.is_terms), (m.is_formula, m.is_head))) (λ p. record { is_term = p.0.0; is_terms = p.0.1; is_formula = p.1.0; is_head = p.1.1 }) (λ m. refl)

-- how many terms x has, where it is a proper list of terms
abbrev pub counted : ArityTable → Option Terms → Option ℕ
counted A None = None
counted A (Some ts) = cond (are_terms A ts) (Some (count ts)) None

abbrev pub term_count : ArityTable → Object → Option ℕ
term_count A x = counted A (terms_of x)

-- how many formals x has, where it is the head of a lambda call
abbrev pub head_count : ArityTable → Option (List Name) → Option Term → Option ℕ
head_count A (Some xs) (Some b) = cond (are_formals xs && (is_closed xs b && is_term A b)) (Some (length xs)) None
head_count A _ _ = None

abbrev pub formal_count : ArityTable → Object → Option ℕ
formal_count A (Pair l (Pair xs (Pair b z))) = when (same_object l (symbol "LAMBDA") && same_object z NIL) (head_count A (names_of xs) (term_of b))
formal_count A _ = None

abbrev pub mark_of_object : ArityTable → Object → ObjectMark
mark_of_object A x = record { is_term = is_term_object A x; is_terms = is_some (term_count A x); is_formula = is_formula_object A x; is_head = is_some (formal_count A x) }

-- a list by its head and the marks of its other members: (pnot* f), and (pequal* a b) or (por* f g)
abbrev pub is_negation : Object → ObjectMark → Bool
is_negation head part = same_object head (symbol "PNOT*") && part.is_formula

abbrev pub is_binary : Object → ObjectMark → ObjectMark → Bool
is_binary head first second = cond (same_object head (symbol "PEQUAL*")) (first.is_term && second.is_term) (same_object head (symbol "POR*") && (first.is_formula && second.is_formula))

-- these are the marks of the first objects of a heap
pub record AreMarks (A : ArityTable) (os : List Object) (ms : List ObjectMark) : Type 0 where
  pub within : length ms ≤ length os
  pub each : (i : ℕ) → i < length ms → slice_get ms i ≡ Some (mark_of_object A (object_at os i))
