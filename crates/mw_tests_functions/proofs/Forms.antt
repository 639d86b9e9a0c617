-- Terms that are made of others.
use Rattle.std.proofs.Common.{◌≡◌, ℕ, true, List, [], Some, refl, ap, ap₂, ◌∙◌, option_map}
use Rattle.std.proofs.lemmas.Bool.{and_from}
use Rattle.mw_model.specs.Terms.Object.{Object, Natural, Pair, symbol, named, NIL}
use Rattle.mw_model.specs.Terms.Term.{Call, Constant, NoTerms, More, is_term, is_closed}
use Rattle.mw_model.specs.Terms.Reading.{term_of, map2}
use Rattle.mw_model.specs.Values.Definition.{arity_table}
use Rattle.mw_heap.specs.Objects.{object_at, IsIn, Grows}
use Rattle.mw_heap.proofs.Objects.{IsIn-Grows, object_at-Grows}
use Rattle.mw_tests_functions.specs.Tested.{no_functions, IsSomeTerm}

pub term-grows : (old new : List Object) → Grows old new → (x : ℕ) → IsSomeTerm old x → IsSomeTerm new x
term-grows old new g x (t, h) = (t, record { within = IsIn-Grows old new g x h.within; read = ap term_of (object_at-Grows old new g x h.within) ∙ h.read; term = h.term; closed = h.closed })

pub constant-term : (os : List Object) (r : ℕ) (n : ℕ) → IsIn os r → object_at os r ≡ Pair (symbol "QUOTE") (Pair (Natural n) NIL) → IsSomeTerm os r
constant-term os r n within is = (Constant (Natural n), record { within = within; read = ap term_of is; term = refl; closed = refl })

pub car-term : (os : List Object) (r x : ℕ) → IsIn os r → IsSomeTerm os x → object_at os r ≡ Pair (symbol "CAR") (Pair (object_at os x) NIL) → IsSomeTerm os r
car-term os r x within (t, h) is = (
  Call (named "CAR") (More t NoTerms),
  record {
    within = within;
    read = ap term_of is ∙ ap (λ o. option_map (Call (named "CAR")) (map2 More o (Some NoTerms))) h.read;
    term = and_from (is_term (arity_table no_functions) t) true h.term refl;
    closed = and_from (is_closed [] t) true h.closed refl;
  },
)

pub sum-term : (os : List Object) (r x y : ℕ) → IsIn os r → IsSomeTerm os x → IsSomeTerm os y → object_at os r ≡ Pair (symbol "+") (Pair (object_at os x) (Pair (object_at os y) NIL)) → IsSomeTerm os r
sum-term os r x y within (t, h) (u, k) is = (
  Call (named "+") (More t (More u NoTerms)),
  record {
    within = within;
    read = ap term_of is ∙ ap₂ (λ o p. option_map (Call (named "+")) (map2 More o (map2 More p (Some NoTerms)))) h.read k.read;
    term = and_from (is_term (arity_table no_functions) t) _ h.term (and_from (is_term (arity_table no_functions) u) true k.term refl);
    closed = and_from (is_closed [] t) _ h.closed (and_from (is_closed [] u) true k.closed refl);
  },
)
