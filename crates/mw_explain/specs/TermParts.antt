-- Where to look on for the first part that is not a term.
use Rattle.std.specs.Prelude.{◌≡◌, ℕ, ◌<◌, Bool, true, false, ◌&&◌, not, List, Option, Some, None, is_some}
use Rattle.mw_model.specs.Terms.Object.{Object, Symbol, Pair, named, same_name}
use Rattle.mw_model.specs.Terms.Term.{ArityTable, arity_of}
use Rattle.mw_model.specs.Laws.Rules.{is_term_object}
use Rattle.mw_heap.specs.Objects.{object_at}
use Rattle.mw_commands.specs.Commands.ExplanationTerms.{bad_in_list, bad_term, plain_form}

-- the first bad part of the members of a list of terms
abbrev pub bad_terms : ArityTable → Object → Option Object
bad_terms A x = bad_in_list plain_form (is_term_object A) A x

-- p is before x, and not a term
abbrev pub IsBefore : ArityTable → List Object → ℕ → ℕ → Type 0
IsBefore A os x p = (p < x) × (is_term_object A (object_at os p) ≡ false)

-- the first member of a list that is not a term
abbrev pub IsFirstMember : ArityTable → List Object → ℕ → Option ℕ → Type 0
IsFirstMember A os list None = bad_terms A (object_at os list) ≡ None
IsFirstMember A os list (Some p) = (bad_terms A (object_at os list) ≡ bad_term A (object_at os p)) × IsBefore A os list p

-- where to look on in x, which is not a term: x itself is the part, or it is in p
abbrev pub Leads : ArityTable → List Object → ℕ → Option ℕ → Type 0
Leads A os x None = bad_term A (object_at os x) ≡ Some (object_at os x)
Leads A os x (Some p) = (bad_term A (object_at os x) ≡ bad_term A (object_at os p)) × IsBefore A os x p

-- a symbol other than QUOTE that the table has
abbrev pub is_called : ArityTable → Object → Bool
is_called A (Symbol f) = not (same_name f (named "QUOTE")) && is_some (arity_of A f)
is_called A _ = false

abbrev pub has_third : Object → Bool
has_third (Pair l (Pair xs (Pair b z))) = true
has_third _ = false

-- the third member of a list, where it has one
abbrev pub IsThird : List Object → ℕ → Option ℕ → Type 0
IsThird os x None = has_third (object_at os x) ≡ false
IsThird os x (Some b) = (l xs z : Object) × (object_at os x ≡ Pair l (Pair xs (Pair (object_at os b) z))) × (b < x)
