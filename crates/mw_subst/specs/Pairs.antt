-- Lists of pairs, as substitutions are.
use Rattle.std.specs.Prelude.{Bool, false}
use Rattle.mw_model.specs.Terms.Object.{Object, Natural, Symbol, Pair, same_name, nil_name}

-- a proper list of pairs
abbrev pub is_list_of_pairs : Object → Bool
is_list_of_pairs (Pair (Pair a b) r) = is_list_of_pairs r
is_list_of_pairs (Pair (Natural n) r) = false
is_list_of_pairs (Pair (Symbol n) r) = false
is_list_of_pairs (Natural n) = false
is_list_of_pairs (Symbol n) = same_name n nil_name
