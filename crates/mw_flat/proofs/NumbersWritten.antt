-- An atom or a list of naturals may be written as its text, however long: no pair stands twice in it.
use Rattle.std.proofs.Common.{◌≡◌, ℕ, suc, ◌+◌, ◌<◌, ◌≤◌, Bool, true, false, List, [], ◌∷◌, ◌++◌, length, refl, ap, arith, length-append}
use Rattle.mw_model.specs.Terms.Object.{Object, Natural, Symbol, Pair, same_object, same_name, nil_name, weight}
use Rattle.mw_model.specs.Values.Primitive.{is_pair}
use Rattle.mw_model.specs.Texts.Printing.{name_text, end_text, numeral, text_of, tail_text}
use Rattle.mw_model.specs.Texts.Written.{pairs_in, distinct_pairs, atom_length, pair_room, IsCompact}
use Rattle.mw_model.proofs.Names.{same_object-eq}
use Rattle.mw_heap.specs.Cells.{one_if}
use Rattle.mw_commands.specs.Commands.Flattening.{number_among, numbers_among}
use Rattle.mw_print.proofs.Times.{total, times, total-sum_by, total-append, total-within, times-firsts}
use Rattle.mw_print.proofs.Compact.{at_most}

-- ---- how long a text is

end_within : (b : Bool) (t : List ℕ) → length (end_text b t) ≤ 4 + length t
end_within true t = omega arith
end_within false t = omega (arith, length-append t (41 ∷ []))

-- of a pair, by its parts
pair_within : (a d : Object) → length (text_of a) ≤ atom_length a + total pair_room (pairs_in a) → length (tail_text d) ≤ 4 + (atom_length d + total pair_room (pairs_in d)) →
    suc (length (text_of a ++ tail_text d)) ≤ pair_room (Pair a d) + total pair_room (pairs_in a ++ pairs_in d)
pair_within a d h k = omega (arith, h, k, length-append (text_of a) (tail_text d), total-append pair_room (pairs_in a) (pairs_in d))

mutual
  text_within : (x : Object) → length (text_of x) ≤ atom_length x + total pair_room (pairs_in x)
  text_within (Natural n) = omega arith
  text_within (Symbol s) = omega arith
  text_within (Pair a d) = omega (arith, pair_within a d (text_within a) (tail_within d))

  tail_within : (x : Object) → length (tail_text x) ≤ 4 + (atom_length x + total pair_room (pairs_in x))
  tail_within (Natural n) = omega (arith, end_within false (numeral n))
  tail_within (Symbol s) = omega (arith, end_within (same_name s nil_name) (name_text s))
  tail_within (Pair a d) = omega (arith, pair_within a d (text_within a) (tail_within d))

-- ---- where no pair stands twice

once_compact : (x : Object) (first : ℕ) → ((q : Object) → times q (pairs_in x) ≤ 1) → IsCompact x first (text_of x)
once_compact x first once long few =
    let within = total-within pair_room (pairs_in x) (distinct_pairs x) (λ q h. at_most (times q (pairs_in x)) (times q (distinct_pairs x)) (once q) (times-firsts q (pairs_in x)).1) in
    omega (arith, text_within x, within, total-sum_by pair_room (distinct_pairs x))

-- a pair stands in no lighter object
lighter : (q x : Object) → weight x < weight q → times q (pairs_in x) ≡ 0
lighter q (Natural n) h = refl
lighter q (Symbol s) h = refl
lighter q (Pair a d) h =
    go (same_object (Pair a d) q) refl (omega (arith, total-append (λ x. one_if (same_object x q)) (pairs_in a) (pairs_in d), lighter q a (omega (arith, h)), lighter q d (omega (arith, h))))
  where
    go : (b : Bool) → same_object (Pair a d) q ≡ b → times q (pairs_in a ++ pairs_in d) ≡ 0 → one_if b + times q (pairs_in a ++ pairs_in d) ≡ 0
    go true e none = absurd (omega (arith, h, ap weight (same_object-eq (Pair a d) q e)))
    go false e none = omega (arith, none)

numbers_once : (qs : List Object) (ps q : Object) → times q (pairs_in (numbers_among qs ps)) ≤ 1
numbers_once qs (Natural n) q = omega arith
numbers_once qs (Symbol s) q = omega arith
numbers_once qs (Pair p ps) q = go (same_object x q) refl (numbers_once qs ps q)
  where
    r : Object
    r = numbers_among qs ps

    x : Object
    x = Pair (Natural (number_among qs p)) r

    go : (b : Bool) → same_object x q ≡ b → times q (pairs_in r) ≤ 1 → one_if b + times q (pairs_in r) ≤ 1
    go true e more = omega (arith, lighter q r (omega (arith, ap weight (same_object-eq x q e))))
    go false e more = omega (arith, more)

-- ---- what is written

pub numbers_are_compact : (qs : List Object) (ps : Object) (first : ℕ) → IsCompact (numbers_among qs ps) first (text_of (numbers_among qs ps))
numbers_are_compact qs ps first = once_compact (numbers_among qs ps) first (numbers_once qs ps)

pub atom_is_compact : (x : Object) (first : ℕ) → is_pair x ≡ false → IsCompact x first (text_of x)
atom_is_compact (Natural n) first h = once_compact (Natural n) first (λ q. omega arith)
atom_is_compact (Symbol s) first h = once_compact (Symbol s) first (λ q. omega arith)
atom_is_compact (Pair a d) first h = cc
