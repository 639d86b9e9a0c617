-- Where the pairs that stand more than once have labels, and the labels suffice, each distinct pair is written out once.
use Rattle.std.proofs.Common.{◌≡◌, ℕ, zero, suc, ◌+◌, ◌<◌, ◌≤◌, Bool, true, false, List, [], ◌∷◌, length, refl, ap, arith}
use Rattle.std.specs.Prelude.{sum_by}
use Rattle.std.specs.Map.{keys_of}
use Rattle.mw_model.specs.Terms.Object.{Object, Natural, Symbol, Pair, same_object, weight}
use Rattle.mw_model.specs.Values.Primitive.{is_pair}
use Rattle.mw_model.specs.Texts.Written.{pairs_in, distinct_pairs, pair_room, IsCompact}
use Rattle.mw_model.proofs.Names.{same_object-eq}
use Rattle.mw_heap.specs.Cells.{one_if}
use Rattle.mw_print.specs.Labelling.{Labels, most_label, datum, labelled_text}
use Rattle.mw_print.specs.Repeats.{parts_equal, stands}
use Rattle.mw_print.proofs.LabelledText.{none_small}
use Rattle.mw_print.proofs.Times.{total, times, total-sum_by, total-within, times-firsts}
use Rattle.mw_print.proofs.Walked.{Walk, walked, walk_within, walk_lighter, walk_parts, each_number, held, held_within, held_once, held_opened}

heavier : (p q : Object) → 1 ≤ parts_equal p q → (is_pair q ≡ true) × (weight p < weight q)
heavier p (Natural n) h = absurd (omega arith)
heavier p (Symbol s) h = absurd (omega arith)
heavier p (Pair a d) h = (refl, go (same_object a p) (same_object d p) refl refl h)
  where
    go : (b c : Bool) → same_object a p ≡ b → same_object d p ≡ c → 1 ≤ one_if b + one_if c → weight p < weight (Pair a d)
    go true c e f h = omega (arith, ap weight (same_object-eq a p e))
    go false true e f h = omega (arith, ap weight (same_object-eq d p f))
    go false false e f h = absurd (omega arith)

pair_of_room : (q : Object) → 1 ≤ pair_room q → is_pair q ≡ true
pair_of_room (Natural n) h = absurd (omega arith)
pair_of_room (Symbol s) h = absurd (omega arith)
pair_of_room (Pair a d) h = refl

length-keys : (es : List (Object × ℕ)) → length es ≡ total (λ y. 1) (keys_of es)
length-keys [] = refl
length-keys (e ∷ es) = omega (arith, length-keys es)

length-total : (xs : List Object) → length xs ≡ total (λ y. 1) xs
length-total [] = refl
length-total (x ∷ xs) = omega (arith, length-total xs)

pub at_most : (n m : ℕ) → n ≤ 1 → (1 ≤ n → 1 ≤ m) → n ≤ m
at_most zero m h k = omega arith
at_most (suc n) m h k = omega (arith, h, k (omega arith))

module _ (s : Object → Bool) (x : Object) (first : ℕ) where
  abbrev start : Labels
  start = record { given = []; next = first }

  module _ (after : Labels) (o : List Object) (walk : Walk s x start after o) where
    among_pairs : (q : Object) → times q o ≤ 1 → times q o ≤ times q (distinct_pairs x)
    among_pairs q once = at_most (times q o) (times q (distinct_pairs x)) once (λ h. (times-firsts q (pairs_in x)).1 (omega (arith, h, walk_within s q x start after o walk)))

    once_held : (q : Object) → held s q after ≤ 1
    once_held q = held_once s q x start after o walk (omega arith)

    few_labels : length after.given ≤ length (distinct_pairs x)
    few_labels =
        let within = total-within (λ y. 1) (keys_of after.given) (distinct_pairs x)
        (λ q h. at_most (held s q after) (times q (distinct_pairs x)) (once_held q)
        (λ k. (times-firsts q (pairs_in x)).1 (omega (arith, k, held_within s q x start after o walk)))) in
        omega (arith, within, length-keys after.given, length-total (distinct_pairs x))

    module _ (repeated : (p : Object) → is_pair p ≡ true → s p ≡ false → stands p x ≤ 1) (enough : after.next ≤ most_label) where
      -- the pairs that are heavier than p are written out once, so p stands in them no more often than in the distinct pairs
      opened_once : (j : ℕ) (p : Object) → is_pair p ≡ true → weight x < weight p + j → times p o ≤ 1
      opened_once zero p pair h = omega (arith, walk_lighter s p x start after o walk (omega (arith, h)))
      opened_once (suc j) p pair h = go (s p) refl (opened_once j)
        where
          go : (b : Bool) → s p ≡ b → ((q : Object) → is_pair q ≡ true → weight x < weight q + j → times q o ≤ 1) → times p o ≤ 1
          go true e more = omega (arith, held_opened s p e x start after o walk enough, once_held p)
          go false e more =
              let within = total-within (parts_equal p) o (distinct_pairs x) (λ q k. let w = heavier p q k in among_pairs q (more q w.0 (omega (arith, h, w.1)))) in
              omega (arith, within, walk_parts s p x start after o walk, repeated p pair e, total-sum_by (parts_equal p) (distinct_pairs x))

      opened_room : total pair_room o ≤ sum_by pair_room (distinct_pairs x)
      opened_room =
          let within = total-within pair_room o (distinct_pairs x) (λ q k. among_pairs q (opened_once (suc (weight x)) q (pair_of_room q k) (omega arith))) in
          omega (arith, within, total-sum_by pair_room (distinct_pairs x))

  pub labelled_texts_are_compact : ((p : Object) → is_pair p ≡ true → s p ≡ false → stands p x ≤ 1) → IsCompact x first (labelled_text s x first)
  labelled_texts_are_compact repeated long suffice =
      let w = walked s x start (none_small first) in
      let after = (datum s x start).after in
      let enough : after.next ≤ most_label = omega (arith, suffice, few_labels after w.opened w.walk, each_number s x start after w.opened w.walk) in
      omega (arith, w.first refl, opened_room after w.opened w.walk repeated enough)
