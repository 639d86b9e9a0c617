-- How long the texts of objects are, up to a bound.
use Rattle.std.specs.Prelude.{◌≡◌, ℕ, ◌+◌, ◌-◌, ◌<◌, cond, ltb, min, true, List, [], ◌∷◌, ◌++◌, length, map, get_or, ◌⊎◌}
use Rattle.mw_model.specs.Terms.Object.{Object, Natural, Symbol, Pair, is_name, same_name, nil_name}
use Rattle.mw_model.specs.Texts.Printing.{text_of, tail_text}
use Rattle.mw_heap.specs.Cells.{object}
use Rattle.mw_heap.specs.declared.store.cell.Cell.{Cell}
use Rattle.mw_heap.specs.declared.store.cell.Cell.TheVariants.{Small, Large, Symbol as Named, Pair as Parts}
use Rattle.mw_heap.specs.declared.store.lengths.Length.{Length}
use Rattle.mw_heap.specs.declared.store.lengths.Length.TheVariants.{Nil, Atom, Pair as Joined, Long}

-- the length of an object's text, of which at most 65,537 counts
abbrev pub text_length : Object → ℕ
text_length x = min (length (text_of x)) 65537

-- the same of its text as the tail of a list, but for the closing parenthesis
abbrev pub tail_length : Object → ℕ
tail_length x = min (length (tail_text x) - 1) 65537

-- the length that is kept of an object that is no pair and not NIL, and of a pair, by that of its text
abbrev pub atom_length : ℕ → Length
atom_length text = cond (ltb 65536 text) Long (Atom (text - 1))

abbrev pub pair_length : ℕ → Length
pair_length text = cond (ltb 65537 text) Long (Joined (text - 2))

abbrev pub length_of : Object → Length
length_of (Natural n) = atom_length (length (text_of (Natural n)))
length_of (Symbol s) = cond (same_name s nil_name) Nil (atom_length (length (text_of (Symbol s))))
length_of (Pair a d) = pair_length (length (text_of (Pair a d)))

-- what such a length tells of the text, and of the text as the tail of a list
abbrev pub text_told : Length → ℕ
text_told Nil = 3
text_told (Atom less) = less + 1
text_told (Joined less) = less + 2
text_told Long = 65537

abbrev pub tail_told : Length → ℕ
tail_told Nil = 0
tail_told (Atom less) = min (less + 4) 65537
tail_told (Joined less) = less + 1
tail_told Long = 65537

module _ (naturals : List ℕ) (names : List (List ℕ)) where
  -- what a cell points to is there, with a length of its own where it is an object
  abbrev pub IsMeasurable : List Length → Cell → Type 0
  IsMeasurable lengths (Small n) = Unit {0}
  IsMeasurable lengths (Large i) = i < length naturals
  IsMeasurable lengths (Named i) = (i < length names) × (is_name (get_or names i []) ≡ true)
  IsMeasurable lengths (Parts a b) = (a < length lengths) × (b < length lengths)

  -- the length of the cell's object, over older objects of these lengths
  abbrev pub IsLengthOf : List Length → Cell → Length → Type 0
  IsLengthOf lengths c measured = (os : List Object) → lengths ≡ map length_of os → measured ≡ length_of (object naturals names os c)

  -- a cell that is new goes last, and its length does
  abbrev pub Measures : (old new : List Cell) (lengths lengths' : List Length) → Cell → Type 0
  Measures old new lengths lengths' c = ((new ≡ old) × (lengths' ≡ lengths)) ⊎ ((new ≡ old ++ c ∷ []) × (measured : Length) × (lengths' ≡ lengths ++ measured ∷ []) × IsLengthOf lengths c measured)
